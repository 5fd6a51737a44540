-- `write_dependents` stores the dependents one by one: what is left to store is what the entries that the loop has not passed
-- give. Assumes nothing.
use lib.ListN.{drop}
use Rattle.formula.specs.Prefix.{prefix_of}
use Rattle.formula.specs.Store.{Remains}
use Rattle.dependency.specs.Scratch.{row_in}
use Rattle.report.specs.Dependents.Listing.{marked}
use Rattle.report.proofs.dependents.write_dependents.Given as goal

abbrev pub invariant-loop-i : goal.invariant-loop-i
invariant-loop-i l =
    Remains l.initial.text l.at (marked (row_in l.made) (prefix_of l.prefix.words.now)) l.text l.next (marked (row_in l.made) (drop l.i (prefix_of l.prefix.words.now)))
