-- `write_prefix` stores the entries one by one, then ends the open line: what is left to store is the text of the entries
-- that the loop has not passed, after the letter of the last one. Assumes nothing.
use Rattle.std.proofs.Common.{drop}
use Rattle.formula.specs.Prefix.{prefix_of}
use Rattle.formula.specs.Store.{Remains}
use Rattle.formula.specs.Write.Stream.{prefix_text}
use Rattle.formula.proofs.write.write_prefix.Given as goal

abbrev pub invariant-loop-i : goal.invariant-loop-i
invariant-loop-i l =
    Remains l.initial.text l.at (prefix_text 0 (prefix_of l.prefix.words.now)) l.text l.next (prefix_text l.last (drop l.i (prefix_of l.prefix.words.now)))
