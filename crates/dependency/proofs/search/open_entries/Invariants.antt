-- `open_entries` runs down the prefix: what is left of it gives the same marks. Assumes nothing.
use mathlib.Core.Path.{◌≡◌}
use mathlib.Core.Bool.{Bool}
use lib.ListN.{drop}
use Rattle.formula.specs.Prefix.{prefix_of}
use Rattle.dependency.specs.Search.{open_entries}
use Rattle.dependency.specs.Bits.{marks_in, NoEntries}
use Rattle.dependency.proofs.search.open_entries.Given as goal

abbrev pub invariant-loop-i : goal.invariant-loop-i
invariant-loop-i l =
    ((s : Bool) → open_entries (drop l.i (prefix_of l.prefix.words.now)) (marks_in s l.marks) ≡ open_entries (drop l.from (prefix_of l.prefix.words.now)) (marks_in s l.initial.marks)) × NoEntries l.marks
