-- `settle` passes until the entries stay or nothing is left: the marks come from so many passes, the counts are theirs, and the direction of the
-- next one goes by how many they are. Assumes nothing.
use Prim.Native.Nat.{ℕ, ◌+◌}
use mathlib.Core.Path.{◌≡◌}
use mathlib.Core.Bool.{Bool, true, false}
use Rattle.formula.specs.Decode.{clauses_of}
use Rattle.dependency.specs.Search.{ones, entries, odd, passes}
use Rattle.dependency.specs.Bits.{marks_in}
use Rattle.dependency.proofs.search.settle.Given as goal

abbrev pub invariant-loop-left : goal.invariant-loop-left
invariant-loop-left l =
    (n : ℕ)
    × ((s : Bool) → marks_in s l.marks ≡ passes n (clauses_of l.clauses) (marks_in s l.initial.marks))
    × (l.left ≡ ones (marks_in true l.marks) + ones (marks_in false l.marks))
    × (l.reached ≡ entries (marks_in true l.marks) + entries (marks_in false l.marks))
    × (l.back ≡ odd n)

abbrev pub decreases-loop-left : goal.decreases-loop-left
decreases-loop-left l = l.left
