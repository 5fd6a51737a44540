-- `pass_back` runs up the clauses from the last: the marks are those of a pass back over the clauses from here on. Assumes nothing.
use Prim.Native.Nat.{◌≤◌}
use mathlib.Core.Path.{◌≡◌}
use mathlib.Core.Bool.{Bool}
use mathlib.Core.List.{reverse}
use lib.ListN.{length, drop}
use Rattle.formula.specs.Decode.{clauses_of}
use Rattle.dependency.specs.Marks.{Boundary, pass}
use Rattle.dependency.specs.Bits.{marks_in}
use Rattle.dependency.proofs.pass.pass_back.Given as goal

abbrev pub invariant-loop-end : goal.invariant-loop-end
invariant-loop-end l =
    ((s : Bool) → marks_in s l.marks ≡ pass (reverse (clauses_of (drop l.end l.clauses))) (marks_in s l.initial.marks)) × (l.end ≤ length l.clauses) × (Boundary l.clauses l.end)

abbrev pub decreases-loop-end : goal.decreases-loop-end
decreases-loop-end l = l.end
