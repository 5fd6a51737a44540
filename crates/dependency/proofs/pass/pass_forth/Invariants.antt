-- `pass_forth` runs down the clauses: those that are left give the same marks. Assumes nothing.
use Prim.Native.Nat.{◌-◌}
use mathlib.Core.Path.{◌≡◌}
use mathlib.Core.Bool.{Bool}
use lib.ListN.{length, drop}
use Rattle.formula.specs.Decode.{clauses_of}
use Rattle.dependency.specs.Marks.{pass}
use Rattle.dependency.specs.Bits.{marks_in}
use Rattle.dependency.proofs.pass.pass_forth.Given as goal

abbrev pub invariant-loop-at : goal.invariant-loop-at
invariant-loop-at l =
    ((s : Bool) → pass (clauses_of (drop l.at l.clauses)) (marks_in s l.marks) ≡ pass (clauses_of l.clauses) (marks_in s l.initial.marks))

abbrev pub decreases-loop-at : goal.decreases-loop-at
decreases-loop-at l = length l.clauses - l.at
