-- `matrix_falsified` goes from clause to clause: the matrix has a clause without a true literal exactly when the clauses
-- from here on have one. Assumes nothing.
use Prim.Native.Nat.{◌-◌}
use mathlib.Core.Path.{◌≡◌}
use lib.ListN.{length, drop}
use Rattle.qbf.specs.Play.{falsified}
use Rattle.formula.specs.Decode.{matrix_of}
use Rattle.evaluator.specs.Values.{values_of}
use Rattle.evaluator.proofs.matrix.matrix_falsified.Given as goal

abbrev pub invariant-loop-i : goal.invariant-loop-i
invariant-loop-i l = falsified (values_of l.values) (matrix_of (drop l.i l.clauses)) ≡ falsified (values_of l.values) (matrix_of l.clauses)

abbrev pub decreases-loop-i : goal.decreases-loop-i
decreases-loop-i l = length l.clauses - l.i
