-- `put_free` has put the entries of the free variables so far. Assumes nothing.
use Rattle.std.proofs.Common.{◌-◌}
use Rattle.formula.proofs.Theorems.Free.Complete.Laws.{PutSoFar}
use Rattle.formula.proofs.free.put_free.Given as goal

abbrev pub invariant-loop-n : goal.invariant-loop-n
invariant-loop-n l = PutSoFar l.marks l.variables l.initial.prefix l.prefix l.at (l.n - 1)
