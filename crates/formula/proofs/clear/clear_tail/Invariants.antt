-- `clear_tail` clears what is left: the invariant says that clearing from here on gives the same buffer. Assumes nothing.
use Rattle.std.proofs.Common.{◌≡◌}
use Rattle.formula.specs.Clear.{clear_from}
use Rattle.formula.proofs.clear.clear_tail.Given as goal

abbrev pub invariant-loop-i : goal.invariant-loop-i
invariant-loop-i g l = clear_from l.zero l.i l.buffer ≡ clear_from l.zero l.from l.initial.buffer
