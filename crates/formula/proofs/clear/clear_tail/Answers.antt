-- `clear_tail` clears what is left: the invariant says that clearing from here on gives the same buffer. Assumes nothing.
use Rattle.std.proofs.Common.{◌∙◌, sym, add-one, arith}
use Rattle.formula.specs.Clear.Laws.{clear_step, clear_end}
use Rattle.formula.proofs.clear.clear_tail.Goals as goal

pub loop-i-preserved : goal.loop-i-preserved
loop-i-preserved g c =
    let l = c.loop-i in
    rw add-one (clear_step c.args.zero l.i l.buffer (omega arith) ∙ l.invariant)

pub returns : goal.returns
returns g c = let l = c.loop-i in sym (clear_end c.args.zero l.i l.buffer (omega arith)) ∙ l.invariant
