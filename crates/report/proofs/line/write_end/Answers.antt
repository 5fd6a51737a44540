-- `write_end` stores the column, and behind it the variable and the block of what blocks. Assumes nothing.
use mathlib.Core.Path.{sym, ◌∙◌}
use native.Mathlib.Omega.{arith}
use Rattle.formula.specs.Store.Laws.{stores_append}
use Rattle.report.specs.Line.{refused_end}
use Rattle.report.proofs.line.write_end.Goals as goal

pub returns-in-Alone : goal.returns-in-Alone
unfolding refused_end
returns-in-Alone c =
    record { stores = rw (sym c.numbers.ensures ∙ c.in-Alone.is) c.write_ended.ensures.stores; upper_bound = omega (arith, c.write_ended.ensures.upper_bound) }

pub returns-in-Blocked : goal.returns-in-Blocked
unfolding refused_end
returns-in-Blocked c =
    let column = c.write_ended-next.ensures in
    let variable = c.write_ended-next-in-Blocked.ensures in
    let block = c.write_ended-in-Blocked.ensures in
    record {
      stores = rw (sym c.numbers.ensures ∙ c.in-Blocked.is) (stores_append column.stores (stores_append variable.stores block.stores));
      upper_bound = omega (arith, column.upper_bound, variable.upper_bound, block.upper_bound);
    }
