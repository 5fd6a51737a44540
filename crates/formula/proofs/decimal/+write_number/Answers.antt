-- `write_number` stores the digits of a tenth, then the last one: the law `decimal_large`. Assumes nothing.
use Rattle.std.proofs.Common.{arith, length-append}
use Rattle.formula.specs.Decimal.Laws.{decimal_small, decimal_large}
use Rattle.formula.specs.Store.Laws.{stores_append}
use Rattle.formula.proofs.decimal.+write_number.Goals as goal

pub put-requires : goal.put-requires
put-requires t c = omega (arith, rw (decimal_small c.args.n c.if-n-lt10.true) at c.requires)

pub returns-then-n-lt10 : goal.returns-then-n-lt10
returns-then-n-lt10 t c = rw (decimal_small c.args.n c.if-n-lt10.true, ← c.digit.ensures) c.put.ensures

pub write_number-next-requires : goal.write_number-next-requires
write_number-next-requires t c =
    (omega (arith, c.decreases), omega (arith, simp (decimal_large c.args.n c.if-n-lt10.false, length-append) at c.requires))

pub put-requires-2 : goal.put-requires-2
put-requires-2 t c = omega (arith, simp (decimal_large c.args.n c.if-n-lt10.false, length-append) at c.requires, c.write_number-next.ensures.reached)

pub returns : goal.returns
returns t c =
    rw (decimal_large c.args.n c.if-n-lt10.false, ← c.digit-2.ensures)
    (stores_append c.write_number-next.ensures c.put-2.ensures)
