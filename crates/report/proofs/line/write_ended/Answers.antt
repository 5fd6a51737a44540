-- `write_ended` stores the digits, then the byte; a 64-bit number has at most 20 digits. Assumes nothing.
use native.Mathlib.Omega.{arith}
use Rattle.formula.specs.Decimal.Laws.{length_decimal}
use Rattle.formula.specs.Store.Laws.{stores_append}
use Rattle.report.proofs.line.write_ended.Goals as goal

pub write_number-next-requires : goal.write_number-next-requires
write_number-next-requires c = omega (arith, length_decimal 19 c.args.n (omega (arith, c.ranges)), c.requires)

pub put-requires : goal.put-requires
put-requires c = omega (arith, length_decimal 19 c.args.n (omega (arith, c.ranges)), c.requires, c.write_number-next.ensures.reached)

pub returns : goal.returns
returns c =
    record {
      stores = stores_append c.write_number-next.ensures c.put.ensures;
      upper_bound = omega (arith, length_decimal 19 c.args.n (omega (arith, c.ranges)), c.write_number-next.ensures.reached, c.put.ensures.reached);
    }
