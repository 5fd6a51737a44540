-- `with_bit` stores by a mask or its complement. Assumes nothing.
use Rattle.bits.specs.Flags.Laws.{or_stored, and_stored}
use Rattle.bits.proofs.with_bit.Goals as goal

pub returns-then-on : goal.returns-then-on
returns-then-on c = rw c.if-on.true (or_stored c.before.args.byte c.before.args.k c.before.requires)

pub returns : goal.returns
returns c = rw c.if-on.false (and_stored c.before.args.byte c.before.args.k c.before.requires)
