-- `put` stores a byte that differs in one bit. Assumes nothing.
use Rattle.bits.specs.Flags.{flag}
use Rattle.bits.specs.Flags.Laws.{flags_stored}
use Rattle.bits.proofs.put.Goals as goal

pub returns : goal.returns
returns c =
    let s = c.before.before.before in
    flags_stored s.args.bytes.now s.args.i (flag s.args.on) c.with_bit.result s.requires c.with_bit.ensures
