-- `token_at` answers by the digits that it read, behind a minus or from the first byte on. Assumes nothing.
use Rattle.std.proofs.Common.{arith}
use Rattle.scanner.proofs.Theorems.Position.Laws.{small_in}
use Rattle.scanner.proofs.Theorems.Token.Numbers.{token_read}
use Rattle.scanner.proofs.token.token_at.Goals as goal

pub along-next-requires : goal.along-next-requires
along-next-requires c = grind (arith, small_in c.args.text.now c.args.place c.requires.0 c.requires.1, token_read c.args.text.now c.args.place c.requires c.if-minus.read)

pub returns-in-Some : goal.returns-in-Some
returns-in-Some c = grind (arith, token_read c.args.text.now c.args.place c.requires c.if-minus.read)

pub returns-in-Some-2 : goal.returns-in-Some-2
returns-in-Some-2 c = grind (arith, token_read c.args.text.now c.args.place c.requires c.if-minus.read)

pub returns-in_default : goal.returns-in_default
returns-in_default c = grind (arith, token_read c.args.text.now c.args.place c.requires c.if-minus.read)

pub returns-in_default-2 : goal.returns-in_default-2
returns-in_default-2 c = grind (arith, token_read c.args.text.now c.args.place c.requires c.if-minus.read)
