-- `more_digits` keeps a value where the byte is a digit. Assumes nothing.
use Rattle.std.proofs.Common.{arith}
use Rattle.scanner.proofs.Theorems.Token.Laws.{digit_least}
use Rattle.scanner.proofs.token.more_digits.Goals as goal

pub numeral-requires : goal.numeral-requires
numeral-requires c = grind (arith, digit_least)
