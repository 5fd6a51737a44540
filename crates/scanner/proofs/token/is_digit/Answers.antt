-- `is_digit` is the test of its definition. Assumes nothing.
use mathlib.Core.Path.{refl}
use Rattle.scanner.specs.Token.{is_digit}
use Rattle.scanner.proofs.token.is_digit.Goals as goal

pub returns : goal.returns
unfolding is_digit
returns c = refl
