-- `is_blank` is the test of its definition. Assumes nothing.
use mathlib.Core.Path.{refl}
use Rattle.scanner.specs.Token.{is_blank}
use Rattle.scanner.proofs.token.is_blank.Goals as goal

pub returns : goal.returns
unfolding is_blank
returns c = refl
