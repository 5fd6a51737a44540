-- `numeral` saturates above every bound. Assumes nothing.
use native.Mathlib.Omega.{arith}
use Rattle.scanner.specs.Token.Scan.{numeral}
use Rattle.scanner.proofs.token.numeral.Goals as goal

pub returns-then-n-gt214748364 : goal.returns-then-n-gt214748364
unfolding numeral
returns-then-n-gt214748364 c = omega arith

pub returns-then-m-lt-TOO_LARGE : goal.returns-then-m-lt-TOO_LARGE
unfolding numeral
returns-then-m-lt-TOO_LARGE c = omega arith

pub returns-else-m-lt-TOO_LARGE : goal.returns-else-m-lt-TOO_LARGE
unfolding numeral
returns-else-m-lt-TOO_LARGE c = omega arith
