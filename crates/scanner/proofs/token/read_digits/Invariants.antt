-- `read_digits` reads a run byte by byte; each need is one law of Token.Numbers. Assumes nothing.
use Prim.Native.Nat.{◌-◌}
use lib.ListN.{length}
use Rattle.scanner.proofs.Theorems.Token.Numbers.{DigitsSoFar}
use Rattle.scanner.proofs.token.read_digits.Given as goal

abbrev pub invariant-loop-read : goal.invariant-loop-read
invariant-loop-read l = DigitsSoFar l.text l.from l.read

abbrev pub decreases-loop-read : goal.decreases-loop-read
decreases-loop-read l = length l.text - l.read.end
