-- `skip_blanks` passes blanks one by one. Assumes nothing.
use Prim.Native.Nat.{◌-◌}
use mathlib.Core.Path.{◌≡◌}
use lib.ListN.{length}
use Rattle.scanner.specs.Position.Cursor.{PositionIn}
use Rattle.scanner.specs.Token.{tokens_at}
use Rattle.scanner.proofs.token.skip_blanks.Given as goal

abbrev pub invariant-loop-at : goal.invariant-loop-at
invariant-loop-at l = PositionIn l.text l.at × (tokens_at l.text l.initial.at.place ≡ tokens_at l.text l.at.place)

abbrev pub decreases-loop-at : goal.decreases-loop-at
decreases-loop-at l = length l.text - l.at.place
