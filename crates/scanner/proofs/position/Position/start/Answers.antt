-- `start`: a text begins in line 1, column 1. Assumes nothing.
use mathlib.Core.Path.{refl}
use Rattle.scanner.specs.Position.{feeds, since_feed}
use Rattle.scanner.proofs.position.Position.start.Goals as goal

pub returns : goal.returns
unfolding feeds since_feed
returns c = refl
