-- `is_free` is the test itself. Assumes nothing.
use mathlib.Core.Path.{refl}
use Rattle.formula.specs.Free.Complete.{is_free_mark}
use Rattle.formula.proofs.free.is_free.Goals as goal

pub returns : goal.returns
unfolding is_free_mark
returns c = refl
