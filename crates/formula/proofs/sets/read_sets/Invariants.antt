-- `read_sets` takes set after set: what is read so far, and where the next token is looked for. Assumes nothing.
use Rattle.std.specs.Prelude.{◌-◌, length}
use Rattle.scanner.specs.Position.Cursor.{PositionIn}
use Rattle.formula.proofs.Theorems.Text.Sets.Laws.{SetsSoFar}
use Rattle.formula.proofs.sets.read_sets.Given as goal

abbrev pub invariant-loop-place : goal.invariant-loop-place
invariant-loop-place l = SetsSoFar l.text l.fn.from.place l.variables l.initial.prefix l.prefix l.marks l.at.place l.entries × PositionIn l.text l.at

abbrev pub decreases-loop-place : goal.decreases-loop-place
decreases-loop-place l = length l.text - l.at.place
