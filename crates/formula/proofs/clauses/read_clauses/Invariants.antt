-- `read_clauses` takes token after token; each need is one law of Text.Clauses. Assumes nothing.
use Prim.Native.Nat.{◌-◌}
use lib.ListN.{length}
use Rattle.scanner.specs.Position.Cursor.{PositionIn}
use Rattle.formula.proofs.Theorems.Text.Clauses.Laws.{ClausesSoFar}
use Rattle.formula.proofs.clauses.read_clauses.Given as goal

abbrev pub invariant-loop-end : goal.invariant-loop-end
invariant-loop-end l = ClausesSoFar l.text l.initial.at.place l.variables l.count l.initial.clauses l.clauses l.initial.marks l.marks l.at.place l.used l.closed l.start × PositionIn l.text l.at

abbrev pub decreases-loop-end : goal.decreases-loop-end
decreases-loop-end l = length l.text - l.at.place
