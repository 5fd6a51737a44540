-- `read_set` takes token after token of a set; each need is one law of Text.Sets. Assumes nothing.
use Prim.Native.Nat.{◌-◌}
use lib.ListN.{length}
use Rattle.scanner.specs.Position.Cursor.{PositionIn}
use Rattle.formula.proofs.Theorems.Text.Sets.Laws.{SetSoFar}
use Rattle.formula.specs.Prefix.{quantifier_of}
use Rattle.formula.proofs.sets.read_set.Given as goal

abbrev pub invariant-loop-end : goal.invariant-loop-end
invariant-loop-end l = SetSoFar l.text l.initial.at.place l.variables (quantifier_of l.existential) l.entries l.initial.prefix l.prefix l.marks l.at.place l.n × PositionIn l.text l.at

abbrev pub decreases-loop-end : goal.decreases-loop-end
decreases-loop-end l = length l.text - l.at.place
