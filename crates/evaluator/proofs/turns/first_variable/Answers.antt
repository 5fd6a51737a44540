-- `first_variable` answers an entry's variable, which is in range. Assumes nothing.
use Rattle.evaluator.proofs.Position.{first_bound}
use Rattle.evaluator.proofs.turns.first_variable.Goals as goal

pub returns-clause-bound : goal.returns-clause-bound
returns-clause-bound c = rw c.variable_at.ensures (first_bound c.args.prefix.words.now c.args.prefix.entries c.requires)
