-- `clause_satisfied` stops at the clause's first true literal or at its 0: from every place before that, the clause has a
-- true literal or has none. Assumes nothing.
use mathlib.Core.Path.{◌≡◌}
use Rattle.qbf.specs.Play.{satisfied}
use Rattle.formula.specs.Decode.{first_clause, clause_at, clause_of}
use Rattle.evaluator.specs.Values.{values_of}
use Rattle.evaluator.proofs.clause.clause_satisfied.Given as goal

abbrev pub invariant-loop-word : goal.invariant-loop-word
invariant-loop-word l = satisfied (values_of l.values) (clause_of (clause_at l.words l.word-index)) ≡ satisfied (values_of l.values) (clause_of (first_clause l.words))
