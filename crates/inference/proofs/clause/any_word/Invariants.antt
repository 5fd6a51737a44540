-- `any_word`: what is left of the clause tells what the whole does. Assumes nothing.
use Rattle.formula.specs.Decode.{clause_at}
use Rattle.inference.specs.Words.Laws.{TellsOn}
use Rattle.inference.proofs.clause.any_word.Given as goal

abbrev pub invariant-loop-word : goal.invariant-loop-word
invariant-loop-word g l = TellsOn (goal.F-post g l.test) (clause_at l.words l.from) (clause_at l.rest l.word-index)
