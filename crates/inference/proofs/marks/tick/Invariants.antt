-- `tick`: ticking what is left of the clause gives the same marks and tells the same. Assumes nothing.
use Rattle.formula.specs.Decode.{clause_at}
use Rattle.inference.specs.Marks.{marks_in}
use Rattle.inference.specs.Marks.Laws.{TicksOn}
use Rattle.inference.proofs.marks.tick.Given as goal

abbrev pub invariant-loop-word : goal.invariant-loop-word
invariant-loop-word l = TicksOn (marks_in l.initial.marks) (clause_at l.fn.words l.from) (marks_in l.marks) (clause_at l.rest l.word-index)
