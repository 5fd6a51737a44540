-- `mark_clause`: marking what is left of the clause gives the same marks and tells the same. Assumes nothing.
use Rattle.inference.specs.Words.{without, AllInRange}
use Rattle.formula.specs.Decode.{clause_at}
use Rattle.inference.specs.Marks.{marks_in}
use Rattle.inference.specs.Marks.Laws.{Continues}
use Rattle.inference.proofs.marks.mark_clause.Given as goal

abbrev pub invariant-loop-word : goal.invariant-loop-word
invariant-loop-word l =
    Continues (marks_in l.initial.marks) (without l.except (clause_at l.clause.words.now l.clause.from)) (marks_in l.marks) l.told (without l.except (clause_at l.rest l.word-index))
    × AllInRange (clause_at l.rest l.word-index)
