-- `reach_clause` runs down the clause: what is left of it gives the same marks. Assumes nothing.
use mathlib.Core.Path.{◌≡◌}
use mathlib.Core.Bool.{Bool}
use Rattle.formula.specs.Decode.{clause_at, words_after}
use Rattle.dependency.specs.Marks.{reach_clause}
use Rattle.dependency.specs.Bits.{marks_in, seen_by}
use Rattle.dependency.proofs.pass.reach_clause.Given as goal

-- What is left of the clause gives the same marks, and the same words come after it.
abbrev pub invariant-loop-i : goal.invariant-loop-i
invariant-loop-i l =
    ((s : Bool) → reach_clause (seen_by s l.seen) (clause_at l.clauses l.i) (marks_in s l.marks) ≡ reach_clause (seen_by s l.seen) (clause_at l.clauses l.from) (marks_in s l.initial.marks))
    × (words_after l.clauses l.i ≡ words_after l.clauses l.from)
