-- `clause_entry` runs down the clause: what is left of it gives the same answers, and the same words come after it. Assumes nothing.
use mathlib.Core.Path.{◌≡◌}
use mathlib.Core.Bool.{Bool}
use Rattle.formula.specs.Decode.{clause_at, words_after}
use Rattle.dependency.specs.Marks.{clause_entry}
use Rattle.dependency.specs.Bits.{marks_in, seen_by}
use Rattle.dependency.proofs.pass.clause_entry.Given as goal

abbrev pub invariant-loop-i : goal.invariant-loop-i
invariant-loop-i l =
    ((s : Bool) → clause_entry (marks_in s l.marks) (seen_by s l.seen) (clause_at l.clauses l.i) ≡ clause_entry (marks_in s l.marks) 0 (clause_at l.clauses l.from))
    × (words_after l.clauses l.i ≡ words_after l.clauses l.from)
