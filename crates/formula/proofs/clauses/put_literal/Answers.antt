-- `put_literal` refuses as it is judged, or writes the word and the mark. Assumes nothing.
use Rattle.std.specs.Prelude.{◌≡◌, ℕ, length, get_or, List, Ok}
use Rattle.std.proofs.Common.{sym, ◌∙◌, arith}
use Rattle.formula.specs.Refusal.{passes}
use Rattle.formula.specs.Refusal.Laws.{passes_none}
use Rattle.formula.specs.Text.{literal_reason}
use Rattle.formula.specs.Text.Laws.{LiteralFine, literal_fine}
use Rattle.formula.specs.Text.Clauses.{holds_open, marked_reason}
use Rattle.formula.proofs.clauses.put_literal.Goals as goal

-- what a literal is that passes, by its variable's mark
fine :
    (v n : ℕ) (marks : List ℕ) (closed used room m : ℕ) → m ≡ get_or marks n 0 → Ok tt ≡ passes (literal_reason v n (holds_open m closed) used room)
    → LiteralFine v n (holds_open (get_or marks n 0) closed) used room
fine v n marks closed used room m e h = literal_fine v n _ used room (passes_none (marked_reason v n marks closed used room) (rw (← e) (sym h)))

pub signed_word-requires : goal.signed_word-requires
signed_word-requires c = let a = c.args in let f = fine a.variables a.n a.marks.now a.closed a.used (length a.clauses.now) _ c.mark_of-mark.ensures (sym c.in_ok-judge_literal.was ∙ c.judge_literal.ensures) in omega arith

pub offset_bounds-clauses-used : goal.offset_bounds-clauses-used
offset_bounds-clauses-used c = let a = c.args in let f = fine a.variables a.n a.marks.now a.closed a.used (length a.clauses.now) _ c.mark_of-mark.ensures (sym c.in_ok-judge_literal.was ∙ c.judge_literal.ensures) in omega arith

pub bounds-clauses-used : goal.bounds-clauses-used
bounds-clauses-used c = let a = c.args in let f = fine a.variables a.n a.marks.now a.closed a.used (length a.clauses.now) _ c.mark_of-mark.ensures (sym c.in_ok-judge_literal.was ∙ c.judge_literal.ensures) in omega arith

pub bounds-marks-n : goal.bounds-marks-n
bounds-marks-n c = let a = c.args in let f = fine a.variables a.n a.marks.now a.closed a.used (length a.clauses.now) _ c.mark_of-mark.ensures (sym c.in_ok-judge_literal.was ∙ c.judge_literal.ensures) in omega arith
