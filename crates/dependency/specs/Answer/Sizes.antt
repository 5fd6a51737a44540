-- Both sizes of scratch answer the same wherever both have theirs (02, P8), each in a scratch of its own length: the refusal, and so the answer and the row; what was
-- lent is 0 at the end. Definitions: Answer. Assumes nothing.
use Rattle.formula.specs.Refusal.{passes}
use Rattle.std.specs.Prelude.{Result, ⊤}
use Rattle.std.specs.Prelude.{ℕ, ◌≤◌, ◌≡◌, List, length, replicate, ℤ, nat_abs}
use Rattle.std.proofs.Common.{ap, sym, ◌∙◌, le-leb}
use Rattle.std.proofs.Math.Option.{Option}
use Rattle.formula.specs.Decode.{formula_of}
use Rattle.formula.specs.declared.refusal.Refusal.{Refusal}
use Rattle.dependency.specs.Scratch.{scratch_bound, small_bound}
use Rattle.dependency.specs.Answer.{row_refusal, row_buffer, RowDone}

pub same_refusal :
    (prefix clauses : List ℤ) (variable : ℤ) (row large small : ℕ) → scratch_bound ≤ large → small_bound ≤ small
    → row_refusal scratch_bound prefix clauses variable row large ≡ row_refusal small_bound prefix clauses variable row small
unfolding row_refusal
same_refusal prefix clauses variable row large small h k = rw (le-leb scratch_bound large h, le-leb small_bound small k)

module _ (prefix clauses : List ℤ) (variable : ℤ) (row scratch scratch-s : List ℕ) (room : scratch_bound ≤ length scratch) (room-s : small_bound ≤ length scratch-s)
    (answer answer-s : Result ⊤ Refusal) (row' row-s' scratch' scratch-s' : List ℕ)
    (large : RowDone scratch_bound prefix clauses variable row scratch answer row' scratch')
    (small : RowDone small_bound prefix clauses variable row scratch-s answer-s row-s' scratch-s') where
  same : row_refusal scratch_bound prefix clauses variable (length row) (length scratch) ≡ row_refusal small_bound prefix clauses variable (length row) (length scratch-s)
  same = same_refusal prefix clauses variable (length row) (length scratch) (length scratch-s) room room-s

  pub same_answer : answer ≡ answer-s
  same_answer = large.answered ∙ ap passes same ∙ sym small.answered

  pub same_row : row' ≡ row-s'
  same_row = large.filled ∙ ap (λ (r : Option Refusal). row_buffer r (formula_of prefix clauses) (nat_abs variable) (length row)) same ∙ sym small.filled

  pub both_cleared : (scratch' ≡ replicate (length scratch) 0) × (scratch-s' ≡ replicate (length scratch-s) 0)
  both_cleared = (large.cleared, small.cleared)
