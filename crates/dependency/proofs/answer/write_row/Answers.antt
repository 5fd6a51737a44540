-- `write_row` makes the row in scratch, copies it and clears what is left. Assumes nothing.
use Prim.Native.Nat.{ℕ}
use mathlib.Core.Path.{◌≡◌, ap, sym, ◌∙◌}
use mathlib.Core.List.{List, ◌++◌}
use borrow.Author.Rules.{rules}
use lib.ListN.{length, drop, replicate}
use Rattle.formula.specs.Clear.{clear_from}
use Rattle.formula.specs.Held.{formula_in}
use Rattle.dependency.specs.Answer.Laws.{row_cleared, asked_row}
use Rattle.dependency.proofs.answer.write_row.Goals as goal

pub returns : goal.returns
unfolding clear_from
returns c =
    let a = c.args in
    let F = formula_in a.universal.tables in
    let s : length c.clear_tail-2.new.buffer ≡ length a.scratch.now = search rules in
    record {
      row_bytes =
          row_cleared F a.universal.variable.0 a.row.now c.copy_row.new.row c.clear_tail.new.buffer
          (c.copy_row.ensures ∙ ap (λ (l : List ℕ). l ++ drop 1025 a.row.now) (asked_row F a.universal.variable.0 _ c.make_row.ensures.row))
          c.clear_tail.ensures;
      scratch_bytes =
          c.clear_tail-2.ensures
          ∙ ap (λ (n : ℕ). replicate n 0) (sym c.clear_tail-2.auto.buffer ∙ s);
    }
