-- From the check of tables, the stores and the test of room to what `write_formula` promises. Assumes nothing.
use Rattle.std.specs.Prelude.{Result, Err}
use Rattle.std.specs.Prelude.{ℕ, ◌≡◌, Bool, ℤ}
use Rattle.std.proofs.Math.Path.{refl, ap}
use Rattle.std.proofs.Common.{◌∙◌, arith, leb-true}
use Rattle.std.proofs.Math.Bool.{true, false}
use Rattle.std.proofs.Math.Option.{some}
use mathlib.Core.List.{List}
use Rattle.std.proofs.Math.ListN.{length, replicate}
use Rattle.std.proofs.lemmas.List.Edits.{sets}
use Rattle.std.proofs.Math.Seq.{length-sets}
use Rattle.std.proofs.Math.Dec.{leb}
use Rattle.formula.specs.Clear.{clear_from, kept_up_to}
use Rattle.formula.specs.Clear.Laws.{clear_all, clear_stored}
use Rattle.formula.specs.Store.{Stores}
use Rattle.formula.specs.Tables.{tables_refusal, Admitted}
use Rattle.formula.specs.Write.{written, if_room, writing_refusal, text_after, Writes}
use Rattle.formula.specs.Write.Stream.{Finishes}
use Rattle.formula.specs.declared.refusal.Refusal.{Refusal}

module _ (p c : List ℤ) where
  -- Tables that are refused.
  pub writes_refused : (text : List ℕ) (r : Refusal) → tables_refusal p c ≡ some r → Writes p c (length text) (Err r) (clear_from 0 0 text)
  unfolding writing_refusal
  writes_refused text r e = record { answers = rw e; leaves = rw e (clear_all 0 text) }

  -- Tables that are written.
  pub writes_finished :
      {text middle after : List ℕ} {used : ℕ} {answer : Result ℕ Refusal}
      → Admitted p c → Stores text 0 (written p c) middle used → Finishes middle used answer after → Writes p c (length text) answer after
  unfolding writing_refusal
  writes_finished {text} {middle} {after} {used} {answer} a s f =
      let room : length middle ≡ length text = ap length s.stored ∙ length-sets text 0 (written p c) in
      let end : used ≡ length (written p c) = omega (arith, s.reached) in
      record {
        answers = rw (a.passes, ← end, ← room) f.answers;
        leaves = rw a.passes (f.leaves ∙ cleared (leb (length (written p c)) (length text)) refl room end);
      }
    where
      cleared :
          (b : Bool) → leb (length (written p c)) (length text) ≡ b → length middle ≡ length text → used ≡ length (written p c)
          → clear_from 0 (kept_up_to (leb used (length middle)) used) middle ≡ text_after (if_room (leb (length (written p c)) (length text))) (written p c) (length text)
      cleared true e room end =
          rw (room, end, e, s.stored) (clear_stored 0 text (written p c) (leb-true (length (written p c)) (length text) e))
      cleared false e room end =
          rw (room, end, e, s.stored) (clear_all 0 (sets text 0 (written p c)) ∙ ap {B = List ℕ} (λ n. replicate n 0) (length-sets text 0 (written p c)))
