-- The evaluator decides the game: on tables that pass the check and have at most 16 variables it answers False exactly
-- when the formula is lost, whatever values the variables are held to have before they are set, and True exactly when it is won.
use Rattle.std.specs.Prelude.{Ok, Err, Result}
use Rattle.std.specs.Prelude.{ℕ, ◌≤◌, ◌<◌, ◌≡◌, refl, ◌↔◌, Bool, true, false, List, [], ◌∷◌, ℤ, pos}
use Rattle.std.proofs.Common.{ap, sym, ◌∙◌, arith}
use Rattle.std.proofs.Math.Option.{some}
use borrow.Author.Tests.{le-leb, lt-leb}
use Rattle.qbf.specs.Play.{Values, satisfied, falsified, lost, Lost, Won}
use Rattle.qbf.proofs.Play.Laws.{lost_any_values, won_exactly}
use Rattle.formula.specs.Refusal.{refusal}
use Rattle.formula.specs.Tables.{zeros, clauses_refusal, prefix_refusal, words_refusal, tables_refusal, Admitted}
use Rattle.formula.proofs.Theorems.Tables.Laws.{admitted_proper}
use Rattle.formula.specs.Word.{word_of}
use Rattle.formula.specs.Prefix.{prefix_of, entry_count}
use Rattle.formula.specs.Decode.{clauses_of, matrix_of, formula_of}
use Rattle.formula.specs.declared.refusal.Refusal.{Refusal}
use Rattle.formula.specs.declared.refusal.Reason.TheVariants.{Oversized}
use Rattle.evaluator.specs.Evaluation.{game_bound, verdict, unset, evaluation_of}

-- The tables' own refusals, and that of 17 variables or more.
pub evaluation_tables_refused : (p c : List ℤ) (r : Refusal) → tables_refusal p c ≡ some r → evaluation_of p c ≡ Err r
unfolding evaluation_of
evaluation_tables_refused p c r e = rw e

pub evaluation_oversized : (p c : List ℤ) → Admitted p c → game_bound < entry_count p → evaluation_of p c ≡ Err (refusal Oversized 0)
unfolding evaluation_of
evaluation_oversized p c a h = rw (a.passes, lt-leb (entry_count p) game_bound h)

module _ (p c : List ℤ) (a : Admitted p c) (h : entry_count p ≤ game_bound) where
  -- The game is played: the answer is true or false, whatever values the variables are held to have before.
  pub evaluation_verdict : (τ : Values) → evaluation_of p c ≡ verdict (lost (prefix_of p) τ (matrix_of c))
  unfolding evaluation_of
  evaluation_verdict τ = rw (a.passes, le-leb (entry_count p) game_bound h) (ap verdict (lost_any_values (formula_of p c) (admitted_proper p c a) unset τ))

  pub evaluation_false_lost : (evaluation_of p c ≡ Ok false → Lost (formula_of p c)) × (Lost (formula_of p c) → evaluation_of p c ≡ Ok false)
  evaluation_false_lost = (λ e τ. decided (lost (prefix_of p) τ (matrix_of c)) (sym (evaluation_verdict τ) ∙ e), λ l. evaluation_verdict unset ∙ ap verdict (l unset))
    where
      decided : (b : Bool) → verdict b ≡ Ok false → b ≡ true
      decided true e = refl
      decided false e = let z : ◌≡◌ {A = ℕ} 0 1 = cc in absurd (omega arith)

  pub evaluation_true_not_lost : (evaluation_of p c ≡ Ok true → Lost (formula_of p c) → ⊥) × ((Lost (formula_of p c) → ⊥) → evaluation_of p c ≡ Ok true)
  evaluation_true_not_lost = (λ e l. apart (sym e ∙ evaluation_false_lost.1 l), λ n. go (lost (prefix_of p) unset (matrix_of c)) refl n)
    where
      apart : ◌≡◌ {A = Result Bool Refusal} (Ok true) (Ok false) → ⊥
      apart e = let z : ◌≡◌ {A = ℕ} 0 1 = cc in omega arith

      go : (b : Bool) → lost (prefix_of p) unset (matrix_of c) ≡ b → (Lost (formula_of p c) → ⊥) → evaluation_of p c ≡ Ok true
      go true e n = absurd (n (λ τ. lost_any_values (formula_of p c) (admitted_proper p c a) τ unset ∙ e))
      go false e n = evaluation_verdict unset ∙ ap verdict e

  -- True exactly when the game is won, by the rules of play for winning.
  pub evaluation_true_won : (evaluation_of p c ≡ Ok true) ↔ Won (formula_of p c)
  evaluation_true_won =
      let w = won_exactly (formula_of p c) (admitted_proper p c a) in
      (λ e. w.1 (evaluation_true_not_lost.0 e), λ won. evaluation_true_not_lost.1 (w.0 won))

-- Known positions f and g of 01: no tables at all, and the clause word 0 alone.
pub evaluation_known : (evaluation_of [] [] ≡ Ok true) × (evaluation_of [] (pos 0 ∷ []) ≡ Ok false)
unfolding prefix_of evaluation_of tables_refusal words_refusal zeros prefix_refusal clauses_refusal word_of clauses_of lost falsified satisfied
evaluation_known = (refl, refl)
