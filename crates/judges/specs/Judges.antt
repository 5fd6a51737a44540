-- Wish 3, whole: where the checker accepts, the game is lost, and the evaluator, handed the same tables, says so too.
use Rattle.std.specs.Prelude.{Ok, Err}
use Rattle.formula.specs.declared.refusal.Refusal.{Refusal}
use Rattle.checker.specs.Verdict.{Verdict, accept}
use Rattle.std.specs.Prelude.{ℕ, ◌≤◌, ◌≡◌, List, ℤ}
use Rattle.std.proofs.Math.Decide.{dec_le}
use Rattle.std.proofs.Common.{arith, false, true}
use Rattle.qbf.specs.Play.{Lost}
use Rattle.formula.specs.Decode.{formula_of}
use Rattle.formula.specs.Prefix.{entry_count}
use Rattle.formula.specs.Refusal.{refusal}
use Rattle.formula.specs.declared.refusal.Reason.TheVariants.{Oversized}
use Rattle.inference.specs.Rules.{plain_rules}
use Rattle.checker.specs.Verdict.{verdict_of}
use Rattle.checker.specs.Verdict.Accuracy.{accepted_refutation, accepted_lost}
use Rattle.evaluator.specs.Evaluation.{game_bound, evaluation_of}
use Rattle.evaluator.specs.Evaluation.Laws.{evaluation_false_lost, evaluation_oversized}

-- Whatever tables, step words and buffers the checker is handed. `verdict_of plain_rules` is what `check_proof` answers on them,
-- `evaluation_of` what `evaluate` answers.
module _ (prefix clauses steps : List ℤ) (scratch room empty count : ℕ) where
  -- Where the checker accepts, the game on the tables is lost, for prefixes of every length that 01 admits.
  pub accepted_game_lost : verdict_of plain_rules prefix clauses steps scratch room ≡ accept (record { 0 = empty }) count → Lost (formula_of prefix clauses)
  accepted_game_lost accepted = accepted_lost plain_rules prefix clauses steps scratch room empty count accepted

  -- Up to 16 variables the evaluator then answers false.
  pub accepted_evaluated_false : verdict_of plain_rules prefix clauses steps scratch room ≡ accept (record { 0 = empty }) count → entry_count prefix ≤ game_bound → evaluation_of prefix clauses ≡ Ok false
  accepted_evaluated_false accepted small =
      let r = accepted_refutation plain_rules prefix clauses steps scratch room empty count accepted in
      (evaluation_false_lost prefix clauses r.admitted small).1 (accepted_game_lost accepted)

-- No formula that the evaluator calls true has an accepted proof.
module _ (prefix clauses steps : List ℤ) (scratch room empty count : ℕ) where
  pub true_never_accepted : evaluation_of prefix clauses ≡ (Ok true) → verdict_of plain_rules prefix clauses steps scratch room ≡ accept (record { 0 = empty }) count → ⊥
  true_never_accepted says-true accepted = go (dec_le (entry_count prefix) game_bound)
    where
      go : Dec (entry_count prefix ≤ game_bound) → ⊥
      go (yes small) =
          let says-false : evaluation_of prefix clauses ≡ (Ok false) = accepted_evaluated_false prefix clauses steps scratch room empty count accepted small in
          let z : ◌≡◌ {A = ℕ} 0 1 = cc in
          omega arith
      go (no large) =
          let r = accepted_refutation plain_rules prefix clauses steps scratch room empty count accepted in
          let refuses : evaluation_of prefix clauses ≡ Err (refusal Oversized 0) = evaluation_oversized prefix clauses r.admitted (omega (arith, large)) in
          let z : ◌≡◌ {A = ℕ} 0 1 = cc in
          omega arith
