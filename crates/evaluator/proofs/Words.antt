-- Clause words by their place: what the word at a place says of the clause that goes on there, and of the clauses after it.
-- Assumes nothing.
use Prim.Native.Nat.{ℕ, ◌+◌, ◌<◌, ◌≤◌}
use mathlib.Core.Path.{◌≡◌}
use mathlib.Core.Bool.{true, false, not, ◌||◌}
use mathlib.Core.List.{List}
use lib.IntN.{ℤ, pos}
use lib.ListN.{length, get_or, drop, drop_of_length-le}
use Rattle.qbf.specs.Play.{Values, true_literal, satisfied, falsified}
use Rattle.formula.specs.Word.{is_zero}
use Rattle.formula.specs.Decode.{literal_of, clause_of, clauses_of, clause_at, words_after, matrix_of}
use Rattle.formula.specs.Decode.Places.{clause_zero, clause_literal, clause_past, clauses_at}

module _ (τ : Values) (ws : List ℤ) (i : ℕ) where
  -- the clause that goes on at the place i has a true literal
  pub satisfied_at_zero : i < length ws → is_zero (get_or ws i (pos 0)) ≡ true → satisfied τ (clause_of (clause_at ws i)) ≡ false
  unfolding satisfied
  satisfied_at_zero h z = rw (clause_zero ws i h z)

  pub satisfied_at_word : i < length ws → is_zero (get_or ws i (pos 0)) ≡ false
      → satisfied τ (clause_of (clause_at ws i)) ≡ (true_literal τ (literal_of (get_or ws i (pos 0))) || satisfied τ (clause_of (clause_at ws (i + 1))))
  unfolding satisfied
  satisfied_at_word h z = rw (clause_literal ws i h z)

  pub satisfied_at_end : length ws ≤ i → satisfied τ (clause_of (clause_at ws i)) ≡ false
  unfolding satisfied
  satisfied_at_end h = rw (clause_past ws i h)

  -- some clause from the place i on, where one starts, has no true literal
  pub falsified_at : i < length ws
      → falsified τ (matrix_of (drop i ws)) ≡ (not (satisfied τ (clause_of (clause_at ws i))) || falsified τ (matrix_of (words_after ws i)))
  unfolding falsified
  falsified_at h = rw (clauses_at ws i h)

  pub falsified_at_end : length ws ≤ i → falsified τ (matrix_of (drop i ws)) ≡ false
  unfolding falsified clauses_of
  falsified_at_end h = rw (drop_of_length-le ws h)
