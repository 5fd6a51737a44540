-- A clause by the place of its first word, word by word: what a loop over the words asks. Definitions: clause_at, words_after of
-- Decode. Assumes nothing.
use Rattle.std.specs.Prelude.{ℕ, zero, suc, ◌+◌, ◌<◌, ◌≤◌, ◌≡◌, refl, true, false, List, [], ◌∷◌, length, get_or, drop, ℤ, pos, negsuc}
use Rattle.std.proofs.Math.Path.{ap}
use Rattle.std.proofs.Common.{◌∙◌, add-one, arith, drop_of_length-le, length-drop, drop-cons, drop-drop}
use Rattle.formula.specs.Word.{is_zero}
use Rattle.formula.specs.Word.Laws.{zero_sound, zero_apart}
use Rattle.formula.specs.Words.{close_from}
use Rattle.formula.specs.Decode.{clauses_of, first_clause, later_words, clause_at, words_after}
use Rattle.formula.specs.Decode.Laws.{first_clause_cons, later_words_cons, clauses_first}

-- Past the last word.
module _ (words : List ℤ) (i : ℕ) (past : length words ≤ i) where
  pub clause_past : clause_at words i ≡ []
  unfolding first_clause
  clause_past = rw (drop_of_length-le words past)

  pub after_past : words_after words i ≡ drop i words
  unfolding later_words
  after_past = rw (drop_of_length-le words past)

-- At a word: the 0 that closes the clause, or a literal of it.
module _ (words : List ℤ) (i : ℕ) (within : i < length words) where
  at_word : drop i words ≡ get_or words i (pos 0) ∷ drop (i + 1) words
  at_word = rw add-one (drop-cons words i (pos 0) within)

  at_zero : is_zero (get_or words i (pos 0)) ≡ true → drop i words ≡ pos 0 ∷ drop (i + 1) words
  at_zero z = at_word ∙ ap (λ (w : ℤ). w ∷ drop (i + 1) words) (zero_sound (get_or words i (pos 0)) z)

  pub clause_zero : is_zero (get_or words i (pos 0)) ≡ true → clause_at words i ≡ []
  unfolding first_clause
  clause_zero z = ap first_clause (at_zero z)

  pub after_zero : is_zero (get_or words i (pos 0)) ≡ true → words_after words i ≡ drop (i + 1) words
  unfolding later_words
  after_zero z = ap later_words (at_zero z)

  pub clause_literal : is_zero (get_or words i (pos 0)) ≡ false → clause_at words i ≡ get_or words i (pos 0) ∷ clause_at words (i + 1)
  clause_literal z = ap first_clause at_word ∙ first_clause_cons (get_or words i (pos 0)) (drop (i + 1) words) (zero_apart (get_or words i (pos 0)) z)

  pub after_literal : is_zero (get_or words i (pos 0)) ≡ false → words_after words i ≡ words_after words (i + 1)
  after_literal z = ap later_words at_word ∙ later_words_cons (get_or words i (pos 0)) (drop (i + 1) words) (zero_apart (get_or words i (pos 0)) z)

  -- The clauses from here on: this one, and those of the words after it.
  pub clauses_at : clauses_of (drop i words) ≡ clause_at words i ∷ clauses_of (words_after words i)
  clauses_at = rw at_word (clauses_first (get_or words i (pos 0)) (drop (i + 1) words))

-- A clause ends within the words.
first_clause_short : (ws : List ℤ) → length (first_clause ws) ≤ length ws
unfolding first_clause
first_clause_short [] = omega arith
first_clause_short (pos zero ∷ ws) = omega arith
first_clause_short (pos (suc n) ∷ ws) = let h = first_clause_short ws in omega arith
first_clause_short (negsuc n ∷ ws) = let h = first_clause_short ws in omega arith

pub clause_within : (words : List ℤ) (from : ℕ) → from ≤ length words → from + length (clause_at words from) ≤ length words
clause_within words from h = let s = first_clause_short (drop from words) in omega (arith, s, length-drop from words)

-- The words after a clause begin behind its 0.
later_drop : (ws : List ℤ) → later_words ws ≡ drop (suc (length (first_clause ws))) ws
unfolding later_words first_clause
later_drop [] = refl
later_drop (pos zero ∷ ws) = refl
later_drop (pos (suc n) ∷ ws) = later_drop ws
later_drop (negsuc n ∷ ws) = later_drop ws

pub after_place : (words : List ℤ) (from : ℕ) → words_after words from ≡ drop (from + length (clause_at words from) + 1) words
after_place words from =
    later_drop (drop from words)
    ∙ drop-drop (suc (length (clause_at words from))) from words
    ∙ ap (λ (n : ℕ). drop n words) place
  where
    place : from + suc (length (clause_at words from)) ≡ from + length (clause_at words from) + 1
    place = omega arith

pub clauses_place :
    (words : List ℤ) (from : ℕ) → from < length words
    → clauses_of (drop from words) ≡ clause_at words from ∷ clauses_of (drop (from + length (clause_at words from) + 1) words)
clauses_place words from h = clauses_at words from h ∙ ap (λ (ws : List ℤ). clause_at words from ∷ clauses_of ws) (after_place words from)

-- The reader of clause words finds the closing 0 behind the first clause.
pub close_first_clause : (at : ℕ) (ws : List ℤ) → close_from at ws ≡ at + length (first_clause ws)
unfolding close_from first_clause
close_first_clause at [] = omega arith
close_first_clause at (pos zero ∷ ws) = omega arith
close_first_clause at (pos (suc n) ∷ ws) = let e = close_first_clause (suc at) ws in omega arith
close_first_clause at (negsuc n ∷ ws) = let e = close_first_clause (suc at) ws in omega arith
