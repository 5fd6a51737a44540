-- Laws of clause words: what a test on a place or a word says of `word_at` and `place_after`, and how the end of a clause is
-- found from the word at a place. Definitions: Words. Assumes nothing.
use Rattle.formula.specs.declared.words.ClauseWord.TheVariants.{Close}
use Rattle.std.specs.Prelude.{ℕ, zero, suc, ◌+◌, ◌<◌, ◌≤◌, ◌≡◌, refl, List, [], ◌∷◌, length, get_or, drop, ℤ, pos, negsuc}
use Rattle.std.proofs.Common.{ap, le_of_suc-le-suc, not-suc-le-zero, arith}
use Rattle.std.proofs.Math.Seq.{drop-nil}
use Rattle.formula.specs.Words.{word_is, word_at, place_after, close_from}
use Rattle.formula.specs.declared.words.ClauseWord.TheVariants.{Word, End}

-- Past the last word.
pub word_at_end : (ws : List ℤ) (at : ℕ) → length ws ≤ at → word_at ws at ≡ End
unfolding word_at
word_at_end [] at h = refl
word_at_end (w ∷ ws) zero h = absurd (not-suc-le-zero h)
word_at_end (w ∷ ws) (suc at) h = word_at_end ws at (le_of_suc-le-suc h)

-- At a word.
pub word_at_word : (ws : List ℤ) (at : ℕ) → at < length ws → word_at ws at ≡ word_is (get_or ws at (pos 0))
unfolding word_at
word_at_word [] at h = absurd (not-suc-le-zero h)
word_at_word (w ∷ ws) zero h = refl
word_at_word (w ∷ ws) (suc at) h = word_at_word ws at (le_of_suc-le-suc h)

pub word_nonzero : (w : ℤ) → (w ≡ pos 0 → ⊥) → word_is w ≡ Word w
unfolding word_is
word_nonzero (pos zero) n = absurd (n refl)
word_nonzero (pos (suc k)) n = refl
word_nonzero (negsuc k) n = refl

pub place_after_end : (ws : List ℤ) (at : ℕ) → length ws ≤ at → place_after ws at ≡ at
unfolding place_after
place_after_end [] at h = refl
place_after_end (w ∷ ws) zero h = absurd (not-suc-le-zero h)
place_after_end (w ∷ ws) (suc at) h = ap suc (place_after_end ws at (le_of_suc-le-suc h))

pub place_after_word : (ws : List ℤ) (at : ℕ) → at < length ws → place_after ws at ≡ suc at
unfolding place_after
place_after_word [] at h = absurd (not-suc-le-zero h)
place_after_word (w ∷ ws) zero h = refl
place_after_word (w ∷ ws) (suc at) h = ap suc (place_after_word ws at (le_of_suc-le-suc h))

-- Where a word other than 0 stands the clause goes on.
pub word_within : (ws : List ℤ) (at : ℕ) (l : ℤ) → word_at ws at ≡ Word l → at < length ws
unfolding word_at
word_within [] at l e = let z : ◌≡◌ {A = ℕ} 0 1 = cc in absurd (omega arith)
word_within (w ∷ ws) zero l e = omega arith
word_within (w ∷ ws) (suc at) l e = omega (arith, word_within ws at l e)

pub close_past_word : (k : ℕ) (ws : List ℤ) (at : ℕ) (l : ℤ) → word_at ws at ≡ Word l → close_from k (drop at ws) ≡ close_from (suc k) (drop (suc at) ws)
unfolding word_at word_is close_from
close_past_word k [] at l e = let z : ◌≡◌ {A = ℕ} 0 1 = cc in absurd (omega arith)
close_past_word k (pos zero ∷ ws) zero l e = let z : ◌≡◌ {A = ℕ} 0 1 = cc in absurd (omega arith)
close_past_word k (pos (suc n) ∷ ws) zero l e = refl
close_past_word k (negsuc n ∷ ws) zero l e = refl
close_past_word k (w ∷ ws) (suc at) l e = close_past_word k ws at l e

-- Where no such word stands, at a 0 or at the end of the words, it ends.
pub close_at_none : (k : ℕ) (ws : List ℤ) (at : ℕ) → ((l : ℤ) → word_at ws at ≡ Word l → ⊥) → close_from k (drop at ws) ≡ k
unfolding word_at word_is close_from
close_at_none k [] at n = ap (close_from k) (drop-nil at)
close_at_none k (pos zero ∷ ws) zero n = refl
close_at_none k (pos (suc m) ∷ ws) zero n = absurd (n (pos (suc m)) refl)
close_at_none k (negsuc m ∷ ws) zero n = absurd (n (negsuc m) refl)
close_at_none k (w ∷ ws) (suc at) n = close_at_none k ws at n

-- The end is not before the clause's first place, and not past the words.
pub close_not_before : (at : ℕ) (ws : List ℤ) → at ≤ close_from at ws
unfolding close_from
close_not_before at [] = omega arith
close_not_before at (pos zero ∷ ws) = omega arith
close_not_before at (pos (suc n) ∷ ws) = omega (arith, close_not_before (suc at) ws)
close_not_before at (negsuc n ∷ ws) = omega (arith, close_not_before (suc at) ws)

pub close_within : (at : ℕ) (ws : List ℤ) → close_from at ws ≤ at + length ws
unfolding close_from
close_within at [] = omega arith
close_within at (pos zero ∷ ws) = omega arith
close_within at (pos (suc n) ∷ ws) = omega (arith, close_within (suc at) ws)
close_within at (negsuc n ∷ ws) = omega (arith, close_within (suc at) ws)

-- At a 0, and at the end of the words, it ends.
pub close_at_zero : (k : ℕ) (ws : List ℤ) (at : ℕ) → word_at ws at ≡ Close → close_from k (drop at ws) ≡ k
unfolding word_at word_is close_from
close_at_zero k [] at e = let z : ◌≡◌ {A = ℕ} 0 1 = cc in absurd (omega arith)
close_at_zero k (pos zero ∷ ws) zero e = refl
close_at_zero k (pos (suc n) ∷ ws) zero e = let z : ◌≡◌ {A = ℕ} 0 1 = cc in absurd (omega arith)
close_at_zero k (negsuc n ∷ ws) zero e = let z : ◌≡◌ {A = ℕ} 0 1 = cc in absurd (omega arith)
close_at_zero k (w ∷ ws) (suc at) e = close_at_zero k ws at e

pub close_at_end : (k : ℕ) (ws : List ℤ) (at : ℕ) → word_at ws at ≡ End → close_from k (drop at ws) ≡ k
unfolding word_at word_is close_from
close_at_end k [] at e = ap (close_from k) (drop-nil at)
close_at_end k (pos zero ∷ ws) zero e = let z : ◌≡◌ {A = ℕ} 0 1 = cc in absurd (omega arith)
close_at_end k (pos (suc n) ∷ ws) zero e = let z : ◌≡◌ {A = ℕ} 0 1 = cc in absurd (omega arith)
close_at_end k (negsuc n ∷ ws) zero e = let z : ◌≡◌ {A = ℕ} 0 1 = cc in absurd (omega arith)
close_at_end k (w ∷ ws) (suc at) e = close_at_end k ws at e
