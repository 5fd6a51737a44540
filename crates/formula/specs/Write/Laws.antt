-- The parts of the written text as a loop meets them. Assumes nothing.
use Rattle.std.specs.Prelude.{ℕ, zero, suc, ◌+◌, ◌≤◌, ◌<◌, max, ◌≡◌, refl, List, [], ◌∷◌, ◌++◌, length, drop, get_or, eqb, ℤ, pos, neg_ℤ}
use Rattle.std.proofs.Common.{not-suc-le-zero, arith, eq-eqb, ne_eqb, length-append}
use Rattle.std.proofs.Math.Seq.{drop-cons}
use Rattle.qbf.specs.Formula.{existential, entry, Prefix}
use Rattle.formula.specs.Word.{word_of}
use Rattle.formula.specs.Word.Laws.{zero_word, positive_word, negative_word, positive_bounded, negative_bounded}
use Rattle.formula.specs.Decimal.{decimal}
use Rattle.formula.specs.Write.{header_text, largest, letter_of}
use Rattle.formula.specs.Write.Stream.{line_end, line_turn, entry_text, prefix_text, word_text, clauses_text}
use Rattle.formula.specs.declared.literal.Variable.{Variable}
use Rattle.formula.specs.declared.word.Word.TheVariants.{Zero, Positive, Negative}

pub length_header : (top count : ℕ) → length (header_text top count) ≡ length (decimal top) + length (decimal count) + 8
unfolding header_text
length_header top count = simp length-append (omega arith)

-- A line that is open is ended.
pub line_end_open : (last : ℕ) → (last ≡ 0 → ⊥) → line_end last ≡ 48 ∷ 10 ∷ []
unfolding line_end
line_end_open zero h = absurd (h refl)
line_end_open (suc n) h = refl

pub line_turn_same : (last letter : ℕ) → last ≡ letter → line_turn (eqb last letter) last letter ≡ []
unfolding line_turn
line_turn_same last letter e = rw (eq-eqb last letter e)

pub line_turn_other : (last letter : ℕ) → (last ≡ letter → ⊥) → line_turn (eqb last letter) last letter ≡ line_end last ++ (letter ∷ 32 ∷ [])
unfolding line_turn
line_turn_other last letter h = rw (ne_eqb last letter h)

-- The entry at a place, and the entries after it.
module _ (i : ℕ) (P : Prefix) (h : i < length P) where
  pub largest_drop : largest (drop i P) ≡ max (get_or P i (entry 0 existential)).variable (largest (drop (suc i) P))
  unfolding largest
  largest_drop = rw (drop-cons P i (entry 0 existential) h)

  pub prefix_text_drop : (last letter variable : ℕ)
      → letter ≡ letter_of (get_or P i (entry 0 existential)).quantifier
      → variable ≡ (get_or P i (entry 0 existential)).variable
      → prefix_text last (drop i P) ≡ entry_text last letter variable ++ prefix_text letter (drop (suc i) P)
  unfolding prefix_text
  prefix_text_drop last letter variable e f = rw (e, f, drop-cons P i (entry 0 existential) h)

-- The word at a place, and the words after it.
pub clauses_text_drop : (i : ℕ) (ws : List ℤ) → i < length ws → clauses_text (drop i ws) ≡ word_text (get_or ws i (pos 0)) ++ clauses_text (drop (suc i) ws)
unfolding clauses_text
clauses_text_drop i ws h = rw (drop-cons ws i (pos 0) h)

-- The text of a word, by what it was recognised as.
pub text_zero : (w : ℤ) → word_of w ≡ Zero → word_text w ≡ 48 ∷ 10 ∷ []
unfolding word_text
text_zero w e = rw (zero_word w e)

pub text_positive : (w : ℤ) (v : Variable) → word_of w ≡ Positive v → word_text w ≡ decimal v.0 ++ (32 ∷ [])
unfolding word_text
text_positive w v e = rw (positive_word w v e) (go v.0 (positive_bounded w v e).0)
  where
    go : (n : ℕ) → 1 ≤ n → word_text (pos n) ≡ decimal n ++ (32 ∷ [])
    go zero l = absurd (not-suc-le-zero l)
    go (suc n) l = refl

pub text_negative : (w : ℤ) (v : Variable) → word_of w ≡ Negative v → word_text w ≡ 45 ∷ (decimal v.0 ++ (32 ∷ []))
unfolding word_text
text_negative w v e = rw (negative_word w v e) (go v.0 (negative_bounded w v e).0)
  where
    go : (n : ℕ) → 1 ≤ n → word_text (neg_ℤ (pos n)) ≡ 45 ∷ (decimal n ++ (32 ∷ []))
    go zero l = absurd (not-suc-le-zero l)
    go (suc n) l = refl
