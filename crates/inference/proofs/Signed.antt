-- Tests on signed words as the code makes them, and the slot of a literal and of its opposite. All reasoning on the bits of a
-- word is here. Assumes nothing.
use Prim.Native.Nat.{ℕ, zero, suc, ◌+◌, ◌^◌, ◌<◌, ◌≤◌}
use Rattle.formula.specs.Decode.{clause_at}
use Rattle.formula.specs.Decode.Places.{clause_zero, clause_literal, clause_past}
use mathlib.Core.Path.{◌≡◌, refl, ap, sym, ◌∙◌}
use mathlib.Core.Bool.{Bool, true, false}
use native.Mathlib.Omega.{arith}
use borrow.Author.Tests.{eqb-true, eqb-false}
use lib.Dec.{eqb}
use mathlib.Core.List.{List, [], ◌∷◌}
use lib.ListN.{length, get_or}
use lib.IntN.{ℤ, pos, negsuc, neg_ℤ}
use lib.Signed.{mag}
use mir.Syntax.{w32}
use mir.Val.{to_z, of_z, SFits, hbits}
use mir.Facts.{to_z-of_z, to_z_pos}
use Rattle.formula.specs.Word.{word_of, slot_of, opposite}
use Rattle.formula.specs.Word.Laws.{opposite_word}
use Rattle.formula.specs.declared.word.Word.{Word}
use Rattle.inference.specs.Words.{same_word, is_zero, InRange}
use Rattle.inference.specs.Words.Laws.{same_complete, apart_same}
use Rattle.inference.specs.Empty.{is_empty}
use Rattle.inference.specs.Marks.{slot_at}
use Rattle.inference.specs.Marks.Laws.{slot_bits, slot_at_bound, opposite_in_range}

-- The code compares words by their bits: equal bits, equal words.
pub bits_same : (a b : ℤ) → SFits w32 a → SFits w32 b → of_z w32 a ≡ of_z w32 b → same_word a b ≡ true
bits_same a b ha hb e = same_complete a b (sym (to_z-of_z ha) ∙ ap (to_z w32) e ∙ to_z-of_z hb)

pub bits_apart : (a b : ℤ) → (of_z w32 a ≡ of_z w32 b → ⊥) → same_word a b ≡ false
bits_apart a b n = apart_same a b (λ q. n (ap (of_z w32) q))

pub same_bits : (a b : ℤ) → SFits w32 a → SFits w32 b → eqb (of_z w32 a) (of_z w32 b) ≡ same_word a b
same_bits a b ha hb = go (eqb (of_z w32 a) (of_z w32 b)) refl
  where
    go : (t : Bool) → eqb (of_z w32 a) (of_z w32 b) ≡ t → t ≡ same_word a b
    go true e = sym (bits_same a b ha hb (eqb-true (of_z w32 a) (of_z w32 b) e))
    go false e = sym (bits_apart a b (eqb-false (of_z w32 a) (of_z w32 b) e))

-- A word read from a table and tested in a call.
pub read_back : (z : ℤ) → mag z < 2 ^ hbits w32 → to_z w32 (of_z w32 z) ≡ z
read_back z h = to_z-of_z {w = w32} (record { sfits = h })

pub read_zero : (z : ℤ) {r b : Bool} → mag z < 2 ^ hbits w32 → r ≡ is_zero (to_z w32 (of_z w32 z)) → r ≡ b → is_zero z ≡ b
read_zero z h e t = ap is_zero (sym (read_back z h)) ∙ sym e ∙ t

-- A word read in a loop over a clause: the 0 that closes it, or one more literal, which is the word that a call is given.
module _ (words : List ℤ) (i : ℕ) (within : i < length words) (fits : mag (get_or words i (pos 0)) < 2 ^ hbits w32) {r : Bool} (told : r ≡ is_zero (to_z w32 (of_z w32 (get_or words i (pos 0))))) where
  pub read_close : r ≡ true → clause_at words i ≡ []
  read_close t = clause_zero words i within (read_zero (get_or words i (pos 0)) fits told t)

  pub read_literal : r ≡ false → (clause_at words i ≡ get_or words i (pos 0) ∷ clause_at words (i + 1)) × (to_z w32 (of_z w32 (get_or words i (pos 0))) ≡ get_or words i (pos 0))
  read_literal t = (clause_literal words i within (read_zero (get_or words i (pos 0)) fits told t), read_back (get_or words i (pos 0)) fits)

-- A clause is empty where a 0 stands, or no word.
pub empty_here : (words : List ℤ) (i : ℕ) → i < length words → SFits w32 (get_or words i (pos 0)) → is_zero (to_z w32 (of_z w32 (get_or words i (pos 0)))) ≡ is_empty (clause_at words i)
empty_here words i h f = rw (to_z-of_z f) (go (is_zero (get_or words i (pos 0))) refl)
  where
    go : (b : Bool) → is_zero (get_or words i (pos 0)) ≡ b → b ≡ is_empty (clause_at words i)
    go true e = sym (ap is_empty (clause_zero words i h e))
    go false e = sym (ap is_empty (clause_literal words i h e))

pub empty_past : (words : List ℤ) (i : ℕ) → length words ≤ i → is_empty (clause_at words i) ≡ true
empty_past words i h = ap is_empty (clause_past words i h)

-- Parameters handed on to a call.
pub read_slot : (x : ℤ) {n : ℕ} → SFits w32 x → n ≡ slot_of (word_of (to_z w32 (of_z w32 x))) → n ≡ slot_at x
unfolding slot_at
read_slot x h e = e ∙ ap (λ (y : ℤ). slot_of (word_of y)) (to_z-of_z h)

pub read_opposite : (x : ℤ) {n : ℕ} → SFits w32 x → n ≡ slot_of (opposite (word_of (to_z w32 (of_z w32 x)))) → n ≡ slot_at (neg_ℤ x)
unfolding slot_at
read_opposite x h e = e ∙ ap (λ (y : ℤ). slot_of (opposite (word_of y))) (to_z-of_z h) ∙ ap slot_of (sym (opposite_word x))

-- The slot of a literal and of its opposite has a bit.
pub slot_low : (x : ℤ) → SFits w32 x → InRange x → 2 ≤ slot_of (word_of (to_z w32 (of_z w32 x)))
slot_low x h r = (slot_bits x _ (read_slot x h refl) r).0

pub slot_high : (x : ℤ) → SFits w32 x → slot_of (word_of (to_z w32 (of_z w32 x))) < 2050
slot_high x h = rw (read_slot x h refl) (slot_at_bound x)

pub opposite_low : (x : ℤ) → SFits w32 x → InRange x → 2 ≤ slot_of (opposite (word_of (to_z w32 (of_z w32 x))))
opposite_low x h r = (slot_bits (neg_ℤ x) _ (read_opposite x h refl) (opposite_in_range x r)).0

pub opposite_high : (x : ℤ) → SFits w32 x → slot_of (opposite (word_of (to_z w32 (of_z w32 x)))) < 2050
opposite_high x h = rw (read_opposite x h refl) (slot_at_bound (neg_ℤ x))

pub read_word : (z : ℤ) {r : Word} → SFits w32 z → r ≡ word_of (to_z w32 (of_z w32 z)) → r ≡ word_of z
read_word z h e = e ∙ ap word_of (to_z-of_z h)

-- A pivot's literals as words.
pub pivot_word : (v : ℕ) → v ≤ 1024 → to_z w32 v ≡ pos v
pivot_word v h = to_z_pos w32 (omega arith)

pub opposite_word_fits : (v : ℕ) → v ≤ 1024 → SFits w32 (neg_ℤ (pos v))
opposite_word_fits zero h = record { sfits = omega arith }
opposite_word_fits (suc n) h = record { sfits = omega arith }

-- The opposite of a literal's word.
pub opposite_fits : (x : ℤ) → InRange x → SFits w32 (neg_ℤ x)
opposite_fits (pos zero) r = record { sfits = omega arith }
opposite_fits (pos (suc n)) r = record { sfits = omega (arith, r.1) }
opposite_fits (negsuc n) r = record { sfits = omega (arith, r.1) }
