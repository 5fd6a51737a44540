-- What a word does by the place of its literal, and of the opposite one, among the marks: seen or reached there, nothing where
-- the place is under 2; entries of two variables settle what is known of a clause, and none reach nothing. Definitions: Marks. Assumes nothing.
use Rattle.std.specs.Prelude.{ℕ, ◌*◌, ◌+◌, ◌/◌, ◌<◌, ◌≡◌, refl, Bool, List, [], ◌∷◌, get_or, ltb, eqb, ℤ, neg_ℤ}
use Rattle.std.proofs.Common.{ap, ◌∙◌, inl, inr, arith}
use Rattle.std.proofs.Math.Bool.{true, false}
use Rattle.formula.specs.Word.{word_of, slot, slot_of, opposite}
use Rattle.formula.specs.Word.Laws.{Recognised, nothing, names, recognised, opposite_word, slot_bound}
use Rattle.dependency.specs.Marks.{select, several, see_at, see_word, clause_entry, reach_at, reach_word, reach_clause}
use Rattle.formula.specs.declared.word.Word.{Word}
use Rattle.formula.specs.declared.word.Word.TheVariants.{Zero, TooLarge, Positive, Negative}

pub opposite_slot_bound : (w : ℤ) → slot_of (opposite (word_of w)) < 2050
opposite_slot_bound w = rw (← opposite_word w) (slot_bound (neg_ℤ w))

half_even : (v : ℕ) → (2 * v) / 2 ≡ v
half_even v = omega arith

half_odd : (v : ℕ) → (2 * v + 1) / 2 ≡ v
half_odd v = omega arith

-- A word whose place is under 2 is no literal.
module _ (w : ℤ) (m : List ℕ) (n : ℕ) where
  pub see_nothing : slot_of (word_of w) < 2 → n ≡ see_word m (word_of w) n
  unfolding see_word
  see_nothing h = go (recognised w)
    where
      go : Recognised w → n ≡ see_word m (word_of w) n
      go (nothing (inl e)) = rw e
      go (nothing (inr e)) = rw e
      go (names v true o b e q) = let k = rw e at h in absurd (omega arith)
      go (names v false o b e q) = let k = rw e at h in absurd (omega arith)

  pub reach_nothing : slot_of (opposite (word_of w)) < 2 → m ≡ reach_word n (word_of w) m
  unfolding reach_word
  reach_nothing h = go (recognised w)
    where
      go : Recognised w → m ≡ reach_word n (word_of w) m
      go (nothing (inl e)) = rw e
      go (nothing (inr e)) = rw e
      go (names v true o b e q) = let k = rw e at h in absurd (omega arith)
      go (names v false o b e q) = let k = rw e at h in absurd (omega arith)

-- One with another place is a literal, and half the place is its variable.
pub see_literal : (w : Word) (m : List ℕ) (n : ℕ) → (slot_of w ≡ 0 → ⊥) → see_at (get_or m (slot_of w) 0) (slot_of w / 2) n ≡ see_word m w n
unfolding see_word
see_literal Zero m n h = absurd (h refl)
see_literal TooLarge m n h = absurd (h refl)
see_literal (Positive v) m n h = rw (half_even v.0)
see_literal (Negative v) m n h = rw (half_odd v.0)

pub reach_literal : (w : Word) (m : List ℕ) (n : ℕ) → (slot_of (opposite w) ≡ 0 → ⊥) → reach_at n (slot_of (opposite w) / 2) (slot_of (opposite w)) m ≡ reach_word n w m
unfolding reach_word
reach_literal Zero m n h = absurd (h refl)
reach_literal TooLarge m n h = absurd (h refl)
reach_literal (Positive v) m n h = rw (half_odd v.0)
reach_literal (Negative v) m n h = rw (half_even v.0)

-- Entries of two variables settle what is known of a clause.
see_several : (byte v : ℕ) → see_at byte v several ≡ several
unfolding see_at
see_several byte v = go (ltb byte 2) (eqb several v)
  where
    go : (a b : Bool) → select a several (select (eqb several 0) v (select b several several)) ≡ several
    go true b = refl
    go false true = refl
    go false false = refl

see_word_several : (m : List ℕ) (w : Word) → see_word m w several ≡ several
unfolding see_word
see_word_several m Zero = refl
see_word_several m TooLarge = refl
see_word_several m (Positive v) = see_several (get_or m (slot v.0 true) 0) v.0
see_word_several m (Negative v) = see_several (get_or m (slot v.0 false) 0) v.0

pub clause_entry_several : (m : List ℕ) (C : List ℤ) → clause_entry m several C ≡ several
unfolding clause_entry
clause_entry_several m [] = refl
clause_entry_several m (w ∷ C) = ap (λ (n : ℕ). clause_entry m n C) (see_word_several m (word_of w)) ∙ clause_entry_several m C

-- A clause without entries reaches nothing.
reach_at_none : (v at : ℕ) (m : List ℕ) → reach_at 0 v at m ≡ m
unfolding reach_at
reach_at_none v at m = refl

reach_word_none : (w : Word) (m : List ℕ) → reach_word 0 w m ≡ m
unfolding reach_word
reach_word_none Zero m = refl
reach_word_none TooLarge m = refl
reach_word_none (Positive v) m = reach_at_none v.0 (slot v.0 false) m
reach_word_none (Negative v) m = reach_at_none v.0 (slot v.0 true) m

pub reach_clause_none : (C : List ℤ) (m : List ℕ) → reach_clause 0 C m ≡ m
unfolding reach_clause
reach_clause_none [] m = refl
reach_clause_none (w ∷ C) m = ap (reach_clause 0 C) (reach_word_none (word_of w) m) ∙ reach_clause_none C m
