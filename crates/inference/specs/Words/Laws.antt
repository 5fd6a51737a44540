-- What the tests of Words.antt say, both ways, and the words of a first clause one by one. Assumes nothing.
use Rattle.std.specs.Prelude.{◌≡◌, refl, ◌⊎◌, ◌≢◌, Bool, true, false, ◌||◌, ℤ, pos, negsuc, neg_ℤ}
use Rattle.std.proofs.Common.{ap, sym, ◌∙◌, inl, inr, eqb-true, eq-eqb}
use Rattle.std.proofs.lemmas.Bool.{false≢true}
use mathlib.Core.List.Memᴰ
use mathlib.Core.List.{[], ◌∷◌, Memᴰ}
use Rattle.std.proofs.Math.IntN.{neg_ℤ-neg_ℤ}
use Rattle.qbf.specs.Connectives.{or_either, or_left, or_right}
use Rattle.formula.specs.Decode.{first_clause}
use Rattle.formula.specs.Decode.Laws.{first_clause_cons}
use Rattle.formula.specs.Word.Laws.{zero_sound, zero_apart}
use Rattle.std.specs.List.{list_any}
use Rattle.inference.specs.Words.{Words, same_word, is_zero, holds, keep, without, TellsAny}

-- A Bool that is not the one is the other.
pub not_true_false : (b : Bool) → (b ≡ true → ⊥) → b ≡ false
not_true_false true h = absurd (h refl)
not_true_false false h = refl

pub same_sound : (x y : ℤ) → same_word x y ≡ true → x ≡ y
unfolding same_word
same_sound (pos a) (pos b) h = ap pos (eqb-true a b h)
same_sound (pos a) (negsuc b) h = absurd (false≢true h)
same_sound (negsuc a) (pos b) h = absurd (false≢true h)
same_sound (negsuc a) (negsuc b) h = ap negsuc (eqb-true a b h)

same_self : (x : ℤ) → same_word x x ≡ true
unfolding same_word
same_self (pos a) = eq-eqb a a refl
same_self (negsuc a) = eq-eqb a a refl

pub same_complete : (x y : ℤ) → x ≡ y → same_word x y ≡ true
same_complete x y e = rw (← e) (same_self x)

pub same_apart : (x y : ℤ) → same_word x y ≡ false → x ≢ y
same_apart x y h e = false≢true (sym h ∙ same_complete x y e)

pub apart_same : (x y : ℤ) → x ≢ y → same_word x y ≡ false
apart_same x y n = not_true_false (same_word x y) (λ h. n (same_sound x y h))

-- Words are equal or not.
pub word? : (x y : ℤ) → Dec (x ≡ y)
word? x y = go (same_word x y) refl
  where
    go : (b : Bool) → same_word x y ≡ b → Dec (x ≡ y)
    go true e = yes (same_sound x y e)
    go false e = no (same_apart x y e)

pub holds_sound : (x : ℤ) (C : Words) → holds x C ≡ true → Memᴰ x C
unfolding holds
holds_sound x [] h = absurd (false≢true h)
holds_sound x (y ∷ C) h = go (or_either (same_word x y) (holds x C) h) (λ k. holds_sound x C k)
  where
    go : (same_word x y ≡ true) ⊎ (holds x C ≡ true) → (holds x C ≡ true → Memᴰ x C) → Memᴰ x (y ∷ C)
    go (inl e) later = Memᴰ.head (same_sound x y e)
    go (inr k) later = Memᴰ.tail (later k)

pub holds_complete : (x : ℤ) (C : Words) → Memᴰ x C → holds x C ≡ true
unfolding holds
holds_complete x [] m = absurd (Memᴰ.not-nil m)
holds_complete x (y ∷ C) m = go (Memᴰ.cases_cons m) (λ k. holds_complete x C k)
  where
    go : (x ≡ y) ⊎ Memᴰ x C → (Memᴰ x C → holds x C ≡ true) → (same_word x y || holds x C) ≡ true
    go (inl e) later = or_left (same_word x y) (holds x C) (same_complete x y e)
    go (inr k) later = or_right (same_word x y) (holds x C) (later k)

pub holds_absent : (x : ℤ) (C : Words) → holds x C ≡ false → Memᴰ x C → ⊥
holds_absent x C h m = false≢true (sym h ∙ holds_complete x C m)

pub absent_holds : (x : ℤ) (C : Words) → (Memᴰ x C → ⊥) → holds x C ≡ false
absent_holds x C n = not_true_false (holds x C) (λ h. n (holds_sound x C h))

pub without_member : (x y : ℤ) (C : Words) → Memᴰ x (without y C) → Memᴰ x C × (x ≢ y)
unfolding without
without_member x y [] m = absurd (Memᴰ.not-nil m)
without_member x y (z ∷ C) m = go (same_word y z) refl (without_member x y C) m
  where
    go :
        (b : Bool) → same_word y z ≡ b
        → (Memᴰ x (without y C) → Memᴰ x C × (x ≢ y))
        → Memᴰ x (keep b z (without y C))
        → Memᴰ x (z ∷ C) × (x ≢ y)
    go true e later k = let r = later k in (Memᴰ.tail r.0, r.1)
    go false e later k = first (Memᴰ.cases_cons k)
      where
        first : (x ≡ z) ⊎ Memᴰ x (without y C) → Memᴰ x (z ∷ C) × (x ≢ y)
        first (inl q) = (Memᴰ.head q, λ r. same_apart y z e (sym r ∙ q))
        first (inr i) = let r = later i in (Memᴰ.tail r.0, r.1)

pub member_without : (x y : ℤ) (C : Words) → Memᴰ x C → x ≢ y → Memᴰ x (without y C)
unfolding without
member_without x y [] m n = absurd (Memᴰ.not-nil m)
member_without x y (z ∷ C) m n = go (same_word y z) refl (λ k. member_without x y C k n) (Memᴰ.cases_cons m)
  where
    go :
        (b : Bool) → same_word y z ≡ b
        → (Memᴰ x C → Memᴰ x (without y C))
        → (x ≡ z) ⊎ Memᴰ x C
        → Memᴰ x (keep b z (without y C))
    go true e later (inl q) = absurd (n (q ∙ sym (same_sound y z e)))
    go true e later (inr k) = later k
    go false e later (inl q) = Memᴰ.head q
    go false e later (inr k) = Memᴰ.tail (later k)

-- A first clause word by word.
pub zero_ends : (w : ℤ) (ws : Words) → is_zero w ≡ true → first_clause (w ∷ ws) ≡ []
unfolding first_clause
zero_ends w ws h = rw (zero_sound w h)

pub literal_first : (w : ℤ) (ws : Words) → is_zero w ≡ false → first_clause (w ∷ ws) ≡ w ∷ first_clause ws
literal_first w ws h = first_clause_cons w ws (zero_apart w h)

-- Opposites of two words are the same only if these are.
pub opposite_injective : (x y : ℤ) → neg_ℤ x ≡ neg_ℤ y → x ≡ y
opposite_injective x y e = sym (neg_ℤ-neg_ℤ x) ∙ ap neg_ℤ e ∙ neg_ℤ-neg_ℤ y

-- A test asked of one word of a clause after the other: what is left of the clause tells what the whole does.
abbrev pub TellsOn : (ℤ → Bool → Type 0) → Words → Words → Type 0
TellsOn Post C D =
    ((x : ℤ) → Memᴰ x D → Memᴰ x C)
    × ((P : ℤ → Bool) → ((x : ℤ) (b : Bool) → Memᴰ x C → Post x b → b ≡ P x) → list_any P C ≡ list_any P D)

module _ (Post : ℤ → Bool → Type 0) (C D : Words) (h : TellsOn Post C D) where
  pub tells_ends : D ≡ [] → TellsAny Post C false
  tells_ends d P k = sym (h.1 P k ∙ ap (list_any P) d)

  module _ (x : ℤ) (E : Words) (d : D ≡ x ∷ E) where
    pub tells_here : Memᴰ x C
    tells_here = h.0 x (rw d (Memᴰ.head refl))

    pub tells_stops : Post x true → TellsAny Post C true
    tells_stops p P k = sym (h.1 P k ∙ rw (d, ← k x true tells_here p))

    pub tells_turns : Post x false → TellsOn Post C E
    tells_turns p = (λ y m. h.0 y (rw d (Memᴰ.tail m)), λ P k. h.1 P k ∙ rw (d, ← k x false tells_here p))

-- The tests of a clause as tests of its words.
pub holds_any : (x : ℤ) (C : Words) → list_any (same_word x) C ≡ holds x C
unfolding holds
holds_any x [] = refl
holds_any x (y ∷ C) = ap (λ (b : Bool). same_word x y || b) (holds_any x C)
