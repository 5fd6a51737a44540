-- Laws of words: what a word that was recognised says of the literal that it stands for, both signs in one; its variable, by its
-- magnitude and its kind; the place of its literal and of the opposite one. Definitions: Word. Assumes nothing.
use Rattle.std.specs.Prelude.{ℕ, zero, suc, ◌+◌, ◌≤◌, ◌<◌, ◌≡◌, refl, ◌⊎◌, Bool, true, false, leb, ℤ, pos, negsuc, neg_ℤ, nat_abs}
use Rattle.std.proofs.Common.{ap, sym, ◌∙◌, inl, inr, not-suc-le-zero, arith, leb-true, leb-false, le-leb}
use Rattle.std.proofs.lemmas.Bool.{false≢true, lt-leb}
use Rattle.qbf.specs.Literal.{Literal, literal}
use Rattle.formula.specs.Bounds.{variable_bound}
use Rattle.formula.specs.Word.{positive, negative, word_of, is_zero, variable_of, ordinal_of, ordinal, slot_of, opposite, slot_with}
use Rattle.formula.specs.Decode.{literal_of}
use Rattle.formula.specs.declared.literal.Variable.{Variable}
use Rattle.formula.specs.declared.word.Word.{Word}
use Rattle.formula.specs.declared.word.Word.TheVariants.{Zero, TooLarge, Positive, Negative}

-- The test of a word that closes a clause, both ways.
pub zero_sound : (w : ℤ) → is_zero w ≡ true → w ≡ pos 0
unfolding is_zero
zero_sound (pos zero) h = refl
zero_sound (pos (suc n)) h = absurd (false≢true h)
zero_sound (negsuc n) h = absurd (false≢true h)

pub zero_complete : (w : ℤ) → w ≡ pos 0 → is_zero w ≡ true
unfolding is_zero
zero_complete w e = rw e

pub zero_apart : (w : ℤ) → is_zero w ≡ false → w ≡ pos 0 → ⊥
zero_apart w h e = false≢true (sym h ∙ zero_complete w e)

pub apart_zero : (w : ℤ) → (w ≡ pos 0 → ⊥) → is_zero w ≡ false
unfolding is_zero
apart_zero (pos zero) n = absurd (n refl)
apart_zero (pos (suc k)) n = refl
apart_zero (negsuc k) n = refl

-- The word of a variable with a sign.
abbrev pub signed_word : ℕ → Bool → Word
signed_word v true = Positive (record { 0 = v })
signed_word v false = Negative (record { 0 = v })

-- Either a word stands for a literal in range, or it is 0 or too large.
pub data Recognised (w : ℤ) : Type 0 where
  nothing : (word_of w ≡ Zero) ⊎ (word_of w ≡ TooLarge) → Recognised w
  names : (v : ℕ) (s : Bool) → 1 ≤ v → v ≤ variable_bound → word_of w ≡ signed_word v s → literal_of w ≡ literal v s → Recognised w

pub recognised : (w : ℤ) → Recognised w
unfolding word_of
recognised (pos zero) = nothing (inl refl)
recognised (pos (suc n)) = go (leb (suc n) variable_bound) refl
  where
    go : (b : Bool) → leb (suc n) variable_bound ≡ b → Recognised (pos (suc n))
    go true e = names (suc n) true (omega arith) (leb-true (suc n) variable_bound e) (rw e) refl
    go false e = nothing (inr (rw e))
recognised (negsuc n) = go (leb (suc n) variable_bound) refl
  where
    go : (b : Bool) → leb (suc n) variable_bound ≡ b → Recognised (negsuc n)
    go true e = names (suc n) false (omega arith) (leb-true (suc n) variable_bound e) (rw e) refl
    go false e = nothing (inr (rw e))

-- The word of a literal in range.
pub word_of_literal : (w : ℤ) (v : ℕ) (s : Bool) → literal_of w ≡ literal v s → 1 ≤ v → v ≤ variable_bound → word_of w ≡ signed_word v s
unfolding word_of
word_of_literal w v s e l h =
    in_range_lem w (ap (λ (k : Literal). k.variable) e) l h
    ∙ (λ i. signed_word (e i).variable (e i).sign)
  where
    in_range_lem : (w : ℤ) → (literal_of w).variable ≡ v → 1 ≤ v → v ≤ variable_bound → word_of w ≡ signed_word (literal_of w).variable (literal_of w).sign
    in_range_lem (pos zero) q l h = absurd (omega arith)
    in_range_lem (pos (suc n)) q l h = rw (le-leb (suc n) variable_bound (omega arith))
    in_range_lem (negsuc n) q l h = rw (le-leb (suc n) variable_bound (omega arith))

-- The word that was recognised, back from its case.
apart : {v w : Word} {A : Type 0} → v ≡ w → ((v ≡ w) → ◌≡◌ {A = ℕ} 0 1) → A
apart e f = let z = f e in absurd (omega arith)

pub zero_word : (w : ℤ) → word_of w ≡ Zero → w ≡ pos 0
unfolding word_of
zero_word (pos zero) e = refl
zero_word (pos (suc n)) e = go (leb (suc n) variable_bound) e
  where
    go : (b : Bool) → positive b (suc n) ≡ Zero → pos (suc n) ≡ pos 0
    go true f = apart f (λ h. cc)
    go false f = apart f (λ h. cc)
zero_word (negsuc n) e = go (leb (suc n) variable_bound) e
  where
    go : (b : Bool) → negative b (suc n) ≡ Zero → negsuc n ≡ pos 0
    go true f = apart f (λ h. cc)
    go false f = apart f (λ h. cc)

pub positive_word : (w : ℤ) (v : Variable) → word_of w ≡ Positive v → w ≡ pos v.0
unfolding word_of
positive_word (pos zero) v e = apart e (λ h. cc)
positive_word (pos (suc n)) v e = go (leb (suc n) variable_bound) e
  where
    go : (b : Bool) → positive b (suc n) ≡ Positive v → pos (suc n) ≡ pos v.0
    go true f = let same : ◌≡◌ {A = Variable} (record { 0 = suc n }) v = cc in ap (λ (x : Variable). pos x.0) same
    go false f = apart f (λ h. cc)
positive_word (negsuc n) v e = go (leb (suc n) variable_bound) e
  where
    go : (b : Bool) → negative b (suc n) ≡ Positive v → negsuc n ≡ pos v.0
    go true f = apart f (λ h. cc)
    go false f = apart f (λ h. cc)

pub negative_word : (w : ℤ) (v : Variable) → word_of w ≡ Negative v → w ≡ neg_ℤ (pos v.0)
unfolding word_of
negative_word (pos zero) v e = apart e (λ h. cc)
negative_word (pos (suc n)) v e = go (leb (suc n) variable_bound) e
  where
    go : (b : Bool) → positive b (suc n) ≡ Negative v → pos (suc n) ≡ neg_ℤ (pos v.0)
    go true f = apart f (λ h. cc)
    go false f = apart f (λ h. cc)
negative_word (negsuc n) v e = go (leb (suc n) variable_bound) e
  where
    go : (b : Bool) → negative b (suc n) ≡ Negative v → negsuc n ≡ neg_ℤ (pos v.0)
    go true f = let same : ◌≡◌ {A = Variable} (record { 0 = suc n }) v = cc in ap (λ (x : Variable). neg_ℤ (pos x.0)) same
    go false f = apart f (λ h. cc)

-- A word within the range is not too large.
pub not_too_large : (w : ℤ) {A : Type 0} → nat_abs w ≤ variable_bound → word_of w ≡ TooLarge → A
unfolding word_of
not_too_large (pos zero) h e = apart e (λ f. cc)
not_too_large (pos (suc n)) h e = apart (rw (le-leb (suc n) variable_bound h) at e) (λ f. cc)
not_too_large (negsuc n) h e = apart (rw (le-leb (suc n) variable_bound h) at e) (λ f. cc)

-- A variable that was recognised is in range, with either sign.
pub positive_bounded : (w : ℤ) (v : Variable) → word_of w ≡ Positive v → (1 ≤ v.0) × (v.0 ≤ variable_bound)
positive_bounded w v e = go (recognised w)
  where
    go : Recognised w → (1 ≤ v.0) × (v.0 ≤ variable_bound)
    go (nothing (inl k)) = let z : ◌≡◌ {A = ℕ} 0 1 = cc in absurd (omega arith)
    go (nothing (inr k)) = let z : ◌≡◌ {A = ℕ} 0 1 = cc in absurd (omega arith)
    go (names v' true l b k q) = let z : v ≡ record { 0 = v' } = cc in rw z (l, b)
    go (names v' false l b k q) = let z : ◌≡◌ {A = ℕ} 0 1 = cc in absurd (omega arith)

pub negative_bounded : (w : ℤ) (v : Variable) → word_of w ≡ Negative v → (1 ≤ v.0) × (v.0 ≤ variable_bound)
negative_bounded w v e = go (recognised w)
  where
    go : Recognised w → (1 ≤ v.0) × (v.0 ≤ variable_bound)
    go (nothing (inl k)) = let z : ◌≡◌ {A = ℕ} 0 1 = cc in absurd (omega arith)
    go (nothing (inr k)) = let z : ◌≡◌ {A = ℕ} 0 1 = cc in absurd (omega arith)
    go (names v' true l b k q) = let z : ◌≡◌ {A = ℕ} 0 1 = cc in absurd (omega arith)
    go (names v' false l b k q) = let z : v ≡ record { 0 = v' } = cc in rw z (l, b)

-- The variable of a word in range is its magnitude; a magnitude above the range is no variable's.
pub variable_magnitude : (w : ℤ) → nat_abs w ≤ variable_bound → variable_of (word_of w) ≡ nat_abs w
unfolding word_of variable_of
variable_magnitude (pos zero) h = refl
variable_magnitude (pos (suc n)) h = rw (le-leb (suc n) variable_bound h)
variable_magnitude (negsuc n) h = rw (le-leb (suc n) variable_bound h)

pub variable_large : (w : ℤ) → variable_bound < nat_abs w → variable_of (word_of w) ≡ variable_bound + 1
unfolding word_of variable_of
variable_large (pos zero) h = absurd (not-suc-le-zero h)
variable_large (pos (suc n)) h = rw (lt-leb (suc n) variable_bound h)
variable_large (negsuc n) h = rw (lt-leb (suc n) variable_bound h)

-- The three things a word can be: 0, too large, a variable with a sign.
pub data Kind (w : ℤ) : Type 0 where
  closing : w ≡ pos 0 → Kind w
  large : variable_bound < nat_abs w → Kind w
  signed : 1 ≤ nat_abs w → nat_abs w ≤ variable_bound → Kind w

pub kind : (w : ℤ) → Kind w
kind (pos zero) = closing refl
kind (pos (suc n)) = go (leb (suc n) variable_bound) refl
  where
    go : (b : Bool) → leb (suc n) variable_bound ≡ b → Kind (pos (suc n))
    go true e = signed (omega arith) (leb-true (suc n) variable_bound e)
    go false e = large (leb-false (suc n) variable_bound e)
kind (negsuc n) = go (leb (suc n) variable_bound) refl
  where
    go : (b : Bool) → leb (suc n) variable_bound ≡ b → Kind (negsuc n)
    go true e = signed (omega arith) (leb-true (suc n) variable_bound e)
    go false e = large (leb-false (suc n) variable_bound e)

-- What tests on the variable of a word say of the word.
pub variable_zero : (w : ℤ) → variable_of (word_of w) < 1 → w ≡ pos 0
variable_zero w h = go (kind w)
  where
    go : Kind w → w ≡ pos 0
    go (closing e) = e
    go (large l) = let e = variable_large w l in absurd (omega arith)
    go (signed l u) = let e = variable_magnitude w u in absurd (omega arith)

pub variable_above : (w : ℤ) → variable_bound < variable_of (word_of w) → variable_bound < nat_abs w
variable_above w h = go (kind w)
  where
    go : Kind w → variable_bound < nat_abs w
    go (closing e) = let z = variable_magnitude w (rw e (omega arith)) in let k : nat_abs w ≡ 0 = ap nat_abs e in absurd (omega arith)
    go (large l) = l
    go (signed l u) = let e = variable_magnitude w u in absurd (omega arith)

pub variable_within : (w : ℤ) → variable_of (word_of w) ≤ variable_bound → variable_of (word_of w) ≡ nat_abs w
variable_within w h = go (kind w)
  where
    go : Kind w → variable_of (word_of w) ≡ nat_abs w
    go (closing e) = variable_magnitude w (rw e (omega arith))
    go (large l) = let e = variable_large w l in absurd (omega arith)
    go (signed l u) = variable_magnitude w u

-- The opposite word; places within the marks, and which literal a place other than 0 is of.
pub opposite_word : (w : ℤ) → word_of (neg_ℤ w) ≡ opposite (word_of w)
unfolding word_of
opposite_word (pos zero) = refl
opposite_word (pos (suc n)) = go (leb (suc n) variable_bound)
  where
    go : (b : Bool) → negative b (suc n) ≡ opposite (positive b (suc n))
    go true = refl
    go false = refl
opposite_word (negsuc n) = go (leb (suc n) variable_bound)
  where
    go : (b : Bool) → positive b (suc n) ≡ opposite (negative b (suc n))
    go true = refl
    go false = refl

pub slot_with_plain : (w : Word) → slot_with 0 1 w ≡ slot_of w
slot_with_plain Zero = refl
slot_with_plain TooLarge = refl
slot_with_plain (Positive v) = omega arith
slot_with_plain (Negative v) = refl

pub slot_with_opposite : (w : Word) → slot_with 1 0 w ≡ slot_of (opposite w)
slot_with_opposite Zero = refl
slot_with_opposite TooLarge = refl
slot_with_opposite (Positive v) = refl
slot_with_opposite (Negative v) = omega arith

pub slot_bound : (w : ℤ) → slot_of (word_of w) < 2050
slot_bound w = go (recognised w)
  where
    go : Recognised w → slot_of (word_of w) < 2050
    go (nothing (inl e)) = rw e (omega arith)
    go (nothing (inr e)) = rw e (omega arith)
    go (names v true o b e q) = rw e (omega arith)
    go (names v false o b e q) = rw e (omega arith)

-- The number that a word is: within the bound, its word where it is none but 0, and the number of its word.
pub ordinal_bounded : (w : ℤ) → ordinal w ≤ variable_bound
unfolding ordinal word_of
ordinal_bounded (pos zero) = omega arith
ordinal_bounded (pos (suc n)) = go (leb (suc n) variable_bound) refl
  where
    go : (b : Bool) → leb (suc n) variable_bound ≡ b → ordinal_of (positive b (suc n)) ≤ variable_bound
    go true e = leb-true (suc n) variable_bound e
    go false e = omega arith
ordinal_bounded (negsuc n) = go (leb (suc n) variable_bound)
  where
    go : (b : Bool) → ordinal_of (negative b (suc n)) ≤ variable_bound
    go true = omega arith
    go false = omega arith

pub ordinal_word : (w : ℤ) → 1 ≤ ordinal w → w ≡ pos (ordinal w)
unfolding ordinal word_of
ordinal_word (pos zero) h = absurd (not-suc-le-zero h)
ordinal_word (pos (suc n)) h = go (leb (suc n) variable_bound) h
  where
    go : (b : Bool) → 1 ≤ ordinal_of (positive b (suc n)) → pos (suc n) ≡ pos (ordinal_of (positive b (suc n)))
    go true k = refl
    go false k = absurd (not-suc-le-zero k)
ordinal_word (negsuc n) h = go (leb (suc n) variable_bound) h
  where
    go : (b : Bool) → 1 ≤ ordinal_of (negative b (suc n)) → negsuc n ≡ pos (ordinal_of (negative b (suc n)))
    go true k = absurd (not-suc-le-zero k)
    go false k = absurd (not-suc-le-zero k)

pub ordinal_number : (n : ℕ) → n ≤ variable_bound → ordinal (pos n) ≡ n
unfolding ordinal word_of
ordinal_number zero h = refl
ordinal_number (suc n) h = rw (le-leb (suc n) variable_bound h)
