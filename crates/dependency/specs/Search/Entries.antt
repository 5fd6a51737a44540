-- The one number that a clause's entries give: where it is not 0, an entry stands in the clause for each variable that is
-- not that number; and an entry makes it neither 0 nor any other variable's number. Assumes nothing.
use Rattle.std.specs.Prelude.{ℕ, ◌≤◌, ◌<◌, ◌≡◌, ◌⊎◌, Bool, get_or, ℤ}
use Rattle.std.proofs.Math.Path.{refl, sym}
use Rattle.std.proofs.Common.{◌∙◌, subst, inl, inr, arith}
use Rattle.std.proofs.Math.Bool.{true, false}
use mathlib.Core.List.Memᴰ
use mathlib.Core.List.{List, [], ◌∷◌, Memᴰ}
use Rattle.std.proofs.Math.Decide.{ℕ_discrete}
use borrow.Author.Tests.{ltb-true, ltb-false, eqb-true, eqb-false}
use Rattle.std.proofs.Math.Dec.{ltb, eqb}
use Rattle.qbf.specs.Literal.{Literal, literal, Clause}
use Rattle.formula.specs.Word.{word_of, slot}
use Rattle.formula.specs.Word.Laws.{signed_word, Recognised, nothing, names, recognised}
use Rattle.formula.specs.Decode.{literal_of}
use Rattle.formula.specs.declared.word.Word.{Word}
use Rattle.formula.specs.declared.word.Word.TheVariants.{Zero, TooLarge, Positive, Negative}
use Rattle.dependency.specs.Marks.{select, several, see_at, see_word, clause_entry}

-- A literal's mark.
abbrev pub byte : List ℕ → Literal → ℕ
byte m l = get_or m (slot l.variable l.sign) 0

-- Both signs are seen alike.
see_signed : (m : List ℕ) (v : ℕ) (s : Bool) (seen : ℕ) → see_word m (signed_word v s) seen ≡ see_at (get_or m (slot v s) 0) v seen
unfolding see_word
see_signed m v true seen = refl
see_signed m v false seen = refl

module _ (m : List ℕ) (L : Clause) where
  -- For each variable but the number, unless it is 0, the clause holds an entry of another variable.
  abbrev pub Witnessed : ℕ → Type 0
  Witnessed seen =
      (v : ℕ) → (seen ≡ 0 → ⊥) → (seen ≡ v → ⊥) → (l : Literal) × Memᴰ l L × (1 < byte m l) × (l.variable ≡ v → ⊥)

  see_at_witnessed : (l : Literal) → Memᴰ l L → (seen : ℕ) → Witnessed seen → Witnessed (see_at (byte m l) l.variable seen)
  unfolding see_at
  see_at_witnessed l i seen w = go (ltb (byte m l) 2) (eqb seen 0) (eqb seen l.variable) refl refl refl
    where
      go :
          (a b c : Bool) → ltb (byte m l) 2 ≡ a → eqb seen 0 ≡ b → eqb seen l.variable ≡ c
          → Witnessed (select a seen (select b l.variable (select c seen several)))
      go true b c p q r = w
      go false true c p q r = λ v z n. (l, i, ltb-false (byte m l) 2 p, n)
      go false false true p q r = λ v z n. (l, i, ltb-false (byte m l) 2 p, λ e. n (eqb-true seen l.variable r ∙ e))
      go false false false p q r = λ v z n. other v (ℕ_discrete l.variable v)
        where
          other : (v : ℕ) → Dec (l.variable ≡ v) → (k : Literal) × Memᴰ k L × (1 < byte m k) × (k.variable ≡ v → ⊥)
          other v (yes e) = w v (eqb-false seen 0 q) (λ k. eqb-false seen l.variable r (k ∙ sym e))
          other v (no n) = (l, i, ltb-false (byte m l) 2 p, n)

  see_word_witnessed : (w : ℤ) → Memᴰ (literal_of w) L → (seen : ℕ) → Witnessed seen → Witnessed (see_word m (word_of w) seen)
  unfolding see_word
  see_word_witnessed w i seen h = go (recognised w)
    where
      go : Recognised w → Witnessed (see_word m (word_of w) seen)
      go (nothing (inl e)) = rw e h
      go (nothing (inr e)) = rw e h
      go (names v s o b e q) = rw (e, see_signed m v s seen) (see_at_witnessed (literal v s) (rw q at i) seen h)

  pub clause_entry_witnessed :
      (C : List ℤ) → ((w : ℤ) → Memᴰ w C → Memᴰ (literal_of w) L) → (seen : ℕ) → Witnessed seen → Witnessed (clause_entry m seen C)
  unfolding clause_entry
  clause_entry_witnessed [] i seen h = h
  clause_entry_witnessed (w ∷ C) i seen h =
      clause_entry_witnessed C (λ v k. i v (Memᴰ.tail k)) (see_word m (word_of w) seen) (see_word_witnessed w (i w (Memᴰ.head refl)) seen h)

-- The number is neither 0 nor v.
abbrev pub Past : ℕ → ℕ → Type 0
Past v seen = (seen ≡ 0 → ⊥) × (seen ≡ v → ⊥)

module _ (m : List ℕ) (v : ℕ) (small : v ≤ 1024) where
  several_past : Past v several
  several_past = (λ e. absurd (omega arith), λ e. absurd (omega arith))

  see_at_past : (byte' x seen : ℕ) → Past v seen → Past v (see_at byte' x seen)
  unfolding see_at
  see_at_past byte' x seen h = go (ltb byte' 2) (eqb seen 0) (eqb seen x) refl
    where
      go : (a b c : Bool) → eqb seen 0 ≡ b → Past v (select a seen (select b x (select c seen several)))
      go true b c q = h
      go false true c q = absurd (h.0 (eqb-true seen 0 q))
      go false false true q = h
      go false false false q = several_past

  see_word_past : (w : Word) (seen : ℕ) → Past v seen → Past v (see_word m w seen)
  unfolding see_word
  see_word_past Zero seen h = h
  see_word_past TooLarge seen h = h
  see_word_past (Positive x) seen h = see_at_past (get_or m (slot x.0 true) 0) x.0 seen h
  see_word_past (Negative x) seen h = see_at_past (get_or m (slot x.0 false) 0) x.0 seen h

  clause_entry_past : (C : List ℤ) (seen : ℕ) → Past v seen → Past v (clause_entry m seen C)
  unfolding clause_entry
  clause_entry_past [] seen h = h
  clause_entry_past (w ∷ C) seen h = clause_entry_past C (see_word m (word_of w) seen) (see_word_past (word_of w) seen h)

  module _ (w : ℤ) (x : ℕ) (s : Bool) (is : word_of w ≡ signed_word x s) (entry : 1 < get_or m (slot x s) 0) (some : 1 ≤ x) (other : x ≡ v → ⊥) where
    see_entry_past : (seen : ℕ) → Past v (see_word m (word_of w) seen)
    unfolding see_at
    see_entry_past seen = rw (is, see_signed m x s seen) (go (ltb (get_or m (slot x s) 0) 2) (eqb seen 0) (eqb seen x) refl refl)
      where
        x_past : Past v x
        x_past = (λ e. absurd (omega arith), other)

        go :
            (a b c : Bool) → ltb (get_or m (slot x s) 0) 2 ≡ a → eqb seen x ≡ c
            → Past v (select a seen (select b x (select c seen several)))
        go true b c p r = let k = ltb-true (get_or m (slot x s) 0) 2 p in absurd (omega arith)
        go false true c p r = x_past
        go false false true p r = subst (λ (n : ℕ). Past v n) (sym (eqb-true seen x r)) x_past
        go false false false p r = several_past

    -- A clause with an entry of another variable.
    pub entry_past : (C : List ℤ) (seen : ℕ) → Memᴰ w C → Past v (clause_entry m seen C)
    unfolding clause_entry
    entry_past [] seen i = absurd (Memᴰ.not-nil i)
    entry_past (y ∷ C) seen i = go (Memᴰ.cases_cons i) (λ k. entry_past C (see_word m (word_of y) seen) k)
      where
        go : (w ≡ y) ⊎ Memᴰ w C → (Memᴰ w C → Past v (clause_entry m (see_word m (word_of y) seen) C)) → Past v (clause_entry m (see_word m (word_of y) seen) C)
        go (inl e) later = clause_entry_past C (see_word m (word_of y) seen) (subst (λ (z : ℤ). Past v (see_word m (word_of z) seen)) e (see_entry_past seen))
        go (inr k) later = later k
