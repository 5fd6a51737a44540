-- Laws of empty clauses: one more at the end, or at the front of what is left; the first one's number and back; whether some clause is empty; and
-- where none but the last may be empty, the first empty one is the last. Assumes nothing.
use Rattle.std.specs.Prelude.{Option as Optional, Some, None, is_some}
use Rattle.formula.specs.declared.literal.ClauseNumber.{ClauseNumber}
use Rattle.std.specs.Prelude.{ℕ, suc, ◌+◌, ◌<◌, ◌≤◌, ◌≡◌, refl, Bool, true, false, ◌&&◌, ◌⊎◌, length, ℤ}
use Rattle.std.proofs.Common.{ap, sym, ◌∙◌, inl, inr, arith}
use Rattle.std.proofs.lemmas.Bool.{false≢true}
use Rattle.std.proofs.Math.Option.{Option, none, some}
use mathlib.Core.List.Memᴰ
use mathlib.Core.List.{List, [], ◌∷◌, ◌++◌, Memᴰ}
use Rattle.inference.specs.Words.{Words}
use Rattle.inference.specs.Empty.{is_empty, some_empty, first_empty, number_if, last_empty, empty_number, number_found, empty_after}

-- One more clause at the end.
first_after : (n : ℕ) (known : List Words) (C : Words) → empty_number (first_empty n (known ++ (C ∷ []))) ≡ empty_after (empty_number (first_empty n known)) (is_empty C) (record { 0 = n + length known })
unfolding first_empty
first_after n [] [] = ap (λ (k : ℕ). empty_number (some k)) (let e : n ≡ n + 0 = omega arith in e)
first_after n [] (x ∷ C) = refl
first_after n ([] ∷ known) C = refl
first_after n ((x ∷ D) ∷ known) C =
    first_after (suc n) known C
    ∙ ap (λ (k : ℕ). empty_after (empty_number (first_empty (suc n) known)) (is_empty C) (record { 0 = k })) (let e : suc n + length known ≡ n + suc (length known) = omega arith in e)

pub empty_after_lem : (known : List Words) (C : Words) (number : ClauseNumber) → number.0 ≡ suc (length known) → empty_number (first_empty 1 (known ++ (C ∷ []))) ≡ empty_after (empty_number (first_empty 1 known)) (is_empty C) number
empty_after_lem known C number e =
    first_after 1 known C
    ∙ ap (λ (k : ℕ). empty_after (empty_number (first_empty 1 known)) (is_empty C) (record { 0 = k })) (let q : 1 + length known ≡ number.0 = omega arith in q)

-- One clause less at the front of what is left, `e` being what was found before.
abbrev pub empty_then : Optional ClauseNumber → Option ℕ → Optional ClauseNumber
empty_then None o = empty_number o
empty_then (Some e) o = Some e

pub empty_turns : (e : Optional ClauseNumber) (n : ClauseNumber) (C : Words) (Cs : List Words) → empty_then (empty_after e (is_empty C) n) (first_empty (suc n.0) Cs) ≡ empty_then e (first_empty n.0 (C ∷ Cs))
unfolding first_empty
empty_turns None n [] Cs = refl
empty_turns None n (x ∷ C) Cs = refl
empty_turns (Some e) n [] Cs = refl
empty_turns (Some e) n (x ∷ C) Cs = refl

pub empty_ends : (e : Optional ClauseNumber) (n : ℕ) → empty_then e (first_empty n []) ≡ e
unfolding first_empty
empty_ends None n = refl
empty_ends (Some e) n = refl

-- The number and back.
found_back : (o : Option ℕ) → number_found (empty_number o) ≡ o
found_back none = refl
found_back (some n) = refl

pub number_found_lem : (known : List Words) → number_found (empty_number (first_empty 1 known)) ≡ first_empty 1 known
number_found_lem known = found_back (first_empty 1 known)

-- Whether some clause is empty.
some_from : (n : ℕ) (known : List Words) → is_some (empty_number (first_empty n known)) ≡ some_empty known
unfolding first_empty some_empty
some_from n [] = refl
some_from n ([] ∷ known) = refl
some_from n ((x ∷ C) ∷ known) = some_from (suc n) known

pub some_number : (known : List Words) → is_some (empty_number (first_empty 1 known)) ≡ some_empty known
some_number known = some_from 1 known

-- A clause after one that is not empty.
pub later_empty : (x : ℤ) (C : Words) (known : List Words) → Memᴰ [] ((x ∷ C) ∷ known) → Memᴰ [] known
later_empty x C known m = go (Memᴰ.cases_cons m)
  where
    go : (◌≡◌ {A = Words} [] (x ∷ C)) ⊎ Memᴰ [] known → Memᴰ [] known
    go (inl e) = let z : ◌≡◌ {A = ℕ} 0 1 = cc in absurd (omega arith)
    go (inr k) = k

pub some_empty_sound : (known : List Words) → some_empty known ≡ true → Memᴰ [] known
unfolding some_empty
some_empty_sound [] h = absurd (false≢true h)
some_empty_sound ([] ∷ known) h = Memᴰ.head refl
some_empty_sound ((x ∷ C) ∷ known) h = Memᴰ.tail (some_empty_sound known h)

pub some_empty_complete : (known : List Words) → Memᴰ [] known → some_empty known ≡ true
unfolding some_empty
some_empty_complete [] m = absurd (Memᴰ.not-nil m)
some_empty_complete ([] ∷ known) m = refl
some_empty_complete ((x ∷ C) ∷ known) m = some_empty_complete known (later_empty x C known m)

pub none_empty : (known : List Words) → (Memᴰ [] known → ⊥) → some_empty known ≡ false
none_empty known n = go (some_empty known) refl
  where
    go : (b : Bool) → some_empty known ≡ b → b ≡ false
    go true e = absurd (n (some_empty_sound known e))
    go false e = refl

-- No step may stand here only where the rules are strict and some clause is empty.
pub may_stand : (strict : Bool) (known : List Words) → (strict ≡ true → Memᴰ [] known → ⊥) → (strict && some_empty known) ≡ false
may_stand true known h = none_empty known (h refl)
may_stand false known h = refl

-- Of clauses put together: none of the first is empty, or one is.
pub some_snoc : (known : List Words) (C : Words) → some_empty known ≡ false → some_empty (known ++ (C ∷ [])) ≡ is_empty C
unfolding some_empty
some_snoc [] [] h = refl
some_snoc [] (x ∷ C) h = refl
some_snoc ([] ∷ known) C h = absurd (false≢true (sym h))
some_snoc ((x ∷ D) ∷ known) C h = some_snoc known C h

first_beyond_from : (n : ℕ) (known rest : List Words) → some_empty known ≡ false → first_empty n (known ++ rest) ≡ first_empty (n + length known) rest
unfolding first_empty some_empty
first_beyond_from n [] rest h = ap (λ (k : ℕ). first_empty k rest) (let e : n ≡ n + 0 = omega arith in e)
first_beyond_from n ([] ∷ known) rest h = absurd (false≢true (sym h))
first_beyond_from n ((x ∷ C) ∷ known) rest h =
    first_beyond_from (suc n) known rest h ∙ ap (λ (k : ℕ). first_empty k rest) (let e : suc n + length known ≡ n + suc (length known) = omega arith in e)

pub first_beyond : (known rest : List Words) → some_empty known ≡ false → first_empty 1 (known ++ rest) ≡ first_empty (suc (length known)) rest
first_beyond known rest h = first_beyond_from 1 known rest h ∙ ap (λ (k : ℕ). first_empty k rest) (let e : 1 + length known ≡ suc (length known) = omega arith in e)

-- The number found is one of those here.
pub first_least : (n k : ℕ) (known : List Words) → first_empty n known ≡ some k → n ≤ k
unfolding first_empty
first_least n k [] h = let z : ◌≡◌ {A = ℕ} 0 1 = cc in absurd (omega arith)
first_least n k ([] ∷ known) h = let e : n ≡ k = cc in omega arith
first_least n k ((x ∷ C) ∷ known) h = let l = first_least (suc n) k known h in omega arith

pub first_within : (n k : ℕ) (known rest : List Words) → some_empty known ≡ true → first_empty n (known ++ rest) ≡ some k → k < n + length known
unfolding first_empty some_empty
first_within n k [] rest s h = absurd (false≢true s)
first_within n k ([] ∷ known) rest s h = let e : n ≡ k = cc in omega arith
first_within n k ((x ∷ C) ∷ known) rest s h = let l = first_within (suc n) k known rest s h in omega arith

-- Where none but the last clause may be empty.
last_more : (n : ℕ) (D : Words) (known : List Words) (C : Words) → last_empty n (D ∷ (known ++ (C ∷ []))) ≡ last_empty (suc n) (known ++ (C ∷ []))
unfolding last_empty
last_more n D [] C = refl
last_more n D (E ∷ known) C = refl

last_alone : (n : ℕ) (C : Words) → last_empty n (C ∷ []) ≡ first_empty n (C ∷ [])
unfolding first_empty last_empty
last_alone n [] = refl
last_alone n (x ∷ C) = refl

last_from : (n : ℕ) (known : List Words) (C : Words) → some_empty known ≡ false → last_empty n (known ++ (C ∷ [])) ≡ first_empty n (known ++ (C ∷ []))
unfolding first_empty some_empty
last_from n [] C h = last_alone n C
last_from n ([] ∷ known) C h = absurd (false≢true (sym h))
last_from n ((x ∷ D) ∷ known) C h = last_more n (x ∷ D) known C ∙ last_from (suc n) known C h

pub last_first : (known : List Words) (C : Words) → some_empty known ≡ false → last_empty 1 (known ++ (C ∷ [])) ≡ first_empty 1 (known ++ (C ∷ []))
last_first known C h = last_from 1 known C h

-- The last clause's number.
last_number_from : (n k : ℕ) (known : List Words) → last_empty n known ≡ some k → suc k ≡ n + length known
unfolding last_empty
last_number_from n k [] h = let z : ◌≡◌ {A = ℕ} 0 1 = cc in absurd (omega arith)
last_number_from n k (C ∷ []) h = go (is_empty C) h
  where
    go : (b : Bool) → number_if b n ≡ some k → suc k ≡ n + 1
    go true e = let q : n ≡ k = cc in omega arith
    go false e = let z : ◌≡◌ {A = ℕ} 0 1 = cc in absurd (omega arith)
last_number_from n k (C ∷ D ∷ known) h = let e = last_number_from (suc n) k (D ∷ known) h in omega arith

pub last_number : (known : List Words) (k : ℕ) → last_empty 1 known ≡ some k → k ≡ length known
last_number known k h = let e = last_number_from 1 k known h in omega arith
