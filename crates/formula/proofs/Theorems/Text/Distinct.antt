-- Different numbers, each from 1 to n: of lists put together and of rising ones; they are at most n many. Then prefixes that list different
-- variables. Definitions: Text/Distinct. Assumes nothing.
use Rattle.std.specs.Prelude.{ℕ, zero, suc, ◌≤◌, ◌≡◌, refl, ◌⊎◌, Bool, true, false, ◌||◌, cond, length, ℤ, eqb}
use Rattle.std.proofs.Common.{ap, sym, ◌∙◌, subst, inl, inr, arith, eqb-true, eq-eqb, ne_eqb}
use Rattle.std.proofs.Math.Bool.{or-true}
use Rattle.std.proofs.lemmas.Bool.{false≢true, eqb-false}
use mathlib.Core.List.Memᴰ
use mathlib.Core.List.{List, [], ◌∷◌, ◌++◌, Memᴰ}
use Rattle.std.proofs.Math.Decide.{ℕ_discrete}
use Rattle.std.proofs.lemmas.List.{length-map}
use Rattle.qbf.specs.Formula.{Quantifier, Entry, entry, Prefix, listed, Distinct}
use Rattle.formula.specs.Bounds.{variable_bound}
use Rattle.formula.specs.Prefix.{AllRanged}
use Rattle.formula.specs.Tables.{is_in}
use Rattle.formula.proofs.Theorems.Tables.Laws.{absent_is_in}
use Rattle.formula.specs.Text.Distinct.{Apart, Ranged, PrefixFine}
use Rattle.formula.specs.Free.{existentials, completed, Rising}
use Rattle.formula.proofs.Theorems.Free.Laws.{in_append, rising_range, listed_append, listed_existentials, completion}

pub or_no : (s t : Bool) → (s || t) ≡ false → (s ≡ false) × (t ≡ false)
or_no true t e = let z : ◌≡◌ {A = ℕ} 0 1 = cc in absurd (omega arith)
or_no false t e = (refl, e)

-- Lists put together; rising lists.
pub apart_append : (xs ys : List ℕ) → Apart xs → Apart ys → ((n : ℕ) → is_in n xs ≡ true → is_in n ys ≡ false) → Apart (xs ++ ys)
unfolding is_in
apart_append [] ys a b h = b
apart_append (x ∷ xs) ys a b h =
    (rw (in_append x xs ys, a.0) (h x (rw (eq-eqb x x refl))), apart_append xs ys a.1 b (λ n e. h n (rw e (or-true (eqb n x)))))

pub ranged_append : (n : ℕ) (xs ys : List ℕ) → Ranged n xs → Ranged n ys → Ranged n (xs ++ ys)
ranged_append n [] ys r s = s
ranged_append n (x ∷ xs) ys r s = (r.0, r.1, ranged_append n xs ys r.2 s)

pub ranged_each : (n : ℕ) (xs : List ℕ) → ((m : ℕ) → is_in m xs ≡ true → (1 ≤ m) × (m ≤ n)) → Ranged n xs
unfolding is_in
ranged_each n [] h = tt
ranged_each n (x ∷ xs) h = let own = h x (rw (eq-eqb x x refl)) in (own.0, own.1, ranged_each n xs (λ m e. h m (rw e (or-true (eqb m x)))))

pub rising_apart : (k n : ℕ) (xs : List ℕ) → Rising k n xs → Apart xs
rising_apart k n [] h = tt
rising_apart k n (x ∷ xs) h = (absent (is_in x xs) refl, rising_apart x n xs h.1)
  where
    absent : (b : Bool) → is_in x xs ≡ b → b ≡ false
    absent true e = absurd (omega (arith, (rising_range x n x xs h.1 e).0))
    absent false e = refl

-- The list without the number m.
unfoldable without : ℕ → List ℕ → List ℕ
without m [] = []
without m (x ∷ xs) = cond (eqb m x) (without m xs) (x ∷ without m xs)

without_absent : (m : ℕ) (xs : List ℕ) → is_in m xs ≡ false → without m xs ≡ xs
unfolding is_in without
without_absent m [] e = refl
without_absent m (x ∷ xs) e =
    let h = or_no (eqb m x) (is_in m xs) e in
    rw h.0 (ap {B = List ℕ} (λ r. x ∷ r) (without_absent m xs h.1))

absent_without : (v m : ℕ) (xs : List ℕ) → is_in v xs ≡ false → is_in v (without m xs) ≡ false
unfolding is_in without
absent_without v m [] e = refl
absent_without v m (x ∷ xs) e = go (eqb m x) (or_no (eqb v x) (is_in v xs) e).0 (absent_without v m xs (or_no (eqb v x) (is_in v xs) e).1)
  where
    go : (b : Bool) → eqb v x ≡ false → is_in v (without m xs) ≡ false → is_in v (cond b (without m xs) (x ∷ without m xs)) ≡ false
    go true f h = h
    go false f h = rw (f) h

apart_without : (m : ℕ) (xs : List ℕ) → Apart xs → Apart (without m xs)
unfolding without
apart_without m [] a = tt
apart_without m (x ∷ xs) a = go (eqb m x) (apart_without m xs a.1)
  where
    go : (b : Bool) → Apart (without m xs) → Apart (cond b (without m xs) (x ∷ without m xs))
    go true h = h
    go false h = (absent_without x m xs a.0, h)

ranged_without : (n : ℕ) (xs : List ℕ) → Ranged (suc n) xs → Ranged n (without (suc n) xs)
unfolding without
ranged_without n [] r = tt
ranged_without n (x ∷ xs) r = go (eqb (suc n) x) refl (ranged_without n xs r.2)
  where
    go : (b : Bool) → eqb (suc n) x ≡ b → Ranged n (without (suc n) xs) → Ranged n (cond b (without (suc n) xs) (x ∷ without (suc n) xs))
    go true f h = h
    go false f h =
        let k : suc n ≡ x → ⊥ = eqb-false (suc n) x f in
        (r.0, below k r.1, h)
      where
        below : (suc n ≡ x → ⊥) → x ≤ suc n → x ≤ n
        below k l = omega arith

length_without : (m : ℕ) (xs : List ℕ) → Apart xs → length xs ≤ suc (length (without m xs))
unfolding without
length_without m [] a = omega arith
length_without m (x ∷ xs) a = go (eqb m x) refl (length_without m xs a.1)
  where
    go : (b : Bool) → eqb m x ≡ b → length xs ≤ suc (length (without m xs)) → suc (length xs) ≤ suc (length (cond b (without m xs) (x ∷ without m xs)))
    go true f h =
        let e : is_in m xs ≡ false = rw (eqb-true m x f) a.0 in
        rw (without_absent m xs e) (omega arith)
    go false f h = omega arith

pub apart_few : (n : ℕ) (xs : List ℕ) → Apart xs → Ranged n xs → length xs ≤ n
apart_few zero [] a r = omega arith
apart_few zero (x ∷ xs) a r = absurd (omega (arith, r.0, r.1))
apart_few (suc n) xs a r =
    let h = apart_few n (without (suc n) xs) (apart_without (suc n) xs a) (ranged_without n xs r) in
    omega (arith, h, length_without (suc n) xs a)

pub prefix_empty : (v : ℕ) → PrefixFine v []
prefix_empty v = record { apart = tt; ranged = tt }

pub prefix_more : (v : ℕ) (P : Prefix) (q : Quantifier) (n : ℕ) → PrefixFine v P → 1 ≤ n → n ≤ v → is_in n (listed P) ≡ false → PrefixFine v (P ++ (entry n q ∷ []))
unfolding is_in
prefix_more v P q n F z l f =
    record {
      apart = subst Apart (sym (listed_append P (entry n q ∷ []))) (apart_append (listed P) (n ∷ []) F.apart (refl, tt) (λ m e. only m e (ℕ_discrete m n)));
      ranged = subst (Ranged v) (sym (listed_append P (entry n q ∷ []))) (ranged_append v (listed P) (n ∷ []) F.ranged (z, l, tt));
    }
  where
    only : (m : ℕ) → is_in m (listed P) ≡ true → Dec (m ≡ n) → (eqb m n || false) ≡ false
    only m e (yes k) = absurd (false≢true (sym f ∙ rw k at e))
    only m e (no k) = rw (ne_eqb m n k)

-- The completed prefix does so too.
pub completed_fine : (b v : ℕ) (P : Prefix) (words : List ℤ) → v ≤ b → PrefixFine b P → PrefixFine b (completed v P words)
completed_fine b v P words h F =
    let C = completion v P words in
    let e : listed (completed v P words) ≡ C.added ++ listed P = listed_append (existentials C.added) P ∙ ap (λ (ns : List ℕ). ns ++ listed P) (listed_existentials C.added) in
    record {
      apart = subst Apart (sym e) (apart_append C.added (listed P) (rising_apart 0 v C.added C.rising) F.apart (λ n m. (C.only n m).3));
      ranged = subst (Ranged b) (sym e) (ranged_append b C.added (listed P) (ranged_each b C.added (λ n m. ((C.only n m).0, omega (arith, (C.only n m).1, h)))) F.ranged);
    }

-- They are entries in range, and no more than the bound; none is listed twice.
pub fine_ranged : (v : ℕ) (P : Prefix) → v ≤ variable_bound → PrefixFine v P → AllRanged P
fine_ranged v P h F = go P F.ranged
  where
    go : (Q : Prefix) → Ranged v (listed Q) → AllRanged Q
    go [] r x m = absurd (Memᴰ.not-nil m)
    go (y ∷ Q) r x m = own (Memᴰ.cases_cons m) (go Q r.2 x)
      where
        own : (x ≡ y) ⊎ Memᴰ x Q → (Memᴰ x Q → (1 ≤ x.variable) × (x.variable ≤ variable_bound)) → (1 ≤ x.variable) × (x.variable ≤ variable_bound)
        own (inl e) later = rw e (r.0, omega (arith, r.1, h))
        own (inr k) later = later k

pub fine_few : (v : ℕ) (P : Prefix) → PrefixFine v P → length P ≤ v
fine_few v P F = omega (arith, apart_few v (listed P) F.apart F.ranged, length-map P (λ (x : Entry). x.variable))

pub apart_distinct : (xs : List ℕ) → Apart xs → Distinct xs
apart_distinct [] a = tt
apart_distinct (x ∷ xs) a = (absent_is_in x xs a.0, apart_distinct xs a.1)
