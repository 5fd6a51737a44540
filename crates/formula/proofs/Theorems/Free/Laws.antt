-- Laws of free variables: which numbers pass a test, in which order they stand, and what the completion of a prefix is. Assumes nothing.
use Rattle.std.specs.Prelude.{ℕ, zero, suc, ◌≤◌, ◌<◌, ◌≡◌, refl, Bool, true, false, not, ◌&&◌, ◌||◌, cond, ◌⊎◌, eqb, ℤ, nat_abs, length}
use Rattle.std.proofs.Common.{ap, sym, ◌∙◌, inl, inr, arith, eqb-true, eq-eqb, ne_eqb, length-append}
use Rattle.std.proofs.Math.Bool.{and-false, and-true, or-false, or_assoc, not-or_self}
use Rattle.std.proofs.lemmas.Bool.{false≢true, not-true}
use mathlib.Core.List.Memᴰ
use mathlib.Core.List.{List, [], ◌∷◌, ◌++◌, Memᴰ}
use Rattle.std.proofs.Math.Decide.{ℕ_discrete}
use Rattle.qbf.specs.Connectives.{and_both, or_either, or_right}
use Rattle.qbf.specs.Formula.{Prefix, listed}
use Rattle.formula.specs.Tables.{is_in}
use Rattle.formula.specs.Free.{occurs, is_free, passing, free, existentials, completed, Rising, Completes}

-- Membership in what is put together.
pub in_append : (n : ℕ) (xs ys : List ℕ) → is_in n (xs ++ ys) ≡ (is_in n xs || is_in n ys)
unfolding is_in
in_append n [] ys = refl
in_append n (x ∷ xs) ys = rw (in_append n xs ys) (sym (or_assoc (eqb n x) (is_in n xs) (is_in n ys)))

-- A variable occurs exactly where a word of it stands.
pub occurs_found : (n : ℕ) (ws : List ℤ) → occurs n ws ≡ true → (x : ℤ) × Memᴰ x ws × (nat_abs x ≡ n)
unfolding occurs
occurs_found n [] h = absurd (false≢true h)
occurs_found n (w ∷ ws) h = go (or_either (eqb n (nat_abs w)) (occurs n ws) h) (occurs_found n ws)
  where
    go :
        (eqb n (nat_abs w) ≡ true) ⊎ (occurs n ws ≡ true)
        → (occurs n ws ≡ true → (x : ℤ) × Memᴰ x ws × (nat_abs x ≡ n)) → (x : ℤ) × Memᴰ x (w ∷ ws) × (nat_abs x ≡ n)
    go (inl e) later = (w, Memᴰ.head refl, sym (eqb-true n (nat_abs w) e))
    go (inr k) later = let t = later k in (t.0, Memᴰ.tail t.1, t.2)

pub occurs_member : (ws : List ℤ) (x : ℤ) → Memᴰ x ws → occurs (nat_abs x) ws ≡ true
unfolding occurs
occurs_member [] x m = absurd (Memᴰ.not-nil m)
occurs_member (w ∷ ws) x m = go (Memᴰ.cases_cons m) (occurs_member ws x)
  where
    go : (x ≡ w) ⊎ Memᴰ x ws → (Memᴰ x ws → occurs (nat_abs x) ws ≡ true) → (eqb (nat_abs x) (nat_abs w) || occurs (nat_abs x) ws) ≡ true
    go (inl e) later = rw (eq-eqb (nat_abs x) (nat_abs w) (ap nat_abs e))
    go (inr k) later = or_right (eqb (nat_abs x) (nat_abs w)) (occurs (nat_abs x) ws) (later k)

pub occurs_append : (n : ℕ) (ws vs : List ℤ) → occurs n (ws ++ vs) ≡ (occurs n ws || occurs n vs)
unfolding occurs
occurs_append n [] vs = refl
occurs_append n (w ∷ ws) vs = rw (occurs_append n ws vs) (sym (or_assoc (eqb n (nat_abs w)) (occurs n ws) (occurs n vs)))

-- One number that passes or does not.
in_one : (b : Bool) (n m : ℕ) → is_in n (cond b (m ∷ []) []) ≡ (b && eqb n m)
unfolding is_in
in_one true n m = or-false (eqb n m)
in_one false n m = refl

-- No number above n stands among those up to n; one of them does where it passes.
passing_above : (test : ℕ → Bool) (n m : ℕ) → n < m → is_in m (passing test n) ≡ false
unfolding passing is_in
passing_above test zero m h = refl
passing_above test (suc n) m h =
    rw (in_append m (passing test n) (cond (test (suc n)) (suc n ∷ []) []), passing_above test n m (omega arith), in_one (test (suc n)) m (suc n), ne_eqb m (suc n) (omega arith), and-false)

pub passing_at : (test : ℕ → Bool) (n m : ℕ) → 1 ≤ m → m ≤ n → is_in m (passing test n) ≡ test m
unfolding passing
passing_at test zero m l h = absurd (omega arith)
passing_at test (suc n) m l h =
    rw (in_append m (passing test n) (cond (test (suc n)) (suc n ∷ []) []), in_one (test (suc n)) m (suc n)) (go (ℕ_discrete m (suc n)) (passing_at test n m l))
  where
    go : Dec (m ≡ suc n) → (m ≤ n → is_in m (passing test n) ≡ test m) → (is_in m (passing test n) || (test (suc n) && eqb m (suc n))) ≡ test m
    go (yes e) before = rw (passing_above test n m (omega (arith, e)), eq-eqb m (suc n) e, and-true, e)
    go (no e) before = rw (ne_eqb m (suc n) e, and-false, or-false) (before (omega (arith, e, h)))

rising_snoc : (k n : ℕ) (xs : List ℕ) → Rising k n xs → Rising k (suc n) (xs ++ (suc n ∷ []))
rising_snoc k n [] h = (omega arith, omega arith)
rising_snoc k n (x ∷ xs) h = (h.0, rising_snoc x n xs h.1)

rising_more : (k n : ℕ) (xs : List ℕ) → Rising k n xs → Rising k (suc n) (xs ++ [])
rising_more k n [] h = omega arith
rising_more k n (x ∷ xs) h = (h.0, rising_more x n xs h.1)

pub passing_rising : (test : ℕ → Bool) (n : ℕ) → Rising 0 n (passing test n)
unfolding passing
passing_rising test zero = omega arith
passing_rising test (suc n) = go (test (suc n)) (passing_rising test n)
  where
    go : (b : Bool) → Rising 0 n (passing test n) → Rising 0 (suc n) (passing test n ++ cond b (suc n ∷ []) [])
    go true h = rising_snoc 0 n (passing test n) h
    go false h = rising_more 0 n (passing test n) h

-- The same tests, up to n; no number that passes.
pub passing_same : (test other : ℕ → Bool) (n : ℕ) → ((m : ℕ) → 1 ≤ m → m ≤ n → test m ≡ other m) → passing test n ≡ passing other n
unfolding passing
passing_same test other zero h = refl
passing_same test other (suc n) h =
    rw (passing_same test other n (λ m l k. h m l (omega arith)), h (suc n) (omega arith) (omega arith))

pub passing_none : (test : ℕ → Bool) (n : ℕ) → ((m : ℕ) → 1 ≤ m → m ≤ n → test m ≡ false) → passing test n ≡ []
unfolding passing
passing_none test zero h = refl
passing_none test (suc n) h = rw (passing_none test n (λ m l k. h m l (omega arith)), h (suc n) (omega arith) (omega arith))

-- More numbers are no fewer that pass.
pub passing_grows : (test : ℕ → Bool) (m n : ℕ) → m ≤ n → length (passing test m) ≤ length (passing test n)
unfolding passing
passing_grows test zero zero h = omega arith
passing_grows test (suc m) zero h = absurd (omega arith)
passing_grows test m (suc n) h = go (ℕ_discrete m (suc n)) (passing_grows test m n)
  where
    go : Dec (m ≡ suc n) → (m ≤ n → length (passing test m) ≤ length (passing test n)) → length (passing test m) ≤ length (passing test (suc n))
    go (yes e) before = rw e (omega arith)
    go (no e) before = rw length-append (omega (arith, before (omega (arith, e, h))))

-- What prefixes list.
pub listed_append : (P Q : Prefix) → listed (P ++ Q) ≡ listed P ++ listed Q
listed_append [] Q = refl
listed_append (x ∷ P) Q = ap {B = List ℕ} (λ r. x.variable ∷ r) (listed_append P Q)

pub listed_existentials : (ns : List ℕ) → listed (existentials ns) ≡ ns
listed_existentials [] = refl
listed_existentials (n ∷ ns) = ap {B = List ℕ} (λ r. n ∷ r) (listed_existentials ns)

-- A number of a rising list is in its range.
rising_bound : (k n : ℕ) (xs : List ℕ) → Rising k n xs → k ≤ n
rising_bound k n [] h = h
rising_bound k n (x ∷ xs) h = omega (arith, h.0, rising_bound x n xs h.1)

pub rising_range : (k n m : ℕ) (xs : List ℕ) → Rising k n xs → is_in m xs ≡ true → (k < m) × (m ≤ n)
unfolding is_in
rising_range k n m [] r e = let z : ◌≡◌ {A = ℕ} 0 1 = cc in absurd (omega arith)
rising_range k n m (x ∷ xs) r e = go (ℕ_discrete m x) (rising_range x n m xs r.1)
  where
    go : Dec (m ≡ x) → (is_in m xs ≡ true → (x < m) × (m ≤ n)) → (k < m) × (m ≤ n)
    go (yes q) later = (omega (arith, q, r.0), omega (arith, q, rising_bound x n xs r.1))
    go (no q) later = let h = later (rw (ne_eqb m x q) at e) in (omega (arith, r.0, h.0), h.1)

-- What the completion is.
abbrev pub completion : (v : ℕ) (P : Prefix) (words : List ℤ) → Completes v P words
completion v P words =
    record {
      added = free v P words;
      only = λ n e.
          let range = rising_range 0 v n (free v P words) (passing_rising (is_free P words) v) e in
          let both = and_both (occurs n words) (not (is_in n (listed P))) (sym (passing_at (is_free P words) v n (omega (arith, range.0)) range.1) ∙ e) in
          (omega (arith, range.0), range.1, both.0, not-true (is_in n (listed P)) both.1);
      all = λ n l h o f. passing_at (is_free P words) v n l h ∙ rw (o, f);
      rising = passing_rising (is_free P words) v;
      ahead = refl;
    }

-- A variable that occurs is in the completed prefix.
pub completed_lists : (v : ℕ) (P : Prefix) (words : List ℤ) (n : ℕ) → 1 ≤ n → n ≤ v → occurs n words ≡ true → is_in n (listed (completed v P words)) ≡ true
completed_lists v P words n l h o =
    rw (listed_append (existentials (free v P words)) P, listed_existentials (free v P words), in_append n (free v P words) (listed P), passing_at (is_free P words) v n l h, o)
    (not-or_self (is_in n (listed P)))

-- Where every variable that occurs is listed, nothing is added.
pub completed_listed : (v : ℕ) (P : Prefix) (words : List ℤ) → ((n : ℕ) → 1 ≤ n → occurs n words ≡ true → is_in n (listed P) ≡ true) → completed v P words ≡ P
completed_listed v P words h = rw (passing_none (is_free P words) v (λ n l k. go n l (occurs n words) refl))
  where
    go : (n : ℕ) → 1 ≤ n → (b : Bool) → occurs n words ≡ b → (b && not (is_in n (listed P))) ≡ false
    go n l true e = rw (h n l e)
    go n l false e = refl
