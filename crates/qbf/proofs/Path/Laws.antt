-- The tests of Path.antt say what they test, each both ways: holds, together, joined, and reach, which is true exactly
-- when a path exists. The last is Warshall's argument: recursion on the literals that may be passed, a path that passes m
-- being split at m. Last, what a search needs: a set that holds the first literals and is closed holds all that is reached.
use Rattle.std.specs.Prelude.{ℕ, ◌≡◌, refl, ◌⊎◌, Bool, false, not, ◌&&◌, eqb}
use Rattle.std.proofs.Common.{ap, subst, inl, inr, ne_eqb}
use Rattle.std.proofs.Math.Bool.{true}
use Rattle.std.proofs.lemmas.Bool.{false≢true, eqb-false, not-true}
use mathlib.Core.List.Memᴰ
use mathlib.Core.List.{List, [], ◌∷◌, Memᴰ}
use Rattle.qbf.specs.Literal.{Literal, literal, neg, Clause, Matrix, same}
use Rattle.qbf.specs.Connectives.{and_both, both_and, or_either, or_left, or_right}
use Rattle.qbf.specs.Path.{Joined, Path, one, more, holds, together, joined, literals, reach}

pub holds_sound : (l : Literal) (C : Clause) → holds l C ≡ true → Memᴰ l C
unfolding holds
holds_sound l [] h = absurd (false≢true h)
holds_sound l (x ∷ xs) h = go (same l x) refl (λ k. holds_sound l xs k)
  where
    go : (d : Dec (l ≡ x)) → same l x ≡ d → (holds l xs ≡ true → Memᴰ l xs) → Memᴰ l (x ∷ xs)
    go (yes e) q later = Memᴰ.head e
    go (no n) q later = Memᴰ.tail (later (rw q at h))

pub holds_complete : (l : Literal) (C : Clause) → Memᴰ l C → holds l C ≡ true
unfolding holds
holds_complete l [] h = absurd (Memᴰ.not-nil h)
holds_complete l (x ∷ xs) h = go (same l x) refl (λ k. holds_complete l xs k) (Memᴰ.cases_cons h)
  where
    go : (d : Dec (l ≡ x)) → same l x ≡ d → (Memᴰ l xs → holds l xs ≡ true) → (l ≡ x) ⊎ Memᴰ l xs → holds l (x ∷ xs) ≡ true
    go (yes e) q later m = rw q
    go (no n) q later (inl e) = absurd (n e)
    go (no n) q later (inr m) = rw q (later m)

pub together_sound : (M : Matrix) (a b : Literal) → together M a b ≡ true → (C : Clause) × Memᴰ C M × Memᴰ a C × Memᴰ b C
unfolding together
together_sound [] a b h = absurd (false≢true h)
together_sound (C ∷ M) a b h = go (or_either (holds a C && holds b C) (together M a b) h) (λ k. together_sound M a b k)
  where
    go :
        ((holds a C && holds b C) ≡ true) ⊎ (together M a b ≡ true)
        → (together M a b ≡ true → (D : Clause) × Memᴰ D M × Memᴰ a D × Memᴰ b D)
        → (D : Clause) × Memᴰ D (C ∷ M) × Memᴰ a D × Memᴰ b D
    go (inl k) later =
        let both = and_both (holds a C) (holds b C) k in
        (C, Memᴰ.head refl, holds_sound a C both.0, holds_sound b C both.1)
    go (inr k) later =
        let found = later k in
        (found.0, Memᴰ.tail found.1, found.2, found.3)

pub together_complete : (M : Matrix) (a b : Literal) (C : Clause) → Memᴰ C M → Memᴰ a C → Memᴰ b C → together M a b ≡ true
unfolding together
together_complete [] a b C i l r = absurd (Memᴰ.not-nil i)
together_complete (D ∷ M) a b C i l r = go (Memᴰ.cases_cons i) (λ k. together_complete M a b C k l r)
  where
    go : (C ≡ D) ⊎ Memᴰ C M → (Memᴰ C M → together M a b ≡ true) → together (D ∷ M) a b ≡ true
    go (inl e) later =
        or_left (holds a D && holds b D) (together M a b) (both_and (holds a D) (holds b D) (rw e at (holds_complete a C l)) (rw e at (holds_complete b C r)))
    go (inr k) later = or_right (holds a D && holds b D) (together M a b) (later k)

pub joined_sound : (M : Matrix) (a b : Literal) → joined M a b ≡ true → Joined M a b
unfolding joined
joined_sound M a b h =
    let tests = and_both (not (eqb a.variable b.variable)) (together M a b) h in
    let found = together_sound M a b tests.1 in
    record {
      clause = found.0;
      input = found.1;
      left = found.2;
      right = found.3;
      differ = eqb-false a.variable b.variable (not-true (eqb a.variable b.variable) tests.0);
    }

pub joined_complete : (M : Matrix) (a b : Literal) → Joined M a b → joined M a b ≡ true
unfolding joined
joined_complete M a b j = rw (ne_eqb a.variable b.variable j.differ) (together_complete M a b j.clause j.input j.left j.right)

-- The literals of a list of variables are those whose variable is in the list.
pub literals_variable : (X : List ℕ) (l : Literal) → Memᴰ l (literals X) → Memᴰ l.variable X
unfolding literals
literals_variable [] l h = absurd (Memᴰ.not-nil h)
literals_variable (x ∷ xs) l h = go (Memᴰ.cases_cons h) (λ k. literals_variable xs l k)
  where
    rest : (l ≡ literal x false) ⊎ Memᴰ l (literals xs) → (Memᴰ l (literals xs) → Memᴰ l.variable xs) → Memᴰ l.variable (x ∷ xs)
    rest (inl e) later = Memᴰ.head (ap (λ (k : Literal). k.variable) e)
    rest (inr k) later = Memᴰ.tail (later k)

    go : (l ≡ literal x true) ⊎ Memᴰ l (literal x false ∷ literals xs) → (Memᴰ l (literals xs) → Memᴰ l.variable xs) → Memᴰ l.variable (x ∷ xs)
    go (inl e) later = Memᴰ.head (ap (λ (k : Literal). k.variable) e)
    go (inr k) later = rest (Memᴰ.cases_cons k) later

pub variable_literals : (X : List ℕ) (l : Literal) → Memᴰ l.variable X → Memᴰ l (literals X)
unfolding literals
variable_literals [] l h = absurd (Memᴰ.not-nil h)
variable_literals (x ∷ xs) l h = go (Memᴰ.cases_cons h) l.sign refl (λ k. variable_literals xs l k)
  where
    go : (l.variable ≡ x) ⊎ Memᴰ l.variable xs → (s : Bool) → l.sign ≡ s → (Memᴰ l.variable xs → Memᴰ l (literals xs)) → Memᴰ l (literals (x ∷ xs))
    go (inl e) true q later = Memᴰ.head (λ i. literal (e i) (q i))
    go (inl e) false q later = Memᴰ.tail (Memᴰ.head (λ i. literal (e i) (q i)))
    go (inr k) s q later = Memᴰ.tail (Memᴰ.tail (later k))

-- A path that passes only literals of a list.
data Via (M : Matrix) (ms : List Literal) (a : Literal) : Literal → Type 0 where
  direct : {b : Literal} → Joined M a b → Via M ms a b
  past : {m b : Literal} → Via M ms a m → Memᴰ m ms → Joined M (neg m) b → Via M ms a b

module _ (M : Matrix) where
  -- More literals may be passed.
  via_cons : {ms : List Literal} (k : Literal) {a b : Literal} → Via M ms a b → Via M (k ∷ ms) a b
  via_cons k (direct j) = direct j
  via_cons k (past p i j) = past (via_cons k p) (Memᴰ.tail i) j

  -- A path to m goes on from its opposite.
  via_append : {ms : List Literal} {a m b : Literal} → Via M ms a m → Memᴰ m ms → Via M ms (neg m) b → Via M ms a b
  via_append p i (direct j) = past p i j
  via_append p i (past q k j) = past (via_append p i q) k j

  -- A path that may pass k passes it or does not: where it does, it is cut at its first and its last k.
  via_split : {ms : List Literal} (k : Literal) {a b : Literal} → Via M (k ∷ ms) a b → Via M ms a b ⊎ (Via M ms a k × Via M ms (neg k) b)
  via_split k (direct j) = inl (direct j)
  via_split {ms} k {a} {b} (past {m = m} p i j) = go (via_split k p) (Memᴰ.cases_cons i)
    where
      go : Via M ms a m ⊎ (Via M ms a k × Via M ms (neg k) m) → (m ≡ k) ⊎ Memᴰ m ms → Via M ms a b ⊎ (Via M ms a k × Via M ms (neg k) b)
      go (inl q) (inl e) = inr (subst (λ (l : Literal). Via M ms a l) e q, direct (subst (λ (l : Literal). Joined M (neg l) b) e j))
      go (inl q) (inr h) = inl (past q h j)
      go (inr t) (inl e) = inr (t.0, direct (subst (λ (l : Literal). Joined M (neg l) b) e j))
      go (inr t) (inr h) = inr (t.0, past t.1 h j)

  reach_via : (ms : List Literal) (a b : Literal) → reach M ms a b ≡ true → Via M ms a b
  unfolding reach
  reach_via [] a b h = direct (joined_sound M a b h)
  reach_via (m ∷ ms) a b h = go (or_either (reach M ms a b) (reach M ms a m && reach M ms (neg m) b) h) (λ c d k. reach_via ms c d k)
    where
      go :
          (reach M ms a b ≡ true) ⊎ ((reach M ms a m && reach M ms (neg m) b) ≡ true)
          → ((c d : Literal) → reach M ms c d ≡ true → Via M ms c d)
          → Via M (m ∷ ms) a b
      go (inl k) below = via_cons m (below a b k)
      go (inr k) below =
          let both = and_both (reach M ms a m) (reach M ms (neg m) b) k in
          via_append (via_cons m (below a m both.0)) (Memᴰ.head refl) (via_cons m (below (neg m) b both.1))

  via_reach : (ms : List Literal) (a b : Literal) → Via M ms a b → reach M ms a b ≡ true
  unfolding reach
  via_reach [] a b (direct j) = joined_complete M a b j
  via_reach [] a b (past p i j) = absurd (Memᴰ.not-nil i)
  via_reach (m ∷ ms) a b p = go (via_split m p) (λ c d q. via_reach ms c d q)
    where
      go : Via M ms a b ⊎ (Via M ms a m × Via M ms (neg m) b) → ((c d : Literal) → Via M ms c d → reach M ms c d ≡ true) → reach M (m ∷ ms) a b ≡ true
      go (inl q) below = or_left (reach M ms a b) (reach M ms a m && reach M ms (neg m) b) (below a b q)
      go (inr t) below =
          or_right
          (reach M ms a b)
          (reach M ms a m && reach M ms (neg m) b)
          (both_and (reach M ms a m) (reach M ms (neg m) b) (below a m t.0) (below (neg m) b t.1))

  via_path : (X : List ℕ) {a b : Literal} → Via M (literals X) a b → Path M X a b
  via_path X (direct j) = one j
  via_path X (past {m = m} p i j) = more (via_path X p) (literals_variable X m i) j

  path_via : (X : List ℕ) {a b : Literal} → Path M X a b → Via M (literals X) a b
  path_via X (one j) = direct j
  path_via X (more {m = m} p i j) = past (path_via X p) (variable_literals X m i) j

  pub reach_sound : (X : List ℕ) (a b : Literal) → reach M (literals X) a b ≡ true → Path M X a b
  reach_sound X a b h = via_path X (reach_via (literals X) a b h)

  pub reach_complete : (X : List ℕ) (a b : Literal) → Path M X a b → reach M (literals X) a b ≡ true
  reach_complete X a b p = via_reach (literals X) a b (path_via X p)

-- What a search from a needs to know of the set it ends with: it holds every literal joined to a, and with a literal of X
-- every literal joined to its opposite. Then it holds every literal that a path from a reaches.
pub closed_holds_paths :
    (M : Matrix) (X : List ℕ) (a : Literal) (S : Literal → Type 0)
    → ((b : Literal) → Joined M a b → S b)
    → ((m : Literal) → S m → Memᴰ m.variable X → (b : Literal) → Joined M (neg m) b → S b)
    → {b : Literal} → Path M X a b → S b
closed_holds_paths M X a S first next (one {b} j) = first b j
closed_holds_paths M X a S first next (more {m} {b} p i j) = next m (closed_holds_paths M X a S first next p) i b j
