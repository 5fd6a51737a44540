-- The marks that a search starts with keep what a search keeps: the literals of the existentials right of u may be passed,
-- and the search starts from a literal of u. Assumes nothing.
use Rattle.std.specs.Prelude.{ℕ, zero, suc, ◌≤◌, ◌<◌, ◌≡◌, refl, ◌⊎◌, Bool, true, false, length, get_or, set, replicate}
use Rattle.std.proofs.Common.{ap, sym, ◌∙◌, inl, inr, arith, length-set, get_or-set_same, get_or-set_other}
use mathlib.Core.List.Memᴰ
use mathlib.Core.List.{List, [], ◌∷◌, Memᴰ}
use Rattle.std.proofs.Math.Decide.{ℕ_discrete}
use Rattle.std.proofs.lemmas.List.{length-replicate}
use Rattle.qbf.specs.Literal.{Literal, literal, Matrix}
use Rattle.qbf.specs.Formula.{Prefix, Quantifier, existential, universal, entry, existentials}
use Rattle.formula.specs.Word.{slot}
use Rattle.dependency.specs.Search.{open_entry, open_entries}
use Rattle.dependency.specs.Search.Entries.{byte}
use Rattle.dependency.specs.Search.Invariant.{Entered, Kept, stored, Stored, set_byte}
use Rattle.dependency.specs.Search.Closed.{Ranged}

-- The two literals of a variable are opened.
abbrev pair : List ℕ → ℕ → List ℕ
pair m v = set (set m (slot v true) 1) (slot v false) 1

module _ (m : List ℕ) (size : length m ≡ 2050) (v : ℕ) (small : v ≤ 1024) where
  pair_open : (l : Literal) → l.variable ≡ v → byte (pair m v) l ≡ 1
  pair_open l e = go l.sign refl
    where
      go : (s : Bool) → l.sign ≡ s → byte (pair m v) l ≡ 1
      go true q = rw (e, q) (get_or-set_other (set m (slot v true) 1) (slot v false) (slot v true) 1 0 (omega arith) ∙ get_or-set_same m (slot v true) 1 0 (omega arith))
      go false q = rw (e, q) (get_or-set_same (set m (slot v true) 1) (slot v false) 1 0 (simp length-set (omega arith)))

  pair_byte : (l : Literal) → ((l.variable ≡ v) × (byte (pair m v) l ≡ 1)) ⊎ (byte (pair m v) l ≡ byte m l)
  pair_byte l = go (ℕ_discrete l.variable v)
    where
      apart : (l.variable ≡ v → ⊥) → (s t : Bool) → slot l.variable s ≡ slot v t → ⊥
      apart n true true e = n (omega arith)
      apart n true false e = omega arith
      apart n false true e = omega arith
      apart n false false e = n (omega arith)

      go : Dec (l.variable ≡ v) → ((l.variable ≡ v) × (byte (pair m v) l ≡ 1)) ⊎ (byte (pair m v) l ≡ byte m l)
      go (yes e) = inl (e, pair_open l e)
      go (no n) =
          inr
          (get_or-set_other (set m (slot v true) 1) (slot v false) (slot l.variable l.sign) 1 0 (apart n l.sign false)
          ∙ get_or-set_other m (slot v true) (slot l.variable l.sign) 1 0 (apart n l.sign true))

-- The existentials of the entries are in range.
abbrev pub InRange : Prefix → Type 0
InRange P = (v : ℕ) → Memᴰ v (existentials P) → Ranged v

open_size : (P : Prefix) (m : List ℕ) → length (open_entries P m) ≡ length m
unfolding open_entries open_entry
open_size [] m = refl
open_size (x ∷ P) m = open_size P (open_entry x.quantifier x.variable m) ∙ go x.quantifier
  where
    go : (q : Quantifier) → length (open_entry q x.variable m) ≡ length m
    go existential = simp length-set
    go universal = refl

-- Each mark: opened, or as it was.
abbrev Opened : Prefix → List ℕ → Literal → Type 0
Opened P m l = (Memᴰ l.variable (existentials P) × (byte (open_entries P m) l ≡ 1)) ⊎ (byte (open_entries P m) l ≡ byte m l)

open_byte : (P : Prefix) → InRange P → (m : List ℕ) → length m ≡ 2050 → (l : Literal) → Opened P m l
unfolding open_entries open_entry existentials
open_byte [] r m size l = inr refl
open_byte (x ∷ P) r m size l = go x.variable x.quantifier r (λ r' m' s. open_byte P r' m' s l)
  where
    join :
        (v : ℕ) → Opened P (pair m v) l → ((l.variable ≡ v) × (byte (pair m v) l ≡ 1)) ⊎ (byte (pair m v) l ≡ byte m l)
        → (Memᴰ l.variable (v ∷ existentials P) × (byte (open_entries P (pair m v)) l ≡ 1)) ⊎ (byte (open_entries P (pair m v)) l ≡ byte m l)
    join v (inl k) q = inl (Memᴰ.tail k.0, k.1)
    join v (inr e) (inl q) = inl (Memᴰ.head q.0, e ∙ q.1)
    join v (inr e) (inr q) = inr (e ∙ q)

    go : (v : ℕ) (q : Quantifier) → InRange (entry v q ∷ P) → (InRange P → (m' : List ℕ) → length m' ≡ 2050 → Opened P m' l) → Opened (entry v q ∷ P) m l
    go v existential r later =
        join v (later (λ w i. r w (Memᴰ.tail i)) (pair m v) (simp length-set size)) (pair_byte m size v (r v (Memᴰ.head refl)).1 l)
    go v universal r later = later r m size

-- The literals of the existentials are opened.
open_existentials :
    (P : Prefix) → InRange P → (m : List ℕ) → length m ≡ 2050 → (l : Literal) → Memᴰ l.variable (existentials P) → byte (open_entries P m) l ≡ 1
unfolding open_entries open_entry existentials
open_existentials [] r m size l i = absurd (Memᴰ.not-nil i)
open_existentials (x ∷ P) r m size l i =
    go x.variable x.quantifier r i (λ r' m' s. open_byte P r' m' s l) (λ r' m' s k. open_existentials P r' m' s l k)
  where
    join :
        (v : ℕ) → v ≤ 1024 → (l.variable ≡ v) ⊎ Memᴰ l.variable (existentials P) → Opened P (pair m v) l
        → (Memᴰ l.variable (existentials P) → byte (open_entries P (pair m v)) l ≡ 1)
        → byte (open_entries P (pair m v)) l ≡ 1
    join v small (inl e) (inl k) rest = k.1
    join v small (inl e) (inr q) rest = q ∙ pair_open m size v small l e
    join v small (inr k) q rest = rest k

    go :
        (v : ℕ) (q : Quantifier) → InRange (entry v q ∷ P) → Memᴰ l.variable (existentials (entry v q ∷ P))
        → (InRange P → (m' : List ℕ) → length m' ≡ 2050 → Opened P m' l)
        → (InRange P → (m' : List ℕ) → length m' ≡ 2050 → Memᴰ l.variable (existentials P) → byte (open_entries P m') l ≡ 1)
        → byte (open_entries (entry v q ∷ P) m) l ≡ 1
    go v existential r i bytes later =
        let r' : InRange P = λ w k. r w (Memᴰ.tail k) in
        let s : length (pair m v) ≡ 2050 = simp length-set size in
        join v (r v (Memᴰ.head refl)).1 (Memᴰ.cases_cons i) (bytes r' (pair m v) s) (λ k. later r' (pair m v) s k)
    go v universal r i bytes later = later r m size i

zero_byte : (n i : ℕ) → ◌≡◌ {A = ℕ} (get_or (replicate n 0) i 0) 0
zero_byte zero i = refl
zero_byte (suc n) zero = refl
zero_byte (suc n) (suc i) = zero_byte n i

-- The marks of the start.
module _ (M : Matrix) (P : Prefix) (ranged : InRange P) (u : ℕ) (s : Bool) (range : Ranged u) (apart : Memᴰ u (existentials P) → ⊥) where
  abbrev opened : List ℕ
  opened = open_entries P (replicate 2050 0)

  opened_size : length opened ≡ 2050
  opened_size = open_size P (replicate 2050 0) ∙ length-replicate {A = ℕ} 2050 0

  opened_byte : (l : Literal) → (Memᴰ l.variable (existentials P) × (byte opened l ≡ 1)) ⊎ (byte opened l ≡ 0)
  opened_byte l = go (open_byte P ranged (replicate 2050 0) (length-replicate {A = ℕ} 2050 0) l)
    where
      go :
          (Memᴰ l.variable (existentials P) × (byte opened l ≡ 1)) ⊎ (byte opened l ≡ byte (replicate 2050 0) l)
          → (Memᴰ l.variable (existentials P) × (byte opened l ≡ 1)) ⊎ (byte opened l ≡ 0)
      go (inl k) = inl k
      go (inr e) = inr (e ∙ zero_byte 2050 (slot l.variable l.sign))

  slot_small : (t : Bool) → slot u t < length opened
  slot_small true = let e = opened_size in let r = range.1 in omega arith
  slot_small false = let e = opened_size in let r = range.1 in omega arith

  -- the literals of u itself may not be passed
  pub source_closed : (t : Bool) → get_or opened (slot u t) 0 ≡ 0
  source_closed t = go (opened_byte (literal u t))
    where
      go : (Memᴰ u (existentials P) × (byte opened (literal u t) ≡ 1)) ⊎ (byte opened (literal u t) ≡ 0) → get_or opened (slot u t) 0 ≡ 0
      go (inl k) = absurd (apart k.0)
      go (inr e) = e

  pub start_kept : Kept M (existentials P) (literal u s) (set opened (slot u s) 3)
  start_kept =
      record {
        size = simp length-set opened_size;
        source = get_or-set_same opened (slot u s) 3 0 (slot_small s);
        unreached = λ l e. unreached' l e (cases l) (opened_byte l);
        reached = λ l e. absurd (reached' l e (cases l) (opened_byte l));
        entry = λ l h. entry' l h (cases l) (opened_byte l);
        cover = λ l i. inl (cover' l i (cases l));
      }
    where
      cases : (l : Literal) → Stored opened (literal u s) 3 l
      cases l = set_byte opened (literal u s) 3 (slot_small s) l

      unreached' :
          (l : Literal) → byte (stored opened (literal u s) 3) l ≡ 1 → Stored opened (literal u s) 3 l
          → (Memᴰ l.variable (existentials P) × (byte opened l ≡ 1)) ⊎ (byte opened l ≡ 0)
          → Memᴰ l.variable (existentials P)
      unreached' l e (inl c) o = absurd (omega arith)
      unreached' l e (inr c) (inl k) = k.0
      unreached' l e (inr c) (inr k) = absurd (omega arith)

      reached' :
          (l : Literal) → byte (stored opened (literal u s) 3) l ≡ 2 → Stored opened (literal u s) 3 l
          → (Memᴰ l.variable (existentials P) × (byte opened l ≡ 1)) ⊎ (byte opened l ≡ 0)
          → ⊥
      reached' l e (inl c) o = omega arith
      reached' l e (inr c) (inl k) = omega arith
      reached' l e (inr c) (inr k) = omega arith

      entry' :
          (l : Literal) → 1 < byte (stored opened (literal u s) 3) l → Stored opened (literal u s) 3 l
          → (Memᴰ l.variable (existentials P) × (byte opened l ≡ 1)) ⊎ (byte opened l ≡ 0)
          → (l ≡ literal u s) ⊎ Entered M (existentials P) (literal u s) l
      entry' l h (inl c) o = inl c.0
      entry' l h (inr c) (inl k) = absurd (omega arith)
      entry' l h (inr c) (inr k) = absurd (omega arith)

      cover' : (l : Literal) → Memᴰ l.variable (existentials P) → Stored opened (literal u s) 3 l → byte (stored opened (literal u s) 3) l ≡ 1
      cover' l i (inl c) = absurd (apart (Memᴰ.cast (sym (ap (λ (k : Literal). k.variable) c.0)) i))
      cover' l i (inr c) = c ∙ open_existentials P ranged (replicate 2050 0) (length-replicate {A = ℕ} 2050 0) l i
