-- Laws of the first empty clause: the search finds it and nothing else. Definitions:
-- FirstEmpty of Refutation.antt, first_empty of inference/specs/Empty.antt. Assumes nothing.
use Rattle.std.specs.Prelude.{ℕ, zero, suc, ◌+◌, ◌<◌, ◌≡◌, refl}
use Rattle.std.proofs.Common.{ap, ◌∙◌, arith}
use Rattle.std.proofs.Math.Option.{Option, some}
use mathlib.Core.List.Memᴰ
use mathlib.Core.List.{List, [], ◌∷◌, Memᴰ}
use Rattle.std.proofs.Math.ListN.{get_elem?}
use Rattle.inference.specs.Words.{Words}
use Rattle.inference.specs.Lawful.Laws.{found_member}
use Rattle.checker.specs.Refutation.{FirstEmpty}
use Rattle.inference.specs.Empty.{first_empty}
use Rattle.inference.specs.Empty.Laws.{later_empty}

-- The search for the first empty clause, `n` being the number of the first one here.
found_from :
    (n m : ℕ) (known : List Words) → first_empty n known ≡ some m
    → (place : ℕ) × (m ≡ n + place) × (get_elem? known place ≡ some []) × ((k : ℕ) → k < place → get_elem? known k ≡ some [] → ⊥)
unfolding first_empty
found_from n m [] h = let z : ◌≡◌ {A = ℕ} 0 1 = cc in absurd (omega arith)
found_from n m ([] ∷ known) h = (0, number n m h, refl, λ k f. absurd (omega arith))
  where
    number : (n m : ℕ) → ◌≡◌ {A = Option ℕ} (some n) (some m) → m ≡ n + 0
    number n m e = let q : n ≡ m = cc in omega arith
found_from n m ((x ∷ C) ∷ known) h = go (found_from (suc n) m known h)
  where
    earlier : (p : ℕ) → ((k : ℕ) → k < p → get_elem? known k ≡ some [] → ⊥) → (k : ℕ) → k < suc p → get_elem? ((x ∷ C) ∷ known) k ≡ some [] → ⊥
    earlier p later zero f e = let z : ◌≡◌ {A = ℕ} 0 1 = cc in absurd (omega arith)
    earlier p later (suc k) f e = later k (omega arith) e

    go :
        (place : ℕ) × (m ≡ suc n + place) × (get_elem? known place ≡ some []) × ((k : ℕ) → k < place → get_elem? known k ≡ some [] → ⊥)
        → (place : ℕ) × (m ≡ n + place) × (get_elem? ((x ∷ C) ∷ known) place ≡ some []) × ((k : ℕ) → k < place → get_elem? ((x ∷ C) ∷ known) k ≡ some [] → ⊥)
    go t = (suc t.0, let q = t.1 in omega arith, t.2, earlier t.0 t.3)

finds_from :
    (n place : ℕ) (known : List Words) → get_elem? known place ≡ some []
    → ((k : ℕ) → k < place → get_elem? known k ≡ some [] → ⊥)
    → first_empty n known ≡ some (n + place)
unfolding first_empty
finds_from n place [] e h = let z : ◌≡◌ {A = ℕ} 0 1 = cc in absurd (omega arith)
finds_from n zero ([] ∷ known) e h = ap {B = Option ℕ} some (let q : n ≡ n + 0 = omega arith in q)
finds_from n (suc place) ([] ∷ known) e h = absurd (h 0 (omega arith) refl)
finds_from n zero ((x ∷ C) ∷ known) e h = let z : ◌≡◌ {A = ℕ} 0 1 = cc in absurd (omega arith)
finds_from n (suc place) ((x ∷ C) ∷ known) e h =
    finds_from (suc n) place known e (λ k f. h (suc k) (omega arith))
    ∙ ap {B = Option ℕ} some (let q : suc n + place ≡ n + suc place = omega arith in q)

-- What is found is the first one's number.
pub first_empty_sound : (known : List Words) (n : ℕ) → first_empty 1 known ≡ some n → (place : ℕ) × (n ≡ suc place) × FirstEmpty known place
first_empty_sound known n h = let t = found_from 1 n known h in (t.0, let e = t.1 in omega arith, record { empty = t.2; earlier = t.3 })

pub first_empty_complete : (known : List Words) (place : ℕ) → FirstEmpty known place → first_empty 1 known ≡ some (suc place)
first_empty_complete known place f =
    finds_from 1 place known f.empty f.earlier ∙ ap {B = Option ℕ} some (let q : 1 + place ≡ suc place = omega arith in q)

-- Where some clause is empty, one is the first.
empty_found : (n : ℕ) (known : List Words) → Memᴰ [] known → (m : ℕ) × (first_empty n known ≡ some m)
unfolding first_empty
empty_found n [] m = absurd (Memᴰ.not-nil m)
empty_found n ([] ∷ known) m = (n, refl)
empty_found n ((x ∷ C) ∷ known) m = empty_found (suc n) known (later_empty x C known m)

pub empty_first : (known : List Words) → Memᴰ [] known → (place : ℕ) × FirstEmpty known place
empty_first known m = let t = empty_found 1 known m in let f = first_empty_sound known t.0 t.1 in (f.0, f.2)

-- The first empty clause is one of them.
pub first_empty_member : (known : List Words) (place : ℕ) → FirstEmpty known place → Memᴰ [] known
first_empty_member known place f = found_member known place [] f.empty
