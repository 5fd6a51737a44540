-- Laws of the refusing constructors: which way a constructor went, told from its answer.
-- Definitions: Bounds. Assumes nothing.
use Rattle.std.specs.Prelude.{ℕ, ◌≤◌, ◌<◌, ◌≡◌, refl, Bool, true, false, leb, if◌then◌else◌, ℤ, Option, Some, None}
use Rattle.std.proofs.Common.{ap, arith, leb-false, le-leb}
use Rattle.std.proofs.lemmas.Bool.{lt-leb}
use Rattle.formula.specs.Bounds.{in_range, at_most, variable_fit, literal_fit}
use Rattle.formula.specs.declared.bounds.AtMost.{AtMost}
use Rattle.formula.specs.declared.literal.Variable.{Variable}
use Rattle.formula.specs.declared.literal.Literal.{Literal}

-- A number that was found within its bound, and one that was not.
pub within_bound : {max : ℕ} (n : ℕ) (k : AtMost max) → at_most max n ≡ Some k → (leb n max ≡ true) × (n ≡ k.0)
within_bound {max} n k e = go (leb n max) e
  where
    same : (i j : AtMost max) → Some i ≡ Some j → i.0 ≡ j.0
    same i j q = let r : i ≡ j = cc in ap (λ (x : AtMost max). x.0) r

    go : (b : Bool) → ◌≡◌ {A = Option (AtMost max)} (if b then Some (record { 0 = n }) else None) (Some k) → (b ≡ true) × (n ≡ k.0)
    go true q = (refl, same (record { 0 = n }) k q)
    go false q = let z : ◌≡◌ {A = ℕ} 0 1 = cc in absurd (omega arith)

pub above_bound : {max : ℕ} (n : ℕ) → at_most max n ≡ None → leb n max ≡ false
above_bound {max} n e = go (leb n max) e
  where
    go : (b : Bool) → ◌≡◌ {A = Option (AtMost max)} (if b then Some (record { 0 = n }) else None) None → b ≡ false
    go true q = let z : ◌≡◌ {A = ℕ} 0 1 = cc in absurd (omega arith)
    go false q = refl

-- A number within its bound is made, one above it is refused.
pub made_within : {max : ℕ} (n : ℕ) → n ≤ max → Some (record { 0 = n }) ≡ at_most max n
made_within {max} n h = rw (le-leb n max h)

pub refused_above : {max : ℕ} (n : ℕ) → max < n → None ≡ at_most max n
refused_above {max} n h = rw (lt-leb n max h)

-- A number that was made a variable, and one that was not.
pub variable_made : (b : Bool) (n : ℕ) (k : Variable) → variable_fit b n ≡ Some k → (b ≡ true) × (n ≡ k.0)
variable_made true n k e = (refl, same (record { 0 = n }) k e)
  where
    same : (i j : Variable) → Some i ≡ Some j → i.0 ≡ j.0
    same i j q = let r : i ≡ j = cc in ap (λ (x : Variable). x.0) r
variable_made false n k e = let z : ◌≡◌ {A = ℕ} 0 1 = cc in absurd (omega arith)

pub variable_refused : (b : Bool) (n : ℕ) → variable_fit b n ≡ None → b ≡ false
variable_refused true n e = let z : ◌≡◌ {A = ℕ} 0 1 = cc in absurd (omega arith)
variable_refused false n e = refl

pub above_range : (n last : ℕ) → 0 < n → in_range n last ≡ false → last < n
above_range n last h e = leb-false n last (rw (le-leb 1 n h) at e)

-- A word that was made a literal, and one that was not.
pub literal_made : (b : Bool) (w : ℤ) (l : Literal) → literal_fit b w ≡ Some l → (b ≡ true) × (w ≡ l.0)
literal_made true w l e = (refl, same (record { 0 = w }) l e)
  where
    same : (i j : Literal) → Some i ≡ Some j → i.0 ≡ j.0
    same i j q = let r : i ≡ j = cc in ap (λ (x : Literal). x.0) r
literal_made false w l e = let z : ◌≡◌ {A = ℕ} 0 1 = cc in absurd (omega arith)

pub literal_refused : (b : Bool) (w : ℤ) → literal_fit b w ≡ None → b ≡ false
literal_refused true w e = let z : ◌≡◌ {A = ℕ} 0 1 = cc in absurd (omega arith)
literal_refused false w e = refl
