-- Numbered clauses and derivations (01, "Steps"; wish 3): a clause of words and a valid derivation whose conclusion is its
-- literals. That every numbered clause has one is in Derived/Laws.antt.
pub mod Laws
use Rattle.std.specs.Prelude.{◌≡◌, ◌≢◌, Bool, true, false, ℤ, pos, neg_ℤ}
use mathlib.Core.List.{List, Memᴰ}
use Rattle.qbf.specs.Literal.{Literal}
use Rattle.qbf.specs.Formula.{Formula}
use Rattle.qbf.specs.Derivation.{Derivation, Concludes, Valid}
use Rattle.formula.specs.Decode.{literal_of}
use Rattle.inference.specs.declared.read.Family.{Family}
use Rattle.inference.specs.declared.read.Family.TheVariants.{Ordinary}
use Rattle.inference.specs.Words.{Words}

-- d is a valid derivation whose conclusion is the clause's literals; the clause holds no 0 and, in ordinary proofs, no literal with its opposite.
pub record Derived (F : Formula) (f : Family) (C : Words) (d : Derivation) : Type 0 where
  pub valid : Valid F d
  pub concluded : (x : ℤ) → Memᴰ x C → Concludes d (literal_of x)
  pub conclusion : (l : Literal) → Concludes d l → (x : ℤ) × Memᴰ x C × (literal_of x ≡ l)
  pub nonzero : (x : ℤ) → Memᴰ x C → x ≢ pos 0
  pub one_sign : f ≡ Ordinary → (x : ℤ) → Memᴰ x C → Memᴰ (neg_ℤ x) C → ⊥

abbrev pub AllDerived : Formula → Family → List Words → Type 0
AllDerived F f known = (C : Words) → Memᴰ C known → (d : Derivation) × Derived F f C d

-- The premises of a resolution by the pivot's sign.
abbrev pub premise : Derivation → Derivation → Bool → Derivation
premise s t true = s
premise s t false = t
