-- Derivations of Q(D)-resolution, the ordinary rules (01, "Steps"; 000, Definition 1) and the long-distance ones in one definition: the
-- ordinary ones are the case in which no pair is merged and a reduction removes the one sign there is. Of 003 (Figure 1) this has
-- the reduction of both signs, and not the condition on merges: 003 asks that the pivot does not depend on the merged universal;
-- here that universal stands right of the pivot, as in long-distance Q-resolution. No variable depends on one right of it
-- (`right_independent` of Soundness/Merges), so a merge allowed here is one that 003 allows.
use Rattle.std.specs.Prelude.{ℕ, ◌≢◌, Bool, true, false}
use mathlib.Core.List.{Memᴰ}
use Rattle.qbf.specs.Literal.{Literal, literal, neg, Clause}
use Rattle.qbf.specs.Formula.{Formula, Existential, Universal, UniversalRightOf}
use Rattle.qbf.specs.Dependency.{Depends}

-- An input clause; a resolution on a pivot, whose premise b holds the pivot with sign b; a reduction of a universal.
pub data Derivation : Type 0 where
  leaf : Clause → Derivation
  resolve : (Bool → Derivation) → ℕ → Derivation
  reduce : Derivation → ℕ → Derivation

-- A literal of the derived clause: of a resolution, one of a premise other than that premise's pivot literal; of a
-- reduction, one of another variable.
abbrev pub Concludes : Derivation → Literal → Type 0
Concludes (leaf C) l = Memᴰ l C
Concludes (resolve t x) l = (b : Bool) × Concludes (t b) l × (l ≢ literal x b)
Concludes (reduce t u) l = Concludes t l × (l.variable ≢ u)

-- Apart from the pivot x, premises hold opposite literals only of a universal right of x. A pair that one premise holds whole,
-- the other neither sign, is free.
abbrev pub MergesRight : Formula → ℕ → (Literal → Type 0) → (Literal → Type 0) → Type 0
MergesRight F x positive negative =
    (l : Literal) → positive l → l ≢ literal x true → negative (neg l) → UniversalRightOf F.prefix x l.variable

-- Each rule is kept. A reduction may find no literal of its variable, and then removes nothing: looser than 01, for restricted
-- derivations have such reductions.
abbrev pub Valid : Formula → Derivation → Type 0
Valid F (leaf C) = Memᴰ C F.matrix
Valid F (resolve t x) =
    ((b : Bool) → Valid F (t b))
    × Existential F.prefix x
    × ((b : Bool) → Concludes (t b) (literal x b))
    × MergesRight F x (Concludes (t true)) (Concludes (t false))
Valid F (reduce t u) =
    Valid F t
    × Universal F.prefix u
    × ((e : Literal) → Concludes t e → Existential F.prefix e.variable → Depends F u e.variable → ⊥)

-- The derived clause is empty.
abbrev pub Empty : Derivation → Type 0
Empty t = (l : Literal) → Concludes t l → ⊥
