-- Prefixes and formulas (01, "The game and its tables"; 000, section 2): quantified entries from outermost to innermost,
-- a matrix of clauses, and what makes a formula proper.
pub mod Laws
use Rattle.std.specs.Prelude.{ℕ, ◌≡◌}
use mathlib.Core.List.{List, [], ◌∷◌, map, Memᴰ}
use Rattle.std.proofs.Math.Decide.{ℕ_discrete}
use Rattle.qbf.specs.Literal.{Literal, Clause, Matrix}

pub data Quantifier : Type 0 where
  existential universal : Quantifier

pub record Entry : Type 0 where
  pub variable : ℕ
  pub quantifier : Quantifier

abbrev pub entry : ℕ → Quantifier → Entry
entry v q = record { variable = v; quantifier = q }

abbrev pub Prefix : Type 0
Prefix = List Entry

pub record Formula : Type 0 where
  pub prefix : Prefix
  pub matrix : Matrix

-- The variables of a prefix, and of a clause, in order.
abbrev pub listed : Prefix → List ℕ
listed P = map (λ (x : Entry). x.variable) P

abbrev pub variables : Clause → List ℕ
variables C = map (λ (l : Literal). l.variable) C

-- No number stands twice in a list.
abbrev pub Distinct : List ℕ → Type 0
Distinct [] = Unit {0}
Distinct (x ∷ xs) = (Memᴰ x xs → ⊥) × Distinct xs

-- No variable is listed twice; no clause holds a literal twice, or a literal and its opposite; each clause variable is listed.
pub record Proper (F : Formula) : Type 0 where
  pub prefix_distinct : Distinct (listed F.prefix)
  pub clause_distinct : (C : Clause) → Memᴰ C F.matrix → Distinct (variables C)
  pub clause_bound : (C : Clause) → Memᴰ C F.matrix → (l : Literal) → Memᴰ l C → Memᴰ l.variable (listed F.prefix)

-- The entries right of a variable's own: those after its first place in the prefix.
unfoldable pub after : ℕ → Prefix → Prefix
after v [] = []
after v (x ∷ xs) = rest (ℕ_discrete x.variable v) (after v xs)
  where
    rest : Dec (x.variable ≡ v) → Prefix → Prefix
    rest (yes e) later = xs
    rest (no n) later = later

-- A variable is existential, or universal, in a prefix; e stands right of u.
abbrev pub Existential : Prefix → ℕ → Type 0
Existential P v = Memᴰ (entry v existential) P

abbrev pub Universal : Prefix → ℕ → Type 0
Universal P v = Memᴰ (entry v universal) P

abbrev pub RightOf : Prefix → ℕ → ℕ → Type 0
RightOf P u e = Memᴰ e (listed (after u P))

-- A universal whose entry stands right of x: the ones that a long-distance resolution on x may merge.
abbrev pub UniversalRightOf : Prefix → ℕ → ℕ → Type 0
UniversalRightOf P x v = Universal (after x P) v

-- The existential variables of a prefix, in order.
unfoldable pub existentials : Prefix → List ℕ
existentials [] = []
existentials (x ∷ xs) = keep x.quantifier (existentials xs)
  where
    keep : Quantifier → List ℕ → List ℕ
    keep existential later = x.variable ∷ later
    keep universal later = later
