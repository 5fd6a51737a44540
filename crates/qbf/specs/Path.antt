-- Resolution paths (01, "Paths and rows"; 000, Definition 4), and an executable test of them, for proofs and small
-- examples: it makes three calls for each literal that may be passed, and no program runs it.
use Rattle.std.specs.Prelude.{ℕ, ◌≡◌, ◌≢◌, Bool, true, false, not, ◌&&◌, ◌||◌, eqb}
use mathlib.Core.List.{List, [], ◌∷◌, Memᴰ}
use Rattle.qbf.specs.Literal.{Literal, literal, neg, Clause, Matrix, same}

-- Two literals of differing variables stand in one clause of the matrix.
pub record Joined (M : Matrix) (a b : Literal) : Type 0 where
  pub clause : Clause
  pub input : Memᴰ clause M
  pub left : Memᴰ a clause
  pub right : Memᴰ b clause
  pub differ : a.variable ≢ b.variable

-- A path from a through the variables of X: each constructor adds the literals 2i−1 and 2i. Literal 2i+1 is the opposite
-- of literal 2i, whose variable is in X; the two ends need not be in X.
pub data Path (M : Matrix) (X : List ℕ) (a : Literal) : Literal → Type 0 where
  one : {b : Literal} → Joined M a b → Path M X a b
  more : {m b : Literal} → Path M X a m → Memᴰ m.variable X → Joined M (neg m) b → Path M X a b

-- The tests. A literal stands in a clause.
unfoldable pub holds : Literal → Clause → Bool
holds l [] = false
holds l (x ∷ xs) = found (same l x) (holds l xs)
  where
    found : Dec (l ≡ x) → Bool → Bool
    found (yes e) later = true
    found (no n) later = later

-- Some clause holds both literals.
unfoldable pub together : Matrix → Literal → Literal → Bool
together [] a b = false
together (C ∷ M) a b = (holds a C && holds b C) || together M a b

unfoldable pub joined : Matrix → Literal → Literal → Bool
joined M a b = not (eqb a.variable b.variable) && together M a b

-- Both literals of each variable.
unfoldable pub literals : List ℕ → List Literal
literals [] = []
literals (x ∷ xs) = literal x true ∷ literal x false ∷ literals xs

-- A path from a to b that passes only literals of the list: with m allowed too, it passes m or it does not.
unfoldable pub reach : Matrix → List Literal → Literal → Literal → Bool
reach M [] a b = joined M a b
reach M (m ∷ ms) a b = reach M ms a b || (reach M ms a m && reach M ms (neg m) b)
