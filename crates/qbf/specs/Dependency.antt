-- Dependence of an existential on a universal by the reflexive resolution-path scheme (01, "Paths and rows"; 000,
-- Definition 7), and an executable test of it, for proofs and small examples.
use Rattle.std.specs.Prelude.{ℕ, ◌≡◌, Bool, true, false, not, ◌&&◌, ◌||◌}
use mathlib.Core.List.{List, [], ◌∷◌, Memᴰ}
use Rattle.std.proofs.Math.Decide.{ℕ_discrete}
use Rattle.qbf.specs.Literal.{Literal, literal, Matrix}
use Rattle.qbf.specs.Formula.{Formula, after, existentials}
use Rattle.qbf.specs.Path.{Path, literals, reach}

-- 01's X: the existential variables right of u. A path may pass through e itself: that is the reflexive scheme.
abbrev pub passable : Formula → ℕ → List ℕ
passable F u = existentials (after u F.prefix)

-- u may be any variable; rules and rows ask it of universals only. e is an existential right of u, and paths join u to e and −u to −e (to_sign true), or u to −e and −u to e (to_sign false).
pub record Depends (F : Formula) (u e : ℕ) : Type 0 where
  pub right : Memᴰ e (passable F u)
  pub to_sign : Bool
  pub from_positive : Path F.matrix (passable F u) (literal u true) (literal e to_sign)
  pub from_negative : Path F.matrix (passable F u) (literal u false) (literal e (not to_sign))

-- The tests. A number stands in a list.
unfoldable pub member : ℕ → List ℕ → Bool
member n [] = false
member n (x ∷ xs) = found (ℕ_discrete n x) (member n xs)
  where
    found : Dec (n ≡ x) → Bool → Bool
    found (yes e) later = true
    found (no n') later = later

-- The two paths exist, the positive literal of u being joined to e with this sign.
unfoldable pub pair : Matrix → List Literal → ℕ → ℕ → Bool → Bool
pair M ms u e s = reach M ms (literal u true) (literal e s) && reach M ms (literal u false) (literal e (not s))

unfoldable pub depends : Formula → ℕ → ℕ → Bool
depends F u e = member e (passable F u) && (pair F.matrix (literals (passable F u)) u e true || pair F.matrix (literals (passable F u)) u e false)
