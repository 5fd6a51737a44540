-- A search for the paths from one literal of a universal: the marks it starts with, passes over the clauses in both directions until
-- one changes nothing, and what the marks then say. The theorem is in Search/Laws.antt; what it joins: Initial, Invariant, Closed.
pub mod Laws
pub mod Order
pub mod Progress
pub mod Entries
pub mod Invariant
pub mod Closed
pub mod Initial
use Rattle.std.specs.Prelude.{ℕ, zero, suc, ◌+◌, ◌≡◌, Bool, true, false, not, length, get_or, set, eqb, ltb, ℤ}
use mathlib.Core.List.{List, [], ◌∷◌, reverse, Memᴰ}
use Rattle.qbf.specs.Literal.{literal}
use Rattle.qbf.specs.Formula.{Quantifier, existential, universal, Prefix, Formula}
use Rattle.qbf.specs.Path.{Path}
use Rattle.qbf.specs.Dependency.{passable}
use Rattle.formula.specs.Word.{slot}
use Rattle.dependency.specs.Marks.{select, pass}

-- The literals of the existentials among the entries may be passed.
unfoldable pub open_entry : Quantifier → ℕ → List ℕ → List ℕ
open_entry existential v m = set (set m (slot v true) 1) (slot v false) 1
open_entry universal v m = m

unfoldable pub open_entries : Prefix → List ℕ → List ℕ
open_entries [] m = m
open_entries (x ∷ P) m = open_entries P (open_entry x.quantifier x.variable m)

-- How many literals may be passed and are not reached.
unfoldable pub ones : List ℕ → ℕ
ones [] = 0
ones (x ∷ m) = select (eqb x 1) 1 0 + ones m

-- How many are entries.
unfoldable pub entries : List ℕ → ℕ
entries [] = 0
entries (x ∷ m) = select (ltb x 2) 0 1 + entries m

-- The clauses as a pass takes them: from the first to the last, or back.
abbrev pub ordered : (back : Bool) → List (List ℤ) → List (List ℤ)
ordered false Cs = Cs
ordered true Cs = reverse Cs

-- The pass behind n others goes back where n is odd.
unfoldable pub odd : ℕ → Bool
odd zero = false
odd (suc n) = not (odd n)

unfoldable pub passes : ℕ → List (List ℤ) → List ℕ → List ℕ
passes zero Cs m = m
passes (suc n) Cs m = pass (ordered (odd n) Cs) (passes n Cs m)

-- Passes from m have come to m', which a pass in one of the directions leaves as it is.
pub record Settled (Cs : List (List ℤ)) (m m' : List ℕ) : Type 0 where
  pub count : ℕ
  pub passed : m' ≡ passes count Cs m
  pub back : Bool
  pub still : pass (ordered back Cs) m' ≡ m'

-- What the marks say once the search from the literal of u with this sign has ended.
pub record Searched (F : Formula) (u : ℕ) (sign : Bool) (m : List ℕ) : Type 0 where
  pub size : length m ≡ 2050
  -- a literal right of u that a path reaches has a 2 at its opposite
  pub reached : (e : ℕ) (s : Bool) → Memᴰ e (passable F u) → Path F.matrix (passable F u) (literal u sign) (literal e s) → get_or m (slot e (not s)) 0 ≡ 2
  -- and there is no other 2
  pub only : (e : ℕ) (s : Bool) → get_or m (slot e (not s)) 0 ≡ 2 → Memᴰ e (passable F u) × Path F.matrix (passable F u) (literal u sign) (literal e s)
