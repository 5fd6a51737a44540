-- Different numbers, each from 1 to n, and prefixes that list different variables.
use Rattle.std.specs.Prelude.{ℕ, ◌≤◌, ◌≡◌, false, List, [], ◌∷◌}
use Rattle.qbf.specs.Formula.{Prefix, listed}
use Rattle.formula.specs.Tables.{is_in}

-- No number stands twice; each is from 1 to n.
abbrev pub Apart : List ℕ → Type 0
Apart [] = Unit {0}
Apart (x ∷ xs) = (is_in x xs ≡ false) × Apart xs

abbrev pub Ranged : ℕ → List ℕ → Type 0
Ranged n [] = Unit {0}
Ranged n (x ∷ xs) = (1 ≤ x) × (x ≤ n) × Ranged n xs

-- The entries list different variables from 1 to v.
pub record PrefixFine (v : ℕ) (P : Prefix) : Type 0 where
  pub apart : Apart (listed P)
  pub ranged : Ranged v (listed P)
