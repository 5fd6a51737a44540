-- Whose turn a prefix is, and what a side that is due may lean on.
use Rattle.std.specs.Prelude.{ℕ, ◌<◌, ◌≡◌, Bool, false, List, [], ◌∷◌, ℤ}
use Rattle.qbf.specs.Formula.{Quantifier, existential, universal, Prefix}
use Rattle.formula.specs.Bounds.{variable_bound}
use Rattle.formula.specs.Prefix.{prefix_of, is_quantifier}

unfoldable pub universal_due : Prefix → Bool
universal_due [] = false
universal_due (x ∷ P) = is_quantifier universal x.quantifier

-- The side whose turn it is. With no variable left it is the existential side's, which then looks at the matrix.
abbrev pub due : Prefix → Quantifier
due [] = existential
due (x ∷ P) = x.quantifier

-- The side q is due, and n values reach every variable.
pub record Due (q : Quantifier) (n : ℕ) (prefix : List ℤ) : Type 0 where
  pub first : due (prefix_of prefix) ≡ q
  pub reach : variable_bound < n
