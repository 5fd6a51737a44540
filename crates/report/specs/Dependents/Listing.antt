-- The line of a universal as it is written: from the bytes of a row, entry by entry. That it is the line of Dependents.antt is
-- said in Dependents/Laws.antt, how long the lines are in Dependents/Length.antt.
use Rattle.std.specs.Prelude.{ℕ, List, [], ◌∷◌, ◌++◌, get_or, eqb}
use Rattle.qbf.specs.Formula.{Prefix}
use Rattle.formula.specs.Decimal.{decimal}
use Rattle.report.specs.Dependents.{if_dependent}

-- A variable whose row byte is 1 is printed.
unfoldable pub marked : (row : List ℕ) → Prefix → List ℕ
marked row [] = []
marked row (x ∷ P) = if_dependent (eqb (get_or row x.variable 0) 1) x.variable ++ marked row P

unfoldable pub row_line : (row : List ℕ) → Prefix → ℕ → List ℕ
row_line row P u = decimal u ++ (58 ∷ (marked row P ++ (10 ∷ [])))
