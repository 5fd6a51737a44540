-- Dependency rows (01, "Paths and rows"): one byte per variable number, 0 to 1,024, holding 1 for a dependent and 0 elsewhere.
-- Laws are in Row/Laws.antt, the rows of 01's lettered positions in Row/Examples.antt.
pub mod Laws
pub mod Examples
use Rattle.std.specs.Prelude.{ℕ, zero, suc, Bool, true, false, List, [], ◌∷◌, ◌++◌}
use Rattle.qbf.specs.Formula.{Formula}
use Rattle.qbf.specs.Dependency.{depends}

abbrev pub mark : Bool → ℕ
mark true = 1
mark false = 0

-- The bytes for the variable numbers below n.
unfoldable pub row_below : Formula → ℕ → ℕ → List ℕ
row_below F u zero = []
row_below F u (suc n) = row_below F u n ++ (mark (depends F u n) ∷ [])

-- The row of the universal u.
unfoldable pub row_of : Formula → ℕ → List ℕ
row_of F u = row_below F u 1025
