-- A row against a clause, as the code looks it up. That this is `blocked`, and what blocks `blocker_of`, is in
-- proofs/Theorems/Blocked/Laws.antt.
use Rattle.std.specs.Prelude.{ℕ, Bool, false, ◌&&◌, ◌||◌, List, [], ◌∷◌, get_or, eqb, nat_abs}
use Rattle.formula.specs.Free.{occurs}
use Rattle.inference.specs.Words.{Words}

-- The flag of some word's variable is 1.
unfoldable pub touches : List ℕ → Words → Bool
touches row [] = false
touches row (x ∷ C) = eqb (get_or row (nat_abs x) 0) 1 || touches row C

-- The flag of a variable that stands in the clause is 1.
unfoldable pub blocks_by : List ℕ → Words → ℕ → Bool
blocks_by row C v = eqb (get_or row v 0) 1 && occurs v C
