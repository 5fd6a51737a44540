-- Empty clauses among the numbered ones: whether there is one, the first one, and the last clause if it is empty; and the first one's number as the
-- code keeps it. Laws are in Empty/Laws.antt.
pub mod Laws
use Rattle.std.specs.Prelude.{Option as Optional, Some, None}
use Rattle.formula.specs.declared.literal.ClauseNumber.{ClauseNumber}
use Rattle.std.specs.Prelude.{ℕ, suc, Bool, true, false, List, [], ◌∷◌}
use Rattle.std.proofs.Math.Option.{Option, none, some}
use Rattle.inference.specs.Words.{Words}

abbrev pub is_empty : Words → Bool
is_empty [] = true
is_empty (x ∷ C) = false

-- Some clause is empty.
unfoldable pub some_empty : List Words → Bool
some_empty [] = false
some_empty ([] ∷ known) = true
some_empty ((x ∷ C) ∷ known) = some_empty known

-- The number of the first empty clause, `n` being the number of the first one here.
unfoldable pub first_empty : ℕ → List Words → Option ℕ
first_empty n [] = none
first_empty n ([] ∷ Cs) = some n
first_empty n ((x ∷ C) ∷ Cs) = first_empty (suc n) Cs

abbrev pub number_if : Bool → ℕ → Option ℕ
number_if true n = some n
number_if false n = none

-- The number of the last clause, if it is empty.
unfoldable pub last_empty : ℕ → List Words → Option ℕ
last_empty n [] = none
last_empty n (C ∷ []) = number_if (is_empty C) n
last_empty n (C ∷ D ∷ Cs) = last_empty (suc n) (D ∷ Cs)

-- A number that may be missing as the code keeps it, and back.
abbrev pub empty_number : Option ℕ → Optional ClauseNumber
empty_number none = None
empty_number (some n) = Some (record { 0 = n })

abbrev pub number_found : Optional ClauseNumber → Option ℕ
number_found None = none
number_found (Some n) = some n.0

-- The first empty clause's number once one more is numbered, which is empty or not.
abbrev pub empty_after : Optional ClauseNumber → Bool → ClauseNumber → Optional ClauseNumber
empty_after None true n = Some n
empty_after None false n = None
empty_after (Some e) ends n = Some e
