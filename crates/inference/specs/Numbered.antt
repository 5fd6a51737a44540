-- Numbered clauses as the code finds them, by the clause offsets (the table that 01 calls starts): of an input clause the place of
-- its first word in the clause table, of a step the place of the step's first word in the step words.
pub mod Laws
use Rattle.std.specs.Prelude.{Option, None}
use Rattle.formula.specs.declared.literal.ClauseNumber.{ClauseNumber}
use Rattle.std.specs.Prelude.{ℕ, zero, suc, ◌≡◌, Bool, true, false, List, [], ◌∷◌, ◌++◌, length, get_or, ltb, ℤ, pos, negsuc}
use Rattle.formula.specs.Bounds.{in_range, number_fit}
use Rattle.formula.specs.Decode.{clauses_of, clause_at}
use Rattle.inference.specs.Words.{Words}
use Rattle.inference.specs.Empty.{first_empty, empty_number}
use Rattle.inference.specs.Read.{statement_of}

-- The number that a word is, from 1 to the last.
abbrev pub number_of : ℤ → ℕ → Option ClauseNumber
number_of (pos n) last = number_fit (in_range n last) n
number_of (negsuc n) last = None

-- An input clause stands in the clause table, another one in the step words.
abbrev pub table_of : Bool → Words → Words → Words
table_of true clauses steps = clauses
table_of false clauses steps = steps

-- The place of the clause's first word there: the offset, or where the step at the offset begins its statement.
abbrev pub place_of : Bool → Words → ℕ → ℕ
place_of true steps offset = offset
place_of false steps offset = statement_of steps offset

unfoldable pub stored_at : ℕ → Words → Words → List ℕ → ℕ → Words
stored_at inputs clauses steps offsets k = clause_at (table_of (ltb k inputs) clauses steps) (place_of (ltb k inputs) steps (get_or offsets k 0))

-- The first n numbered clauses.
unfoldable pub stored : ℕ → Words → Words → List ℕ → ℕ → List Words
stored inputs clauses steps offsets zero = []
stored inputs clauses steps offsets (suc n) = stored inputs clauses steps offsets n ++ (stored_at inputs clauses steps offsets n ∷ [])

-- The offsets hold the places of the input clauses, whatever the step words are; `empty` is the first empty one.
pub record OffsetsFilled (clauses : Words) (empty : Option ClauseNumber) (offsets : List ℕ) : Type 0 where
  pub input_clauses : (steps : Words) → stored (length (clauses_of clauses)) clauses steps offsets (length (clauses_of clauses)) ≡ clauses_of clauses
  pub first_empty_lem : empty ≡ empty_number (first_empty 1 (clauses_of clauses))
