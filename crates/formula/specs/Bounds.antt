-- The bounds of 01 ("Each bound belongs to what it bounds"), and what each refusing constructor answers.
pub mod Laws
use Rattle.formula.specs.declared.bounds.AtMost.{AtMost}
use Rattle.formula.specs.declared.literal.Variable.{Variable}
use Rattle.formula.specs.declared.literal.ClauseNumber.{ClauseNumber}
use Rattle.formula.specs.declared.literal.Literal.{Literal}
use Rattle.std.specs.Prelude.{ℕ, Bool, true, false, ◌&&◌, leb, if◌then◌else◌, ℤ, Option, Some, None}
pub use Rattle.scanner.specs.Position.{text_bound}

-- Variables, and their numbers; prefix words, three a variable (02, P6); input clauses; clause words; step words. That on bytes of text, `text_bound`,
-- stands in the scanner's Position.antt.
abbrev pub variable_bound : ℕ
variable_bound = 1024

abbrev pub prefix_bound : ℕ
prefix_bound = 3072

abbrev pub count_bound : ℕ
count_bound = 8192

abbrev pub matrix_bound : ℕ
matrix_bound = 65536

abbrev pub proof_bound : ℕ
proof_bound = 1048576

-- A number from 1 to `last`.
abbrev pub in_range : ℕ → ℕ → Bool
in_range n last = leb 1 n && leb n last

-- What the constructors answer: the value, where the number or the word is in its range.
abbrev pub at_most : (max n : ℕ) → Option (AtMost max)
at_most max n = if leb n max then Some (record { 0 = n }) else None

abbrev pub variable_fit : Bool → ℕ → Option Variable
variable_fit true n = Some (record { 0 = n })
variable_fit false n = None

-- A word as a literal: its variable's number is the word's magnitude.
abbrev pub literal_fit : Bool → ℤ → Option Literal
literal_fit true w = Some (record { 0 = w })
literal_fit false w = None

abbrev pub number_fit : Bool → ℕ → Option ClauseNumber
number_fit true n = Some (record { 0 = n })
number_fit false n = None
