-- What the functions that read the header of a text answer. Laws are in Header/Laws.antt.
pub mod Laws
use Rattle.formula.specs.declared.refusal.Refusal.{Refusal}
use Rattle.formula.specs.declared.header.Field.{Field}
use Rattle.formula.specs.declared.header.Header.{Header}
use Rattle.std.specs.Prelude.{ℕ, ◌+◌, ◌≤◌, ◌≡◌, Bool, true, false, List, [], ◌∷◌, length, Option, Some, None, Result, Ok, Err}
use Rattle.formula.specs.Bounds.{variable_bound, count_bound}
use Rattle.scanner.specs.Position.{position_at}
use Rattle.scanner.specs.Position.Cursor.{PositionIn}
use Rattle.formula.specs.Refusal.{refused_at}
use Rattle.scanner.specs.Token.{Token, same, p_text, cnf_text, number_of}
use Rattle.scanner.specs.Token.Scan.{shown}
use Rattle.formula.specs.Text.{refused, State, between_sets, at_end, reading_from}
use Rattle.scanner.specs.declared.position.Position.{Position}
use Rattle.formula.specs.declared.refusal.Reason.TheVariants.{Headless}
use Rattle.scanner.specs.declared.token.Token.{Token as Shown}
use Rattle.scanner.specs.declared.token.Token.TheVariants.{Natural, Negative, NoNumber}
use Rattle.formula.specs.declared.header.Wanted.{Wanted}
use Rattle.formula.specs.declared.header.Wanted.TheVariants.{P, Cnf, Number as WantsNumber}

-- The value of a token that is what the header wants: 0 for a word.
abbrev pub word_value : Bool → Option ℕ
word_value true = Some 0
word_value false = None

abbrev pub number_value : Shown → Option ℕ
number_value (Natural n) = Some n
number_value (Negative n) = None
number_value NoNumber = None

abbrev pub value_of : Wanted → (bytes : List ℕ) → Shown → Option ℕ
value_of P bytes t = word_value (same bytes p_text)
value_of Cnf bytes t = word_value (same bytes cnf_text)
value_of WantsNumber bytes t = number_value t

-- What is found where these tokens follow in the text.
abbrev pub field_or : Option ℕ → (place next : Position) → Result Field Refusal
field_or None place next = Err (refused_at place Headless)
field_or (Some n) place next = Ok (record { value = n; next = next })

unfoldable pub field_found : (text : List ℕ) → Wanted → List Token → Result Field Refusal
field_found text wanted [] = Err (at_end text Headless)
field_found text wanted (t ∷ ts) =
    field_or (value_of wanted t.bytes (shown (number_of t.bytes))) (position_at text t.place) (position_at text (t.place + length t.bytes))

-- The header, from the state s at the place `at` on.
abbrev pub HeaderPost : List ℕ → State → ℕ → Result Header Refusal → Type 0
HeaderPost text s at (Ok h) =
    ((prefixRoom clauseRoom : ℕ) → reading_from prefixRoom clauseRoom text s at ≡ reading_from prefixRoom clauseRoom text (between_sets h.variables.0 h.clauses.0 []) h.next.place)
    × (h.variables.0 ≤ variable_bound)
    × (h.clauses.0 ≤ count_bound)
    × PositionIn text h.next
HeaderPost text s at (Err r) = (prefixRoom clauseRoom : ℕ) → reading_from prefixRoom clauseRoom text s at ≡ refused r
