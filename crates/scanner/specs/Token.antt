-- Tokens of a formula's text (01, "Formula text"): comments before the first token, then runs of bytes parted by space, tab, CR or LF,
-- each judged whole. A token is its bytes and the place of the first; a word is compared by its bytes, a number by its value. How the code
-- finds and shows them is in Token/Scan.antt; that it is the same, in proofs/Theorems/Token.
pub mod Scan
use Rattle.std.specs.Prelude.{ℕ, ◌+◌, ◌*◌, ◌-◌, ◌≤◌, ◌≡◌, Bool, true, false, ◌||◌, ◌&&◌, cond, List, [], ◌∷◌, ◌++◌, drop, length, leb, ltb, eqb}
use Rattle.scanner.specs.Position.{line_feed}
use Rattle.scanner.specs.declared.token.Lead.{Lead}
use Rattle.scanner.specs.declared.token.Lead.TheVariants.{LineStart, InLine, Comment, Over}

-- The digits 0 to 9, and what parts tokens: space, tab, CR, LF.
unfoldable pub is_digit : ℕ → Bool
is_digit b = leb 48 b && leb b 57

unfoldable pub is_blank : ℕ → Bool
is_blank b = eqb b 32 || eqb b 9 || eqb b 13 || eqb b line_feed

-- Bytes that no blank parts, at least one: a token, wherever blanks stand around it.
abbrev pub AllSolid : List ℕ → Type 0
AllSolid [] = Unit {0}
AllSolid (b ∷ bs) = (is_blank b ≡ false) × AllSolid bs

pub record IsRun (bytes : List ℕ) : Type 0 where
  pub no_blank : AllSolid bytes
  pub full : 1 ≤ length bytes

-- Bytes before the first token: at a line's start, further in a line, in a comment; or they are over. A byte that parts
-- tokens goes on, so does a `c` at a line's start; any other is the first of a token. A comment ends at LF.
abbrev pub line_step : Bool → Bool → Bool → Lead
line_step true blank c = LineStart
line_step false true c = InLine
line_step false false true = Comment
line_step false false false = Over

abbrev pub lead_step : Lead → ℕ → Lead
lead_step LineStart b = line_step (eqb b line_feed) (is_blank b) (eqb b 99)
lead_step InLine b = line_step (eqb b line_feed) (is_blank b) false
lead_step Comment b = cond (eqb b line_feed) LineStart Comment
lead_step Over b = Over

-- The place of the first token, from the place `at` on; with no token, the text's length.
abbrev pub lead_place : Lead → ℕ → ℕ → ℕ
lead_place LineStart at later = later
lead_place InLine at later = later
lead_place Comment at later = later
lead_place Over at later = at

unfoldable pub lead_from : ℕ → Lead → List ℕ → ℕ
lead_from at s [] = at
lead_from at s (b ∷ bs) = lead_place (lead_step s b) at (lead_from (at + 1) (lead_step s b) bs)

abbrev pub first_token : List ℕ → ℕ
first_token text = lead_from 0 LineStart text

-- A token: its bytes, and the place of the first.
pub record Token : Type 0 where
  pub bytes : List ℕ
  pub place : ℕ

-- A run of bytes that has ended before the place `at` is a token, where it has any byte.
abbrev pub emit : ℕ → List ℕ → List Token → List Token
emit at [] later = later
emit at (b ∷ run) later = record { bytes = b ∷ run; place = at - length (b ∷ run) } ∷ later

-- A blank ends the run before it, any other byte joins it.
abbrev pub ended : (blank : Bool) → List ℕ → List ℕ
ended true run = run
ended false run = []

abbrev pub joined : (blank : Bool) → List ℕ → ℕ → List ℕ
joined true run b = []
joined false run b = run ++ (b ∷ [])

-- The tokens of the bytes from the place `at` on; `run` are the bytes before it of a token that is open there, none between tokens.
unfoldable pub tokens_from : ℕ → List ℕ → List ℕ → List Token
tokens_from at run [] = emit at run []
tokens_from at run (b ∷ bs) = emit at (ended (is_blank b) run) (tokens_from (at + 1) (joined (is_blank b) run b) bs)

abbrev pub tokens_at : List ℕ → ℕ → List Token
tokens_at text at = tokens_from at [] (drop at text)

abbrev pub tokens : List ℕ → List Token
tokens text = tokens_at text (first_token text)

-- Two lists of bytes are the same.
unfoldable pub same : List ℕ → List ℕ → Bool
same [] [] = true
same [] (c ∷ cs) = false
same (b ∷ bs) [] = false
same (b ∷ bs) (c ∷ cs) = eqb b c && same bs cs

-- The words `p`, `cnf`, `a`, `e`.
abbrev pub p_text : List ℕ
p_text = 112 ∷ []

abbrev pub cnf_text : List ℕ
cnf_text = 99 ∷ 110 ∷ 102 ∷ []

abbrev pub a_text : List ℕ
a_text = 97 ∷ []

abbrev pub e_text : List ℕ
e_text = 101 ∷ []

-- What bytes are as a number, by its value, or that they are none.
pub data Number : Type 0 where
  natural : (n : ℕ) → Number
  negative : (n : ℕ) → Number
  no_number : Number

-- Digits, and the value that they make with those before them, whose value is n.
unfoldable pub all_digits : List ℕ → Bool
all_digits [] = true
all_digits (b ∷ bs) = is_digit b && all_digits bs

unfoldable pub value_from : ℕ → List ℕ → ℕ
value_from n [] = n
value_from n (b ∷ bs) = value_from (10 * n + (b - 48)) bs

-- Digits that start with 1 to 9.
abbrev pub is_numeral : List ℕ → Bool
is_numeral [] = false
is_numeral (b ∷ bs) = ltb 48 b && all_digits (b ∷ bs)

-- A number is 0, or an optional minus and digits that start with 1 to 9.
abbrev pub negative_of : List ℕ → Number
negative_of [] = no_number
negative_of (b ∷ bs) = cond (eqb b 45 && is_numeral bs) (negative (value_from 0 bs)) no_number

unfoldable pub number_of : List ℕ → Number
number_of bytes = cond (same bytes (48 ∷ [])) (natural 0) (cond (is_numeral bytes) (natural (value_from 0 bytes)) (negative_of bytes))
