-- Tokens as the code finds and shows them: a number is kept below a bound, a run of bytes is read digit by digit, a token has its position.
use Rattle.std.specs.Prelude.{ℕ, suc, ◌+◌, ◌*◌, ◌-◌, min, ◌<◌, ◌≡◌, Bool, true, false, ◌||◌, ◌&&◌, cond, if◌then◌else◌, List, [], ◌∷◌, drop, take, length, get_or, ltb, Option, Some, None}
use Rattle.scanner.specs.Position.{position_at}
use Rattle.scanner.specs.Position.Cursor.{PositionIn}
use Rattle.scanner.specs.Token.{is_digit, is_blank, Token, tokens_at, Number, natural, negative, no_number, all_digits, value_from, number_of}
use Rattle.scanner.specs.declared.position.Position.{Position}
use Rattle.scanner.specs.declared.token.Token.{Token as Shown}
use Rattle.scanner.specs.declared.token.Token.TheVariants.{Natural, Negative, NoNumber}
use Rattle.scanner.specs.declared.token.Digits.{Digits}
use Rattle.scanner.specs.declared.token.Next.{Next}
use Rattle.scanner.specs.declared.token.Next.TheVariants.{End, Found}

-- A number above every bound has one value: one more than the largest 32-bit word.
abbrev pub too_large : ℕ
too_large = 2147483648

-- A number with one more digit.
unfoldable pub numeral : ℕ → ℕ → ℕ
numeral n b = min (10 * n + (b - 48)) too_large

abbrev pub shown : Number → Shown
shown (natural n) = Natural (min n too_large)
shown (negative n) = Negative (min n too_large)
shown no_number = NoNumber

-- What `next_token` answers where these tokens follow: the first of them, with its positions in the text.
abbrev pub next_of : List ℕ → List Token → Next
next_of text [] = End (position_at text (length text))
next_of text (t ∷ ts) = Found (shown (number_of t.bytes)) (position_at text t.place) (position_at text (t.place + length t.bytes))

-- The run of bytes from a place up to the first blank, or to the end: how many they are, and which.
unfoldable pub solid : List ℕ → ℕ
solid [] = 0
solid (b ∷ bs) = cond (is_blank b) 0 (suc (solid bs))

abbrev pub run_at : List ℕ → ℕ → List ℕ
run_at text at = take (solid (drop at text)) (drop at text)

-- Digits alone, of which a first 0 stands alone.
abbrev pub no_leading_zero : List ℕ → Bool
no_leading_zero [] = true
no_leading_zero (b ∷ []) = true
no_leading_zero (b ∷ c ∷ bs) = ltb 48 b

abbrev pub is_plain : List ℕ → Bool
is_plain bytes = all_digits bytes && no_leading_zero bytes

-- The value of a run, if it is plain.
abbrev pub read_value : List ℕ → Option ℕ
read_value bytes = if is_plain bytes then Some (min (value_from 0 bytes) too_large) else None

-- What was read of a run with one more byte: a value where that byte is a digit, the first of the run or behind a value that is not 0.
abbrev pub more_value : Option ℕ → Bool → ℕ → Option ℕ
more_value None first b = None
more_value (Some n) first b = if is_digit b && (first || ltb 0 n) then Some (numeral n b) else None

abbrev pub more_digits : Digits → Bool → ℕ → Digits
more_digits r first b = record { value = more_value r.value first b; end = r.end + 1 }

-- What `read_digits` answers of the run at a place.
pub record DigitsRead (text : List ℕ) (from : ℕ) (r : Digits) : Type 0 where
  pub ends : r.end ≡ from + solid (drop from text)
  pub is_value : r.value ≡ read_value (run_at text from)

-- The contract of `skip_blanks`: from `r` on the tokens are the same, and no blank stands at `r`.
pub record SkipPost (text : List ℕ) (at : ℕ) (r : Position) : Type 0 where
  pub same_tokens : tokens_at text at ≡ tokens_at text r.place
  pub stands : PositionIn text r
  pub no_blank : r.place < length text → is_blank (get_or text r.place 0) ≡ false
