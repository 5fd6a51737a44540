-- Texts written down as strings, and what they are read as with a little room. The worked texts are in proofs/Theorems/Text/Examples.antt.
use Rattle.std.specs.Prelude.{ℕ, List, [], ◌∷◌}
use Prim.Native.Char.{code}
use Prim.Native.String.{String, [] as end, ◌∷◌ as ◌then◌}
use Rattle.formula.specs.declared.refusal.Reason.{Reason}
use Rattle.formula.specs.declared.refusal.Refusal.{Refusal}
use Rattle.formula.specs.Prefix.{words_from, entry_words, entry_fits}
use Rattle.formula.specs.Tables.{is_in, zeros}
use Rattle.scanner.specs.Position.{feeds, since_feed}
use Rattle.formula.specs.Free.{occurs, passing}
use Rattle.scanner.specs.Token.{is_digit, is_blank, lead_from, tokens_from, same, all_digits, value_from, number_of}
use Rattle.formula.specs.Text.{Reading, open_from, variable_reason, literal_reason, closing_reason, step, run, ending, reading}

unfoldable pub bytes : String → List ℕ
bytes end = []
bytes (c then s) = code c ∷ bytes s

-- A reason with its place, its line and its column.
abbrev pub at : Reason → (place line column : ℕ) → Refusal
at r place line column = record { reason = r; place = place; line = line; column = column }

-- With room for eight entries and eight clause words.
unfoldable pub reads : String → Reading
unfolding bytes words_from entry_words entry_fits is_in zeros is_digit is_blank lead_from tokens_from same all_digits value_from number_of feeds since_feed open_from variable_reason literal_reason closing_reason occurs passing step run ending reading
reads s = reading (bytes s) 24 8
