-- What a word of a table is (01, "The game and its tables"): 0, a magnitude above 1,024, or a variable with a sign; and
-- what is asked of it: is it 0, its variable, which number it is, the place of its literal among marks; then the word of a variable with a sign. Laws
-- are in Word/Laws.antt.
pub mod Laws
use Rattle.std.specs.Prelude.{ℕ, zero, suc, ◌+◌, ◌*◌, Bool, true, false, leb, ℤ, pos, negsuc, neg_ℤ}
use Rattle.formula.specs.Bounds.{variable_bound}
use Rattle.formula.specs.declared.word.Word.{Word}
use Rattle.formula.specs.declared.word.Word.TheVariants.{Zero, TooLarge, Positive, Negative}

abbrev pub positive : Bool → ℕ → Word
positive true v = Positive (record { 0 = v })
positive false v = TooLarge

abbrev pub negative : Bool → ℕ → Word
negative true v = Negative (record { 0 = v })
negative false v = TooLarge

-- negsuc n is −(n + 1).
unfoldable pub word_of : ℤ → Word
word_of (pos zero) = Zero
word_of (pos (suc n)) = positive (leb (suc n) variable_bound) (suc n)
word_of (negsuc n) = negative (leb (suc n) variable_bound) (suc n)

-- The word 0 closes a clause.
unfoldable pub is_zero : ℤ → Bool
is_zero (pos zero) = true
is_zero (pos (suc n)) = false
is_zero (negsuc n) = false

-- The number of a word's variable: 0 for the word 0, one more than the bound for a magnitude above it.
unfoldable pub variable_of : Word → ℕ
variable_of Zero = 0
variable_of TooLarge = variable_bound + 1
variable_of (Positive v) = v.0
variable_of (Negative v) = v.0

-- The number from 1 to 1,024 that a word is; 0 for any other word.
abbrev pub ordinal_of : Word → ℕ
ordinal_of Zero = 0
ordinal_of TooLarge = 0
ordinal_of (Positive v) = v.0
ordinal_of (Negative v) = 0

unfoldable pub ordinal : ℤ → ℕ
ordinal w = ordinal_of (word_of w)

-- The place of the literal of v with this sign among marks, two to a variable.
abbrev pub slot : ℕ → Bool → ℕ
slot v true = 2 * v
slot v false = 2 * v + 1

-- The same of a word; 0, which is no literal's place, for a word that is none.
abbrev pub slot_of : Word → ℕ
slot_of Zero = 0
slot_of TooLarge = 0
slot_of (Positive v) = slot v.0 true
slot_of (Negative v) = slot v.0 false

-- The word of the opposite literal.
abbrev pub opposite : Word → Word
opposite Zero = Zero
opposite TooLarge = TooLarge
opposite (Positive v) = Negative v
opposite (Negative v) = Positive v

-- Places by what each sign adds, as the code has them.
abbrev pub slot_with : ℕ → ℕ → Word → ℕ
slot_with plus minus Zero = 0
slot_with plus minus TooLarge = 0
slot_with plus minus (Positive v) = 2 * v.0 + plus
slot_with plus minus (Negative v) = 2 * v.0 + minus

-- The variable n with a sign.
abbrev pub signed : Bool → ℕ → ℤ
signed true n = pos n
signed false n = neg_ℤ (pos n)
