-- The words of the reasons as the code lists them: each filled up with dots, which no word holds, to 14 bytes, since an array holds rows
-- of one length. Laws are in Word/Laws.antt.
pub mod Laws
use Rattle.std.specs.Prelude.{ℕ, Bool, true, false, ◌&&◌, List, [], ◌∷◌, length, eqb}
use Rattle.formula.specs.Refusal.{Named}
use Rattle.scanner.specs.Token.{same}

-- A word filled up with dots: the bytes before the first.
abbrev pub before_dot : Bool → ℕ → List ℕ → List ℕ
before_dot true b later = []
before_dot false b later = b ∷ later

unfoldable pub word_in : List ℕ → List ℕ
word_in [] = []
word_in (b ∷ bs) = before_dot (eqb b 46) b (word_in bs)

-- A list of words filled up with dots to 14 bytes, each the word of the table's row at its place.
unfoldable pub filled : List (List ℕ) → List Named → Bool
filled ws [] = true
filled [] (x ∷ xs) = false
filled (w ∷ ws) (x ∷ xs) = (eqb (length w) 14 && same (word_in w) x.bytes) && filled ws xs
