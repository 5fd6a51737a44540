-- Clauses as lists of words (01, "The game and its tables"): a word stands in a clause, a clause without a word, a 0 closes
-- one; words in range. The clause at a place and its laws are in Decode.antt of formula.
pub mod Laws
use Rattle.std.specs.Prelude.{◌≡◌, ◌≤◌, Bool, true, false, ◌||◌, eqb, ℤ, pos, negsuc, nat_abs}
use mathlib.Core.List.{List, [], ◌∷◌, Memᴰ}
use Rattle.std.specs.List.{list_any}
use Rattle.formula.specs.Bounds.{variable_bound}
unfoldable pub use Rattle.formula.specs.Word.{is_zero}

-- A clause as its words, and the numbered clauses in order.
abbrev pub Words : Type 0
Words = List ℤ

unfoldable pub same_word : ℤ → ℤ → Bool
same_word (pos a) (pos b) = eqb a b
same_word (pos a) (negsuc b) = false
same_word (negsuc a) (pos b) = false
same_word (negsuc a) (negsuc b) = eqb a b

unfoldable pub holds : ℤ → Words → Bool
holds x [] = false
holds x (y ∷ C) = same_word x y || holds x C

abbrev pub keep : Bool → ℤ → Words → Words
keep true y later = later
keep false y later = y ∷ later

unfoldable pub without : ℤ → Words → Words
without x [] = []
without x (y ∷ C) = keep (same_word x y) y (without x C)

-- What was told of a test that was asked of words: whether one passes, by whatever it computes at each of them.
abbrev pub TellsAny : (ℤ → Bool → Type 0) → Words → Bool → Type 0
TellsAny Post C told = (P : ℤ → Bool) → ((x : ℤ) (b : Bool) → Memᴰ x C → Post x b → b ≡ P x) → told ≡ list_any P C

-- A 0 stands among the words.
unfoldable pub closes : Words → Bool
closes [] = false
closes (w ∷ ws) = is_zero w || closes ws

-- A literal's variable is within its bound; so for each word of a clause.
abbrev pub InRange : ℤ → Type 0
InRange x = (1 ≤ nat_abs x) × (nat_abs x ≤ variable_bound)

abbrev pub AllInRange : Words → Type 0
AllInRange C = (x : ℤ) → Memᴰ x C → InRange x

-- Each word of each of the clauses.
abbrev pub AllWords : (ℤ → Type 0) → List Words → Type 0
AllWords P known = (C : Words) → Memᴰ C known → (x : ℤ) → Memᴰ x C → P x
