-- Clause words one after the other (01: "Clause words are literals, every clause closed by 0"): what stands at a place, the
-- place after it, and where a clause ends. Laws are in Words/Laws.antt.
pub mod Laws
use Rattle.std.specs.Prelude.{ℕ, zero, suc, List, [], ◌∷◌, ℤ, pos, negsuc}
use Rattle.formula.specs.declared.words.ClauseWord.{ClauseWord}
use Rattle.formula.specs.declared.words.ClauseWord.TheVariants.{Word, Close, End}

-- A word that is not 0 belongs to a clause.
unfoldable pub word_is : ℤ → ClauseWord
word_is (pos zero) = Close
word_is (pos (suc n)) = Word (pos (suc n))
word_is (negsuc n) = Word (negsuc n)

-- What stands at a place of the words.
unfoldable pub word_at : List ℤ → ℕ → ClauseWord
word_at [] at = End
word_at (w ∷ ws) zero = word_is w
word_at (w ∷ ws) (suc at) = word_at ws at

-- The place after the word at a place; the same place where no word stands.
unfoldable pub place_after : List ℤ → ℕ → ℕ
place_after [] at = at
place_after (w ∷ ws) zero = 1
place_after (w ∷ ws) (suc at) = suc (place_after ws at)

-- The first place where no literal stands, in words whose first one is at the place `at`: a clause's closing 0, or the end.
unfoldable pub close_from : ℕ → List ℤ → ℕ
close_from at [] = at
close_from at (pos zero ∷ ws) = at
close_from at (pos (suc n) ∷ ws) = close_from (suc at) ws
close_from at (negsuc n ∷ ws) = close_from (suc at) ws
