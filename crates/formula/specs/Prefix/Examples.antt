-- Entries and blocks of worked prefixes, by computation. `e v b` and `a v b` put the words of an existential and of a universal entry
-- before other words, so that examples read as the table does.
use Rattle.std.specs.Prelude.{ℕ, ◌≡◌, refl, List, [], ◌∷◌, ℤ, pos}
use Rattle.qbf.specs.Formula.{existential, universal, entry}
use Rattle.formula.specs.Word.{word_of, ordinal}
use Rattle.formula.specs.Prefix.{prefix_of, prefix_words, words_from}

abbrev pub e : (v b : ℕ) → List ℤ → List ℤ
e v b ws = pos v ∷ pos 1 ∷ pos b ∷ ws

abbrev pub a : (v b : ℕ) → List ℤ → List ℤ
a v b ws = pos v ∷ pos 2 ∷ pos b ∷ ws

-- ∃1 ∀2 ∃3 ∃4: three blocks.
pub four_entries : prefix_of (e 1 1 (a 2 2 (e 3 3 (e 4 3 [])))) ≡ entry 1 existential ∷ entry 2 universal ∷ entry 3 existential ∷ entry 4 existential ∷ []
unfolding prefix_of ordinal word_of
four_entries = refl

pub four_words : prefix_words (entry 1 existential ∷ entry 2 universal ∷ entry 3 existential ∷ entry 4 existential ∷ []) ≡ e 1 1 (a 2 2 (e 3 3 (e 4 3 [])))
unfolding words_from
four_words = refl
