-- `place_after` answers by the test on the place. Assumes nothing.
use mathlib.Core.Path.{sym}
use native.Mathlib.Numerals.{add-one}
use Rattle.formula.specs.Words.Laws.{place_after_end, place_after_word}
use Rattle.formula.proofs.words.place_after.Goals as goal

pub returns-then-at-words : goal.returns-then-at-words
returns-then-at-words c = rw add-one (sym (place_after_word _ _ c.if-at-words.true))

pub returns-else-at-words : goal.returns-else-at-words
returns-else-at-words c = sym (place_after_end _ _ c.if-at-words.false)
