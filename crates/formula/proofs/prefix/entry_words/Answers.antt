-- `entry_words`: three words an entry. Assumes nothing.
use mathlib.Core.Path.{refl}
use borrow.Author.Rules.{rules}
use Rattle.formula.specs.Prefix.{entry_words}
use Rattle.formula.proofs.prefix.entry_words.Goals as goal

pub overflow_mul-result : goal.overflow_mul-result
unfolding entry_words
overflow_mul-result c = let h = c.requires in search rules

pub returns : goal.returns
unfolding entry_words
returns c = refl
