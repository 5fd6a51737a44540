-- `words` lists the words of the table: by computing. Assumes nothing.
use mathlib.Core.Path.{refl}
use Rattle.scanner.specs.Token.{same}
use Rattle.report.specs.Word.{word_in, filled}
use Rattle.report.proofs.word.words.Goals as goal

pub returns : goal.returns
unfolding word_in same filled
returns c = refl
