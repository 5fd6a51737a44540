-- `is_word` compares two slices. Assumes nothing.
use Rattle.std.proofs.Common.{◌∙◌}
use Rattle.scanner.proofs.Theorems.Token.Laws.{same_pointwise}
use Rattle.scanner.proofs.token.is_word.Goals as goal

pub returns : goal.returns
returns c = c.eq.ensures ∙ same_pointwise _ _
