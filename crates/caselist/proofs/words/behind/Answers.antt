-- `behind`: strip_prefix answers what stands behind the front. Assumes nothing.
use Rattle.caselist.proofs.Fields.{stripped}
use Rattle.caselist.proofs.words.behind.Goals as goal

pub returns : goal.returns
returns c = stripped _ _ _ c.strip_prefix.ensures.cases
