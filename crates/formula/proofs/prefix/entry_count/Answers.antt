-- `entry_count`: one entry a word. Assumes nothing.
use mathlib.Core.Path.{sym}
use Rattle.formula.specs.Prefix.Laws.{entry_count_lem}
use Rattle.formula.proofs.prefix.entry_count.Goals as goal

pub returns : goal.returns
returns c = sym (entry_count_lem c.args.prefix.now)
