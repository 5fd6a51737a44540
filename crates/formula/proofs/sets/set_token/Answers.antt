-- `set_token` answers by the token: each need is one law of Text.Sets. Assumes nothing.
use mathlib.Core.Path.{◌∙◌}
use Rattle.formula.proofs.Theorems.Text.Sets.Laws.{variable_post}
use Rattle.formula.proofs.sets.set_token.Goals as goal

pub returns-then-n-gt0 : goal.returns-then-n-gt0
returns-then-n-gt0 c =
    let pre = c.requires in
    λ m sh. variable_post c.args.filled pre.0 pre.1 pre.2 c.if-n-gt0.true c.list_variable.ensures m (sh ∙ c.in-Natural.is)
