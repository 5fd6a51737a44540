-- `clause_token` answers by the token: each need is one law of Text.Clauses. Assumes nothing.
use mathlib.Core.Path.{◌∙◌}
use Rattle.formula.proofs.Theorems.Text.Clauses.Laws.{natural_post, negative_post, closing_post}
use borrow.Author.Rules.{rules}
use Rattle.formula.proofs.clauses.clause_token.Goals as goal

pub returns-then-n-eq0 : goal.returns-then-n-eq0
returns-then-n-eq0 c =
    let pre = c.requires in
    λ m sh. closing_post pre.2 (search rules) c.close_clause.ensures c.if-n-eq0.true m (sh ∙ c.in-Natural.is)

pub returns-else-n-eq0 : goal.returns-else-n-eq0
returns-else-n-eq0 c =
    let pre = c.requires in
    λ m sh. natural_post pre.0 pre.2 (search rules) c.if-n-eq0.false c.put_literal.ensures m (sh ∙ c.in-Natural.is)

pub returns-in-Negative : goal.returns-in-Negative
returns-in-Negative c =
    let pre = c.requires in
    λ m sh. negative_post pre.0 pre.2 (search rules) c.put_literal-in-Negative.ensures m (sh ∙ c.in-Negative.is)
