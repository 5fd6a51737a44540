-- `statement_of` by the kind word, of either family. Assumes nothing.
use Rattle.std.specs.Prelude.{get_or, pos}
use Rattle.std.proofs.Common.{ap, sym, ◌∙◌, rules}
use Rattle.inference.specs.Read.{kind_read, any_kind}
use Rattle.inference.specs.Read.Laws.{statement_kind, statement_none}
use Rattle.inference.proofs.Signed.{read_back}
use Rattle.inference.proofs.read.statement_of.Goals as goal

pub returns-in-Some : goal.returns-in-Some
returns-in-Some c =
    let s = c.args in
    let w = ap (λ w. kind_read (any_kind w)) (read_back (get_or s.steps.now s.at (pos 0)) (search rules)) in
    c.statement_by.ensures ∙ statement_kind s.steps.now s.at c.in-Some.kind (sym c.in-Some.is ∙ c.any_kind.ensures ∙ w)

pub returns-in-None : goal.returns-in-None
returns-in-None c =
    let s = c.args in
    let w = ap (λ w. kind_read (any_kind w)) (read_back (get_or s.steps.now s.at (pos 0)) (search rules)) in
    sym (statement_none s.steps.now s.at (sym c.in-None.is ∙ c.any_kind.ensures ∙ w))
