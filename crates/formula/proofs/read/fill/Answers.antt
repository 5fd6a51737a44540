-- `fill` asks for the length, then reads the header and the rest. Assumes nothing.
use Rattle.std.specs.Prelude.{length}
use Rattle.std.proofs.Common.{sym, ◌∙◌}
use Rattle.std.proofs.lemmas.Result.{err_from_is_err_and}
use Rattle.formula.specs.Bounds.Laws.{within_bound, above_bound}
use Rattle.formula.proofs.Theorems.Text.Fill.Laws.{reading_from_lem, reading_long}
use Rattle.formula.proofs.read.fill.Goals as goal

pub returns-in_default : goal.returns-in_default
returns-in_default c = rw c.new-in_default.ensures (reading_long c.args.text.now _ _ (above_bound _ (sym c.new.ensures ∙ c.in_default.is)))

pub returns-in_err-header : goal.returns-in_err-header
returns-in_err-header c =
    let short = (within_bound _ _ (sym c.new.ensures ∙ c.in-Some.is)).0 in
    let post = rw c.in_err-header.was at c.read_header.ensures in
    let x = err_from_is_err_and c.from_residual.result c.from_residual.ensures.1 in
    rw (x.1, x.2) (reading_from_lem c.args.text.now _ _ short ∙ post _ _)

pub returns : goal.returns
returns c =
    let a = c.args in
    let short = (within_bound _ _ (sym c.new.ensures ∙ c.in-Some.is)).0 in
    let post = rw c.in_ok-header.was at c.read_header.ensures in
    rw (reading_from_lem a.text.now (length a.prefix.now) (length a.clauses.now) short ∙ post.0 (length a.prefix.now) (length a.clauses.now)) c.fill_tables.ensures
