-- `judge_proof`: the tables first, with marks in the scratch, which keeps its length. Assumes nothing.
use Rattle.std.proofs.Common.{sym, ◌∙◌}
use Rattle.std.proofs.lemmas.Result.{err_from_is_err_and}
use Rattle.formula.proofs.Theorems.Tables.Laws.{answer_admitted, answer_refused}
use Rattle.checker.specs.Verdict.{verdict_of}
use Rattle.checker.proofs.proof.judge_proof.Goals as goal

pub returns-in_err-counts : goal.returns-in_err-counts
unfolding verdict_of
returns-in_err-counts c =
    let x = err_from_is_err_and c.from_residual.result c.from_residual.ensures.1 in
    rw (x.1, x.2, answer_refused c.args.prefix.now c.args.clauses.now _ (sym c.check_tables_in.ensures ∙ c.in_err-counts.was))

pub returns : goal.returns
unfolding verdict_of
returns c =
    let a = answer_admitted c.args.prefix.now c.args.clauses.now _ _ (sym c.check_tables_in.ensures ∙ c.in_ok-counts.was) in
    rw a.0.passes (rw c.check_tables_in.auto.marks at c.judge_sized.ensures)
