-- `evaluate` hands on the tables' refusal, and plays what they let pass. Assumes nothing.
use Rattle.std.proofs.Common.{sym, ◌∙◌}
use Rattle.std.proofs.lemmas.Result.{err_from_is_err_and}
use Rattle.formula.proofs.Theorems.Tables.Laws.{answer_refused}
use Rattle.evaluator.specs.Evaluation.{evaluation_of}
use Rattle.evaluator.proofs.evaluation.evaluate.Goals as goal

pub returns-in_err-check_tables : goal.returns-in_err-check_tables
unfolding evaluation_of
returns-in_err-check_tables c =
    let a = c.args in
    let x = err_from_is_err_and c.from_residual.result c.from_residual.ensures.1 in
    rw (x.1, x.2, answer_refused a.prefix.now a.clauses.now _ (sym c.check_tables.ensures ∙ c.in_err-check_tables.was))
