-- `row_answer` answers with the tables' refusal, or by what comes after it. Assumes nothing.
use Rattle.std.specs.Prelude.{◌≡◌, ℕ}
use Rattle.std.proofs.Common.{ap, sym, ◌∙◌, rules, to_z}
use Rattle.std.proofs.lemmas.Result.{err_from_is_err_and}
use mir.Syntax.{w32}
use mir.Val.{of_z}
use Rattle.formula.specs.Prefix.{prefix_of}
use Rattle.formula.proofs.Theorems.Tables.Laws.{answer_admitted, answer_refused, admitted_entries}
use Rattle.dependency.specs.Answer.{row_refusal, asked_refusal, asked_for}
use Rattle.dependency.proofs.answer.row_answer.Goals as goal

pub invariant_of-entries : goal.invariant_of-entries
invariant_of-entries c =
    let a = c.args in
    record { entries = admitted_entries a.prefix.now a.clauses.now (answer_admitted a.prefix.now a.clauses.now _ _ (sym c.check_tables_in.ensures ∙ c.in_ok-check_tables_in.was)).0 }

pub returns-in_err-check_tables_in : goal.returns-in_err-check_tables_in
unfolding row_refusal
returns-in_err-check_tables_in c =
    let a = c.args in
    let x = err_from_is_err_and c.from_residual.result c.from_residual.ensures.1 in
    rw (x.1, x.2, answer_refused a.prefix.now a.clauses.now _ (sym c.check_tables_in.ensures ∙ c.in_err-check_tables_in.was))

pub returns : goal.returns
unfolding row_refusal
returns c =
    let a = c.args in
    let w = a.variable in
    let e : to_z w32 (of_z w32 w) ≡ w = search rules in
    rw (answer_admitted a.prefix.now a.clauses.now _ _ (sym c.check_tables_in.ensures ∙ c.in_ok-check_tables_in.was)).0.passes
    ((rw e at c.asked_answer.ensures) ∙ ap (λ (n : ℕ). asked_for (asked_refusal a.bytes (prefix_of a.prefix.now) w a.row n) w) c.check_tables_in.auto.marks)
