-- `check_step` reads the step, asks for room and judges it. Assumes nothing.
use Rattle.std.proofs.Common.{sym, ◌∙◌}
use Rattle.std.proofs.lemmas.Result.{err_from_is_err_and}
use Rattle.checker.specs.Step.Laws.{none_kept, told_no_room, told_wrong, told_right}
use Rattle.checker.proofs.step.check_step.Goals as goal

pub returns-then-offsets-numbered : goal.returns-then-offsets-numbered
returns-then-offsets-numbered c =
    let a = c.args in
    record {
      answer = told_no_room a.tables.prefix.now a.tables.clauses.now a.steps.now a.offsets.now a.inputs a.numbered a.at a.kept a.family c.in-Some.step (sym c.in-Some.is ∙ c.read_step.ensures) c.if-offsets-numbered.true;
      ready = none_kept a.tables.prefix.now a.tables.clauses.now a.scratch.now c.requires.kept_ready.ready;
    }

pub returns-in_err-judge_step : goal.returns-in_err-judge_step
returns-in_err-judge_step c =
    let a = c.args in
    let x = err_from_is_err_and c.from_residual.result c.from_residual.ensures.1 in
    rw (x.1, x.2)
    (record {
      answer =
          told_wrong a.tables.prefix.now a.tables.clauses.now a.steps.now a.offsets.now a.inputs a.numbered a.at a.kept a.family c.in-Some.step (sym c.in-Some.is ∙ c.read_step.ensures) c.requires.at_in_bounds
          c.if-offsets-numbered.false c.judge_step.ensures.answer c.in_err-judge_step.was;
      ready = rw c.in_err-judge_step.was at c.judge_step.ensures.ready;
    })

pub returns : goal.returns
returns c =
    let a = c.args in
    rw (c.kept_after.ensures, c.is_empty.ensures)
    (record {
      answer =
          told_right a.tables.prefix.now a.tables.clauses.now a.steps.now a.offsets.now a.inputs a.numbered a.at a.kept a.family c.in-Some.step (sym c.in-Some.is ∙ c.read_step.ensures) c.requires.at_in_bounds
          c.if-offsets-numbered.false c.judge_step.ensures.answer c.in_ok-judge_step.was;
      ready = rw c.in_ok-judge_step.was at c.judge_step.ensures.ready;
    })
