-- `judge_step` by the kind. Assumes nothing.
use Rattle.inference.specs.Known.{known_in}
use Rattle.checker.specs.Step.Laws.{resolution_answers}
use Rattle.checker.proofs.step.judge_step.Goals as goal

pub returns-in-Resolution : goal.returns-in-Resolution
returns-in-Resolution c =
    rw c.in-Resolution.is
    (resolution_answers c.args.tables.prefix.now c.args.tables.clauses.now c.args.tables.admitted c.args.kept c.args.scratch.now c.requires (known_in c.args.known) _ _ c.args.step.family c.args.step.first c.args.step.second _ _ (rw c.entries.ensures at c.check_resolution.ensures))
