-- `proof_line` settles the proof file; a refusal is printed, steps are judged. Assumes nothing.
use mathlib.Core.Path.{ap}
use Rattle.report.specs.Check.{steps_line}
use Rattle.report.specs.Settle.Laws.{proof_settled_read, proof_settled_refused}
use Rattle.report.specs.Printing.Laws.{stores_instead}
use Rattle.report.proofs.check.proof_line.Goals as goal

pub returns-in-Err : goal.returns-in-Err
unfolding steps_line
returns-in-Err c =
    stores_instead
    (ap (steps_line _ _ _ _ _) (proof_settled_refused c.settle_proof.ensures c.in-Err.is))
    c.refused_line.ensures

pub returns-in-Ok : goal.returns-in-Ok
unfolding steps_line
returns-in-Ok c =
    stores_instead
    (ap (steps_line _ _ _ _ _) (proof_settled_read c.settle_proof.ensures c.in-Ok.is))
    c.judged_line.ensures
