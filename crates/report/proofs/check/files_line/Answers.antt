-- `files_line` settles the formula's file; a refusal is printed, and the proof file looked at only where there is none.
-- Assumes nothing.
use Rattle.report.specs.Check.Laws.{refused_line_lem, read_line}
use Rattle.report.specs.Settle.Laws.{formula_settled_read, formula_settled_refused}
use Rattle.report.specs.Printing.Laws.{stores_instead}
use Rattle.report.proofs.check.files_line.Goals as goal

pub returns-in-Err : goal.returns-in-Err
returns-in-Err c =
    stores_instead
    (refused_line_lem _ _ _ _ (formula_settled_refused c.settle_formula.ensures c.in-Err.is))
    c.refused_line.ensures

pub returns-in-Ok : goal.returns-in-Ok
returns-in-Ok c =
    stores_instead
    (read_line _ _ _ _ _ _ (formula_settled_read c.settle_formula.ensures c.in-Ok.is))
    c.proof_line.ensures
