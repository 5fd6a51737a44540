-- `settle_formula` goes by the test on the file's length. Assumes nothing.
use Rattle.std.proofs.Common.{sym, ◌∙◌}
use Rattle.report.specs.Settle.Laws.{fit_within, fit_oversized, formula_oversized, formula_read_lem}
use Rattle.report.proofs.settle.settle_formula.Goals as goal

pub returns-in_default : goal.returns-in_default
returns-in_default c =
    rw c.new-in_default.ensures (formula_oversized c.args.bound c.args.file.now _ _ _ _ (fit_oversized _ _ (sym c.new.ensures ∙ c.in_default.is)))

pub returns : goal.returns
returns c = formula_read_lem c.args.bound c.args.file.now _ _ _ _ _ (fit_within _ _ _ (sym c.new.ensures ∙ c.in-Some.is)) c.read_formula.ensures
