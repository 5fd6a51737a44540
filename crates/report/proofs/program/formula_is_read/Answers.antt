-- `formula_is_read` answers by what settling answered. Assumes nothing.
use Rattle.std.specs.Prelude.{ℤ, pos}
use Rattle.std.proofs.Common.{sym, ◌∙◌}
use lib.ListN.{length-replicate}
use Rattle.report.specs.Program.Laws.{settled_tells}
use Rattle.report.proofs.program.formula_is_read.Goals as goal

pub returns : goal.returns
returns c =
    c.is_ok.ensures.value
    ∙ sym (settled_tells (length-replicate {0} {A = ℤ} 3072 (pos 0)) (length-replicate {0} {A = ℤ} 16384 (pos 0)) c.settle_formula.ensures)
