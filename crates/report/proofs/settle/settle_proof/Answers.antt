-- `settle_proof` goes by the test on the file's length. Assumes nothing.
use Rattle.std.proofs.Common.{sym, ◌∙◌}
use Rattle.report.specs.Settle.Laws.{fit_within, fit_oversized, proof_oversized, proof_read}
use Rattle.report.proofs.settle.settle_proof.Goals as goal

pub returns-in_default : goal.returns-in_default
returns-in_default c =
    rw c.new-in_default.ensures (proof_oversized c.args.bound c.args.file.now _ _ _ (fit_oversized _ _ (sym c.new.ensures ∙ c.in_default.is)))

pub returns : goal.returns
returns c = proof_read c.args.bound c.args.file.now _ _ _ _ (fit_within _ _ _ (sym c.new.ensures ∙ c.in-Some.is)) c.read_proof.ensures
