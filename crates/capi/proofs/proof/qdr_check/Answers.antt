-- `qdr_check` tells the verdict. Assumes nothing.
use Rattle.capi.proofs.proof.qdr_check.Goals as goal

pub returns : goal.returns
returns c =
    let made = c in
    record { answer = made.check_proof.result; promised = made.check_proof.ensures; told = c.tell_verdict.ensures }
