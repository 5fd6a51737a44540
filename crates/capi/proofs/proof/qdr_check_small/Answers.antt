-- `qdr_check_small` tells the verdict. Assumes nothing.
use Rattle.capi.proofs.proof.qdr_check_small.Goals as goal

pub returns : goal.returns
returns c =
    let made = c in
    record { answer = made.check_proof_small.result; promised = made.check_proof_small.ensures; told = c.tell_verdict.ensures }
