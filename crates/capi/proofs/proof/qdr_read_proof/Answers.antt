-- `qdr_read_proof` tells the step words, or the refusal. Assumes nothing.
use Rattle.capi.proofs.proof.qdr_read_proof.Goals as goal

pub returns-in-Ok : goal.returns-in-Ok
returns-in-Ok c =
    let made = c in
    record { answer = made.read_proof.result; promised = made.read_proof.ensures; told = rw c.in-Ok.is c.accept.ensures }

pub returns-in-Err : goal.returns-in-Err
returns-in-Err c =
    let made = c in
    record { answer = made.read_proof.result; promised = made.read_proof.ensures; told = rw c.in-Err.is c.refuse.ensures }
