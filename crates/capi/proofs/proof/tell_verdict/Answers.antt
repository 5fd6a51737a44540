-- `tell_verdict` tells a verdict by its case. Assumes nothing.
use Rattle.capi.proofs.proof.tell_verdict.Goals as goal

pub returns-in-Ok : goal.returns-in-Ok
returns-in-Ok c = rw c.in-Ok.is c.accept.ensures

pub returns-in-Err : goal.returns-in-Err
returns-in-Err c = rw c.in-Err.is c.refuse.ensures
