-- `qdr_read` tells what was read, or the refusal. Assumes nothing.
use Rattle.capi.proofs.text.qdr_read.Goals as goal

pub returns-in-Ok : goal.returns-in-Ok
returns-in-Ok c =
    let made = c in
    record { answer = made.read_formula.result; promised = made.read_formula.ensures; told = rw c.in-Ok.is c.accept.ensures }

pub returns-in-Err : goal.returns-in-Err
returns-in-Err c =
    let made = c in
    record { answer = made.read_formula.result; promised = made.read_formula.ensures; told = rw c.in-Err.is c.refuse.ensures }
