-- `qdr_write` tells the bytes used, or the refusal. Assumes nothing.
use Rattle.capi.proofs.text.qdr_write.Goals as goal

pub returns-in-Ok : goal.returns-in-Ok
returns-in-Ok c =
    let made = c in
    record { answer = made.write_formula.result; promised = made.write_formula.ensures; told = rw c.in-Ok.is c.accept.ensures }

pub returns-in-Err : goal.returns-in-Err
returns-in-Err c =
    let made = c in
    record { answer = made.write_formula.result; promised = made.write_formula.ensures; told = rw c.in-Err.is c.refuse.ensures }
