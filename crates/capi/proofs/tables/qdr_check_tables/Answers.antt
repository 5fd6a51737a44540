-- `qdr_check_tables` tells the variables and the clauses, or the refusal. Assumes nothing.
use Rattle.capi.proofs.tables.qdr_check_tables.Goals as goal

pub returns-in-Ok : goal.returns-in-Ok
returns-in-Ok c =
    let made = c in
    record { answer = made.check_tables.result; promised = made.check_tables.ensures; told = rw c.in-Ok.is c.accept.ensures }

pub returns-in-Err : goal.returns-in-Err
returns-in-Err c =
    let made = c in
    record { answer = made.check_tables.result; promised = made.check_tables.ensures; told = rw c.in-Err.is c.refuse.ensures }
