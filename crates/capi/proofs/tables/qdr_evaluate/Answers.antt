-- `qdr_evaluate` tells the value of the game, or the refusal. Assumes nothing.
use Rattle.std.specs.Prelude.{◌≡◌, refl, Bool, true, false}
use mir.Val.{bool_byte}
use Rattle.bits.specs.Flags.{flag}
use Rattle.capi.proofs.tables.qdr_evaluate.Goals as goal

-- a test as a number
number : (b : Bool) → bool_byte b ≡ flag b
number true = refl
number false = refl

pub returns-in-Ok : goal.returns-in-Ok
returns-in-Ok c = record { answer = c.evaluate.result; promised = c.evaluate.ensures; told = rw (c.in-Ok.is, ← number c.in-Ok.value) c.accept.ensures }

pub returns-in-Err : goal.returns-in-Err
returns-in-Err c = record { answer = c.evaluate.result; promised = c.evaluate.ensures; told = rw c.in-Err.is c.refuse.ensures }
