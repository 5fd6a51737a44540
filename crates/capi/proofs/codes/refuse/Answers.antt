-- `refuse` tells the numbers of its reason. Assumes nothing.
use mathlib.Core.Path.{refl, sym, ◌∙◌}
use Rattle.capi.proofs.codes.refuse.Goals as goal

pub returns-in-Alone : goal.returns-in-Alone
returns-in-Alone c =
    let alone = c in
    rw (sym alone.numbers.ensures ∙ alone.in-Alone.is) (record { returns_code = refl; fills_out = c.fill.ensures })

pub returns-in-Blocked : goal.returns-in-Blocked
returns-in-Blocked c =
    let blocked = c in
    rw (sym blocked.numbers.ensures ∙ blocked.in-Blocked.is) (record { returns_code = refl; fills_out = c.fill-in-Blocked.ensures })
