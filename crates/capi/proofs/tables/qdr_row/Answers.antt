-- `qdr_row` tells that the row is filled, or the refusal; the variable's word is read back from its bits. Assumes nothing.
use mathlib.Core.Path.{◌≡◌}
use mir.Syntax.{w32}
use mir.Val.{to_z, of_z}
use borrow.Author.Rules.{rules}
use Rattle.capi.proofs.tables.qdr_row.Goals as goal

pub returns : goal.returns
returns c =
    let made = c in
    let v = made.args.variable in
    let e : to_z w32 (of_z w32 v) ≡ v = search rules in
    record { answer = made.dependency_row.result; promised = rw e at made.dependency_row.ensures; told = c.tell_row.ensures }
