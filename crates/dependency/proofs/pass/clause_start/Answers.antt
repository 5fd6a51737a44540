-- `clause_start` goes back over the clause's literals: the words after the clause from here on are those from its end on. Assumes nothing.
use Prim.Native.Nat.{suc, ◌-◌, ◌<◌}
use mathlib.Core.Path.{◌≡◌, sym, ◌∙◌}
use native.Mathlib.Omega.{arith}
use borrow.Author.Rules.{rules}
use lib.IntN.{pos}
use lib.ListN.{length, get_or}
use mir.Syntax.{w32}
use mir.Val.{to_z, of_z}
use Rattle.dependency.specs.Marks.Places.{boundary_zero, literal_before}
use Rattle.dependency.proofs.pass.clause_start.Goals as goal

pub returns-then-is_zero : goal.returns-then-is_zero
returns-then-is_zero c =
    let l = c.loop-i in
    let ws = c.args.clauses.now in
    let j = l.i - 1 - 1 in
    let w = get_or ws j (pos 0) in
    let e : to_z w32 (of_z w32 w) ≡ w = search rules in
    let place : l.i - 1 ≡ suc j = omega arith in
    let within : j < length ws = omega arith in
    record { before = omega arith; ends = l.invariant.1; boundary = boundary_zero ws (l.i - 1) j place within (sym (rw e at c.is_zero.ensures) ∙ c.if-is_zero.true) }

pub loop-i-preserved : goal.loop-i-preserved
loop-i-preserved c =
    let l = c.loop-i in
    let ws = c.args.clauses.now in
    let j = l.i - 1 - 1 in
    let w = get_or ws j (pos 0) in
    let e : to_z w32 (of_z w32 w) ≡ w = search rules in
    let place : l.i - 1 ≡ suc j = omega arith in
    let within : j < length ws = omega arith in
    (omega arith, literal_before ws (l.i - 1) j place within (sym (rw e at c.is_zero.ensures) ∙ c.if-is_zero.false) ∙ l.invariant.1)
