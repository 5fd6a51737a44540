-- `copy_row`: the bytes written so far stand before what the row's buffer still holds. Assumes nothing.
use Prim.Native.Nat.{◌<◌}
use mathlib.Core.Path.{◌≡◌, refl, ap, ◌∙◌}
use mathlib.Core.List.{List}
use native.Mathlib.Numerals.{add-one}
use native.Mathlib.Omega.{arith}
use borrow.Author.Rules.{rules}
use lib.ListN.{length, set, length-set}
use Rattle.dependency.specs.Scratch.{row_in}
use Rattle.dependency.specs.Answer.{asked_byte, asked_bytes}
use Rattle.dependency.specs.Answer.Laws.{asked_step}
use Rattle.dependency.proofs.answer.copy_row.Goals as goal

pub loop-i-init : goal.loop-i-init
unfolding asked_bytes
loop-i-init c = (refl, refl)

pub loop-i-preserved : goal.loop-i-preserved
loop-i-preserved c =
    let l = c.loop-i in
    let R = row_in c.args.made.now in
    let h : l.i < length c.args.row.now = omega (arith, c.requires) in (
      rw (add-one, c.from.ensures, c.depends_in.ensures) (ap (λ (r : List _). set r l.i (asked_byte R l.i)) l.invariant.0 ∙ asked_step R c.args.row.now l.i h),
      simp length-set l.invariant.1,
    )

pub returns : goal.returns
returns c =
    let l = c.loop-i in
    let z : l.i ≡ 1025 = search rules in
    rw z at l.invariant.0
