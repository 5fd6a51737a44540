-- `fill_row` stores the row's flags from the left: those stored are the row's, and the others stay. Assumes nothing.
use Prim.Native.Nat.{suc, ◌+◌, ◌<◌}
use mathlib.Core.Path.{◌≡◌, ap, ◌∙◌}
use mathlib.Core.Bool.{Bool}
use native.Mathlib.Omega.{arith}
use borrow.Author.Rules.{rules}
use lib.ListN.{set}
use Rattle.bits.specs.Flags.{flags, flag}
use Rattle.dependency.specs.Bits.Words.{length_own}
use Rattle.dependency.specs.Bits.Row.{row_step}
use Rattle.dependency.proofs.row.fill_row.Goals as goal

pub loop-v-preserved : goal.loop-v-preserved
loop-v-preserved c =
    let l = c.loop-v in
    let h : l.v < 1024 = c.loop-v-test.true in
    let at : 2047 + 1 + l.v ≡ 2048 + l.v = omega arith in
    let e = c.put.ensures ∙ ap (λ (b : Bool). set (flags l.work) (2048 + l.v) (flag b)) c.depends_at-depends.ensures in
    let n : l.v + 1 ≡ suc l.v = omega arith in
    rw (e, n) (row_step _ (flags l.work) l.v h (length_own l.work (search rules)) l.invariant)
