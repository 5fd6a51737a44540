-- `copy_words`: the words copied so far and those of the bytes that are left make all the words. Assumes nothing.
use Prim.Native.Nat.{◌*◌}
use mathlib.Core.Path.{◌≡◌, ap, ◌∙◌}
use native.Mathlib.Omega.{arith}
use borrow.Author.Rules.{rules}
use lib.ListN.{length-set}
use lib.Seq.{drop-set-lt}
use mir.Syntax.{w32}
use mir.Val.{to_z, of_z}
use Rattle.prooffile.specs.File.{number_at}
use Rattle.prooffile.specs.File.Laws.{copy_step, copy_end}
use Rattle.prooffile.proofs.file.copy_words.Goals as goal

pub loop-i-preserved : goal.loop-i-preserved
loop-i-preserved c =
    let l = c.loop-i in
    let s = c.args in
    let w : to_z w32 (of_z w32 c.cast_signed.result) ≡ c.cast_signed.result = search rules in
    let v : to_z w32 (of_z w32 c.cast_signed.result) ≡ to_z w32 (number_at s.bytes.now (4 * l.i)) = w ∙ c.cast_signed.ensures ∙ ap (to_z w32) c.number_at.ensures in (
      simp length-set l.invariant.0,
      drop-set-lt s.n l.steps l.i _ c.loop-i-test.true ∙ l.invariant.1,
      rw v (copy_step s.bytes.now l.steps l.i (omega arith) (omega arith) l.invariant.2),
    )

pub returns : goal.returns
returns c =
    let l = c.loop-i in
    let s = c.args in
    let e : l.i ≡ s.n = omega arith in
    copy_end s.bytes.now s.n l.steps s.steps.now (search rules) (rw e at l.invariant.2) l.invariant.1
