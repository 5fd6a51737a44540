-- `literal_true` goes by the variable's value and the word's sign. Assumes nothing.
use Prim.Native.Nat.{ℕ, suc}
use mathlib.Core.Path.{◌≡◌, refl}
use mathlib.Core.Bool.{Bool, true, false, not, beq}
use borrow.Author.Tests.{ltb-true}
use native.Mathlib.Omega.{arith}
use lib.Dec.{eqb}
use lib.IntN.{ℤ, pos, negsuc, nat_abs}
use lib.ListN.{get_or}
use lib.Signed.{lt_z}
use mir.Syntax.{w32}
use mir.Val.{to_z, of_z}
use mir.Facts.{to_z-of_z}
use mathlib.Core.List.{List}
use Rattle.qbf.specs.Play.{true_literal}
use Rattle.formula.specs.Decode.{literal_of}
use Rattle.evaluator.specs.Values.{values_of}
use Rattle.evaluator.proofs.clause.literal_true.Goals as goal

beq_true : (b : Bool) → b ≡ beq b true
beq_true true = refl
beq_true false = refl

beq_false : (b : Bool) → not b ≡ beq b false
beq_false true = refl
beq_false false = refl

positive_true : (vs : List ℕ) (z : ℤ) → lt_z z (pos 0) ≡ false → eqb (get_or vs (nat_abs z) 0) 1 ≡ true_literal (values_of vs) (literal_of z)
unfolding values_of
positive_true vs (pos n) e = beq_true (eqb (get_or vs n 0) 1)
positive_true vs (negsuc n) e = let z : ◌≡◌ {A = ℕ} 0 1 = cc in absurd (omega arith)

negative_true : (vs : List ℕ) (z : ℤ) → lt_z z (pos 0) ≡ true → not (eqb (get_or vs (nat_abs z) 0) 1) ≡ true_literal (values_of vs) (literal_of z)
unfolding values_of
negative_true vs (pos n) e = absurd (omega (arith, ltb-true n 0 e))
negative_true vs (negsuc n) e = beq_false (eqb (get_or vs (suc n) 0) 1)

pub returns-then-word-lt0 : goal.returns-then-word-lt0
returns-then-word-lt0 c =
    let s = c in
    let e : to_z w32 (of_z w32 s.args.word) ≡ s.args.word = to_z-of_z s.ranges.word in
    rw (c.value-b.ensures, c.unsigned_abs.ensures.value, e)
    (negative_true s.args.values.now s.args.word (rw e at c.if-word-lt0.true))

pub returns-else-word-lt0 : goal.returns-else-word-lt0
returns-else-word-lt0 c =
    let s = c in
    let e : to_z w32 (of_z w32 s.args.word) ≡ s.args.word = to_z-of_z s.ranges.word in
    rw (c.value-b.ensures, c.unsigned_abs.ensures.value, e)
    (positive_true s.args.values.now s.args.word (rw e at c.if-word-lt0.false))
