-- `judge_literal` answers by its tests, whose order is that of the refusals. Assumes nothing.
use Prim.Native.Nat.{◌≤◌}
use mathlib.Core.Bool.{and-false}
use native.Mathlib.Omega.{arith}
use borrow.Author.Tests.{lt-ltb, le-ltb, le-leb, lt-leb}
use Rattle.formula.specs.Text.{literal_reason}
use Rattle.formula.proofs.clauses.judge_literal.Goals as goal

pub returns-then-n-lt1 : goal.returns-then-n-lt1
unfolding literal_reason
returns-then-n-lt1 c = let none : c.args.n ≤ 0 = omega (arith, c.if-n-lt1.true) in simp (le-ltb 0 _ none)

pub returns-then-variables-n : goal.returns-then-variables-n
unfolding literal_reason
returns-then-variables-n c = simp (lt-leb _ _ c.if-variables-n.true, and-false)

pub returns-then-used-ge-MATRIX_WORDS : goal.returns-then-used-ge-MATRIX_WORDS
unfolding literal_reason
returns-then-used-ge-MATRIX_WORDS c = simp (lt-ltb 0 _ c.if-n-lt1.false, le-leb _ _ c.if-variables-n.false, le-ltb _ _ c.if-used-ge-MATRIX_WORDS.true)

pub returns-then-clash : goal.returns-then-clash
unfolding literal_reason
returns-then-clash c = simp (lt-ltb 0 _ c.if-n-lt1.false, le-leb _ _ c.if-variables-n.false, lt-ltb _ _ c.if-used-ge-MATRIX_WORDS.false, c.if-clash.true)

pub returns-then-room-used : goal.returns-then-room-used
unfolding literal_reason
returns-then-room-used c = simp (lt-ltb 0 _ c.if-n-lt1.false, le-leb _ _ c.if-variables-n.false, lt-ltb _ _ c.if-used-ge-MATRIX_WORDS.false, c.if-clash.false, le-ltb _ _ c.if-room-used.true)

pub returns : goal.returns
unfolding literal_reason
returns c = simp (lt-ltb 0 _ c.if-n-lt1.false, le-leb _ _ c.if-variables-n.false, lt-ltb _ _ c.if-used-ge-MATRIX_WORDS.false, c.if-clash.false, lt-ltb _ _ c.if-room-used.false)
