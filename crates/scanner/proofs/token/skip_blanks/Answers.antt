-- `skip_blanks` passes blanks one by one. Assumes nothing.
use mathlib.Core.Path.{sym, ◌∙◌}
use native.Mathlib.Omega.{arith}
use Rattle.scanner.proofs.Theorems.Position.Laws.{past_in, small_in}
use Rattle.scanner.proofs.Theorems.Token.Laws.{blank_passed}
use Rattle.scanner.proofs.token.skip_blanks.Goals as goal

pub past-at-requires : goal.past-at-requires
past-at-requires c =
    let l = c.before.before.before.before.before.loop-at in
    let s = small_in _ l.at l.invariant.0 c.before.before.before.before.before.before.before.requires.1 in
    (omega (arith, s.0), omega (arith, s.1), omega (arith, s.2))

pub loop-at-preserved : goal.loop-at-preserved
loop-at-preserved c =
    let l = c.before.before.before.before.before.before.loop-at in
    let text = c.before.before.before.before.before.before.before.before.args.text.now in
    let h = c.before.before.before.before.loop-at-test.true in
    rw c.past-at.ensures (past_in text l.at l.invariant.0 h, l.invariant.1 ∙ blank_passed text l.at.place h (sym c.before.before.is_blank.ensures ∙ c.before.if-is_blank.true))
