-- `read_digits` reads a run byte by byte; each need is one law of Token.Numbers. Assumes nothing.
use mathlib.Core.Path.{sym, ◌∙◌}
use Rattle.scanner.proofs.Theorems.Token.Laws.{solid_blank, solid_end}
use Rattle.scanner.proofs.Theorems.Token.Numbers.{digits_begin, digits_more, digits_end}
use Rattle.scanner.proofs.token.read_digits.Goals as goal

pub loop-read-init : goal.loop-read-init
loop-read-init c = digits_begin c.before.args.text.now c.before.args.from c.before.requires.0

pub returns-then-is_blank : goal.returns-then-is_blank
returns-then-is_blank c =
    let l = c.before.before.before.before.before.loop-read in
    let text = c.before.before.before.before.before.before.before.args.text.now in
    digits_end text _ l.read l.invariant (solid_blank text l.read.end c.before.before.before.loop-read-test.true (sym c.before.is_blank.ensures ∙ c.if-is_blank.true))

pub loop-read-preserved : goal.loop-read-preserved
loop-read-preserved c =
    let l = c.before.before.before.before.before.before.loop-read in
    let text = c.before.before.before.before.before.before.before.before.args.text.now in
    rw c.more_digits-read.ensures (digits_more text _ l.read l.invariant c.before.before.before.before.loop-read-test.true (sym c.before.before.is_blank.ensures ∙ c.before.if-is_blank.false))

pub returns : goal.returns
returns c =
    let l = c.before.before.loop-read in
    let text = c.before.before.before.before.args.text.now in
    digits_end text _ l.read l.invariant (solid_end text l.read.end c.loop-read-test.false)
