-- `tick`: ticking what is left of the clause gives the same marks and tells the same. Assumes nothing.
use borrow.Author.Rules.{rules}
use Rattle.formula.specs.Decode.{clause_at}
use Rattle.formula.specs.Decode.Places.{clause_past}
use Rattle.inference.specs.Marks.{marks_in}
use Rattle.inference.specs.Marks.Laws.{tick_turns, tick_stops, tick_ends}
use Rattle.inference.proofs.Signed.{read_close, read_literal}
use Rattle.inference.proofs.marks.tick.Goals as goal

pub returns-then-is_zero : goal.returns-then-is_zero
returns-then-is_zero c =
    let d = read_close c.words_from-rest.result.now c.loop-word.word-index c.loop-word-test.true (search rules) c.is_zero.ensures c.if-is_zero.true in
    tick_ends _ _ _ _ d c.loop-word.invariant

pub returns-then-not-tick_word : goal.returns-then-not-tick_word
returns-then-not-tick_word c =
    let d = read_literal c.words_from-rest.result.now c.loop-word.word-index c.loop-word-test.true (search rules) c.is_zero.ensures c.if-is_zero.false in
    tick_stops _ _ (marks_in c.loop-word.marks) _ _ _ _ d.0 (rw (d.1, c.if-not-tick_word.true) at c.tick_word.ensures) c.loop-word.invariant

pub loop-word-preserved : goal.loop-word-preserved
loop-word-preserved c =
    let d = read_literal c.words_from-rest.result.now c.loop-word.word-index c.loop-word-test.true (search rules) c.is_zero.ensures c.if-is_zero.false in
    tick_turns _ _ (marks_in c.loop-word.marks) _ _ _ _ d.0 (rw (d.1, c.if-not-tick_word.false) at c.tick_word.ensures) c.loop-word.invariant

pub returns : goal.returns
returns c =
    let rest = c.words_from-rest.result.now in
    let i = c.loop-word.word-index in
    tick_ends _ _ (marks_in c.loop-word.marks) (clause_at rest i) (clause_past rest i c.loop-word-test.false) c.loop-word.invariant
