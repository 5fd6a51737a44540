-- `any_word`: what is left of the clause tells what the whole does. Assumes nothing.
use borrow.Author.Rules.{rules}
use Rattle.formula.specs.Decode.Places.{clause_past}
use Rattle.inference.specs.Words.Laws.{tells_ends, tells_here, tells_stops, tells_turns}
use Rattle.inference.proofs.Signed.{read_close, read_literal}
use Rattle.inference.proofs.clause.any_word.Goals as goal

pub returns-then-is_zero : goal.returns-then-is_zero
returns-then-is_zero g c =
    let d = read_close c.words_from-rest.result.now c.loop-word.word-index c.loop-word-test.true (search rules) c.is_zero.ensures c.if-is_zero.true in
    tells_ends _ _ _ c.loop-word.invariant d

pub test-requires : goal.test-requires
test-requires g c =
    let d = read_literal c.words_from-rest.result.now c.loop-word.word-index c.loop-word-test.true (search rules) c.is_zero.ensures c.if-is_zero.false in
    rw d.1 (c.requires _ (tells_here _ _ _ c.loop-word.invariant _ _ d.0))

pub returns-then-test : goal.returns-then-test
returns-then-test g c =
    let d = read_literal c.words_from-rest.result.now c.loop-word.word-index c.loop-word-test.true (search rules) c.is_zero.ensures c.if-is_zero.false in
    tells_stops _ _ _ c.loop-word.invariant _ _ d.0 (rw (d.1, c.if-test.true) at c.test.ensures)

pub loop-word-preserved : goal.loop-word-preserved
loop-word-preserved g c =
    let d = read_literal c.words_from-rest.result.now c.loop-word.word-index c.loop-word-test.true (search rules) c.is_zero.ensures c.if-is_zero.false in
    tells_turns _ _ _ c.loop-word.invariant _ _ d.0 (rw (d.1, c.if-test.false) at c.test.ensures)

pub returns : goal.returns
returns g c = tells_ends _ _ _ c.loop-word.invariant (clause_past c.words_from-rest.result.now c.loop-word.word-index c.loop-word-test.false)
