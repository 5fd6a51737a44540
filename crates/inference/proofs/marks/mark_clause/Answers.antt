-- `mark_clause`: marking what is left of the clause gives the same marks and tells the same. Assumes nothing.
use mathlib.Core.Path.{◌≡◌}
use borrow.Author.Rules.{rules}
use mir.Syntax.{w32}
use mir.Val.{to_z, of_z}
use mir.Facts.{to_z-of_z}
use Rattle.formula.specs.Decode.{clause_at}
use Rattle.formula.specs.Decode.Places.{clause_past}
use Rattle.inference.specs.Marks.Laws.{head_in_range, tail_in_range, mark_turns, mark_ends}
use Rattle.inference.proofs.Signed.{read_close, read_literal}
use Rattle.inference.proofs.marks.mark_clause.Goals as goal

pub returns-then-is_zero : goal.returns-then-is_zero
returns-then-is_zero c =
    let e : to_z w32 (of_z w32 c.args.except) ≡ c.args.except = to_z-of_z c.ranges.except in
    let d = read_close c.words_from-rest.result.now c.loop-word.word-index c.loop-word-test.true (search rules) c.is_zero.ensures c.if-is_zero.true in
    mark_ends _ _ _ _ _ _ d (rw e at c.loop-word.invariant.0)

pub mark_word-told-requires : goal.mark_word-told-requires
mark_word-told-requires c =
    let d = read_literal c.words_from-rest.result.now c.loop-word.word-index c.loop-word-test.true (search rules) c.is_zero.ensures c.if-is_zero.false in
    rw d.1 (head_in_range _ _ _ d.0 c.loop-word.invariant.1)

pub loop-word-preserved : goal.loop-word-preserved
loop-word-preserved c =
    let d = read_literal c.words_from-rest.result.now c.loop-word.word-index c.loop-word-test.true (search rules) c.is_zero.ensures c.if-is_zero.false in
    (mark_turns _ _ _ c.loop-word.told (to_z w32 (of_z w32 c.args.except)) _ _ _ _ _ d.0 (rw d.1 at c.mark_word-told.ensures) c.loop-word.invariant.0, tail_in_range _ _ _ d.0 c.loop-word.invariant.1)

pub returns : goal.returns
returns c =
    let rest = c.words_from-rest.result.now in
    let i = c.loop-word.word-index in
    let e : to_z w32 (of_z w32 c.args.except) ≡ c.args.except = to_z-of_z c.ranges.except in
    mark_ends _ _ _ _ _ (clause_at rest i) (clause_past rest i c.loop-word-test.false) (rw e at c.loop-word.invariant.0)
