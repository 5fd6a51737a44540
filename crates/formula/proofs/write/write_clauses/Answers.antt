-- `write_clauses` stores the words one by one: what is left to store is the text of the words that the loop has not passed.
-- Assumes nothing.
use Rattle.std.proofs.Common.{◌≡◌, suc, pos, drop, get_or, w32, to_z, of_z, rules, add-one}
use Rattle.std.proofs.Math.ListN.{drop_of_length-le}
use Rattle.formula.specs.Store.Laws.{remains_less, remains_none, below_first, below_remains}
use Rattle.formula.specs.Write.Stream.{word_text, clauses_text}
use Rattle.formula.specs.Write.Laws.{clauses_text_drop}
use Rattle.formula.proofs.write.write_clauses.Goals as goal

pub write_word-next-requires-clause-place_fits : goal.write_word-next-requires-clause-place_fits
write_word-next-requires-clause-place_fits c =
    let ws = c.args.clauses.now in
    let l = c.loop-word in
    let w = get_or ws l.word-index (pos 0) in
    let e : to_z w32 (of_z w32 w) ≡ w = search rules in
    rw e
    (below_first l.next (word_text w) (clauses_text (drop (suc l.word-index) ws))
    (rw (clauses_text_drop l.word-index ws c.loop-word-test.true) at (below_remains c.requires.place_fits l.invariant)))

pub loop-word-preserved : goal.loop-word-preserved
loop-word-preserved c =
    let ws = c.args.clauses.now in
    let l = c.loop-word in
    let w = get_or ws l.word-index (pos 0) in
    let e : to_z w32 (of_z w32 w) ≡ w = search rules in
    rw add-one
    (remains_less (clauses_text (drop (suc l.word-index) ws)) (rw (clauses_text_drop l.word-index ws c.loop-word-test.true) at l.invariant)
    (rw e at c.write_word-next.ensures))

pub returns : goal.returns
unfolding clauses_text
returns c = remains_none (rw (drop_of_length-le c.args.clauses.now c.loop-word-test.false) at c.loop-word.invariant)
