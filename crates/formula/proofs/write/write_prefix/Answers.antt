-- `write_prefix` stores the entries one by one, then ends the open line: what is left to store is the text of the entries
-- that the loop has not passed, after the letter of the last one. Assumes nothing.
use Rattle.std.proofs.Common.{suc, ◌≤◌, drop, add-one, arith}
use Rattle.std.proofs.Math.ListN.{drop_of_length-le}
use Rattle.formula.specs.Prefix.{prefix_of, entry_count}
use Rattle.formula.specs.Store.{Remains}
use Rattle.formula.specs.Store.Laws.{remains_less, remains_last, below_first, below_remains}
use Rattle.formula.specs.Write.Stream.{line_end, entry_text, prefix_text}
use Rattle.formula.specs.Write.Laws.{prefix_text_drop}
use Rattle.formula.proofs.write.write_prefix.Goals as goal
use Rattle.formula.proofs.write.write_prefix.Goals.{After-loop-i}

pub write_entry-next-requires : goal.write_entry-next-requires
write_entry-next-requires c =
    let l = c.loop-i in
    let P = prefix_of c.args.prefix.words.now in
    let letter = c.letter_at-letter in
    let variable = c.variable_at-variable in
    let left = prefix_text_drop l.i P (omega arith) l.last letter.result variable.result.0 letter.ensures variable.ensures in
    below_first l.next (entry_text l.last letter.result variable.result.0) (prefix_text letter.result (drop (suc l.i) P))
    (rw left at (below_remains c.requires l.invariant))

pub loop-i-preserved : goal.loop-i-preserved
loop-i-preserved c =
    let l = c.loop-i in
    let P = prefix_of c.args.prefix.words.now in
    let letter = c.letter_at-letter in
    let variable = c.variable_at-variable in
    let left = prefix_text_drop l.i P (omega arith) l.last letter.result variable.result.0 letter.ensures variable.ensures in
    rw add-one (remains_less (prefix_text letter.result (drop (suc l.i) P)) (rw left at l.invariant) c.write_entry-next.ensures)

-- past the loop the end of the open line is left
end_at : (c : After-loop-i) → Remains c.args.text.now c.args.at (prefix_text 0 (prefix_of c.args.prefix.words.now)) c.loop-i.text c.loop-i.next (line_end c.loop-i.last)
unfolding prefix_text
end_at c =
    let l = c.loop-i in
    let h : entry_count c.args.prefix.words.now ≤ l.i = omega arith in
    rw (drop_of_length-le (prefix_of c.args.prefix.words.now) h) at l.invariant

pub end_line-requires : goal.end_line-requires
end_line-requires c = below_remains c.requires (end_at (goal.at.end_line-requires c).After-loop-i)

pub returns : goal.returns
returns c = remains_last (end_at (goal.at.returns c).After-loop-i) c.end_line.ensures
