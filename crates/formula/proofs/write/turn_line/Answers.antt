-- `turn_line` stores nothing on the letter's own line, else what ends the open line and begins a new one. Assumes nothing.
use mathlib.Core.Path.{◌≡◌}
use mathlib.Core.List.{[], ◌∷◌, ◌++◌}
use lib.Dec.{eqb}
use Rattle.formula.specs.Store.Laws.{stores_none, stores_append, below_first, below_rest}
use Rattle.formula.specs.Write.Stream.{line_end, line_turn}
use Rattle.formula.specs.Write.Laws.{line_turn_same, line_turn_other}
use Rattle.formula.proofs.write.turn_line.Tie as tie
use Rattle.formula.proofs.write.turn_line.Lts as lts
use Rattle.formula.proofs.write.turn_line.Reads as reads
use Rattle.formula.proofs.write.turn_line.Goals as goal

pub returns-then-last-letter : goal.returns-then-last-letter
returns-then-last-letter c = let a = c.args in rw (line_turn_same a.last a.letter c.if-last-letter.true) (stores_none _ _)

-- the function's start where a new line begins, and what is then stored
abbrev start : lts.After-end_line-arg tie.the-claims reads.Pre reads.Post → lts.Start tie.the-claims reads.Pre reads.Post
start c = c.before.before.before

turned :
    (c : lts.After-end_line-arg tie.the-claims reads.Pre reads.Post)
    → line_turn (eqb (start c).args.last (start c).args.letter) (start c).args.last (start c).args.letter
    ≡ line_end (start c).args.last ++ ((start c).args.letter ∷ 32 ∷ [])
turned c = line_turn_other (start c).args.last (start c).args.letter c.if-last-letter.false

pub end_line-next-requires : goal.end_line-next-requires
end_line-next-requires c =
    let a = (start c).args in
    below_first a.at (line_end a.last) (a.letter ∷ 32 ∷ []) (rw (turned c) at (start c).requires)

pub put-next-requires : goal.put-next-requires
put-next-requires c =
    let ended = c.before.before.before in
    let s = start ended.before in
    below_first _ (s.args.letter ∷ []) (32 ∷ [])
    (below_rest (s.args.letter ∷ 32 ∷ []) (rw (turned ended.before) at s.requires) ended.end_line-next.ensures)

pub put-requires : goal.put-requires
put-requires c =
    let lettered = c.before.before.before in
    let ended = lettered.before.before.before.before in
    let s = start ended.before in
    below_rest (32 ∷ [])
    (below_rest (s.args.letter ∷ 32 ∷ []) (rw (turned ended.before) at s.requires) ended.end_line-next.ensures)
    lettered.put-next.ensures

pub returns : goal.returns
returns c =
    let spaced = c.before.before.before in
    let lettered = spaced.before.before.before.before in
    let ended = lettered.before.before.before.before in
    rw (turned ended.before) (stores_append ended.end_line-next.ensures (stores_append lettered.put-next.ensures spaced.put.ensures))
