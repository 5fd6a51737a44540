-- `write_row_line` stores the number, the colon, the dependents and LF. Assumes nothing.
use mathlib.Core.List.{[], ◌∷◌, ◌++◌}
use Rattle.formula.specs.Decimal.{decimal}
use Rattle.formula.specs.Prefix.{prefix_of}
use Rattle.formula.specs.Store.Laws.{stores_append, below_first, below_rest}
use Rattle.dependency.specs.Scratch.{row_in}
use Rattle.report.specs.Dependents.Listing.{marked, row_line}
use Rattle.report.proofs.dependents.write_row_line.Goals as goal

pub write_number-next-requires : goal.write_number-next-requires
unfolding row_line
write_number-next-requires c =
    let s = c in
    below_first _ (decimal s.args.variable.0) (58 ∷ (marked (row_in s.args.made.now) (prefix_of s.args.prefix.words.now) ++ (10 ∷ []))) s.requires

pub put-next-requires : goal.put-next-requires
unfolding row_line
put-next-requires c =
    let number = c in
    let s = number.before.before.before.before in
    let rest = marked (row_in s.args.made.now) (prefix_of s.args.prefix.words.now) ++ (10 ∷ []) in
    below_first _ (58 ∷ []) rest (below_rest (58 ∷ rest) s.requires number.write_number-next.ensures)

pub write_dependents-next-requires : goal.write_dependents-next-requires
unfolding row_line
write_dependents-next-requires c =
    let colon = c in
    let number = colon.before.before.before.before in
    let s = number.before.before.before.before in
    let m = marked (row_in s.args.made.now) (prefix_of s.args.prefix.words.now) in
    (below_first _ m (10 ∷ []) (below_rest (m ++ (10 ∷ [])) (below_rest (58 ∷ (m ++ (10 ∷ []))) s.requires number.write_number-next.ensures) colon.put-next.ensures))

pub put-requires : goal.put-requires
unfolding row_line
put-requires c =
    let list = c in
    let colon = list.before.before.before.before in
    let number = colon.before.before.before.before in
    let s = number.before.before.before.before in
    let m = marked (row_in s.args.made.now) (prefix_of s.args.prefix.words.now) in
    below_rest (10 ∷ []) (below_rest (m ++ (10 ∷ [])) (below_rest (58 ∷ (m ++ (10 ∷ []))) s.requires number.write_number-next.ensures) colon.put-next.ensures) list.write_dependents-next.ensures

pub returns : goal.returns
unfolding row_line
returns c =
    let list = c in
    let colon = list.before.before.before.before in
    let number = colon.before.before.before.before in
    stores_append number.write_number-next.ensures (stores_append colon.put-next.ensures (stores_append list.write_dependents-next.ensures c.put.ensures))
