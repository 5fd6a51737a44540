-- `write_entry` stores what stands before the variable, then its digits and a space. Assumes nothing.
use mathlib.Core.List.{[], ◌∷◌, ◌++◌}
use lib.Dec.{eqb}
use Rattle.formula.specs.Decimal.{decimal}
use Rattle.formula.specs.Store.Laws.{stores_append, below_first, below_rest}
use Rattle.formula.specs.Write.Stream.{line_turn, entry_text}
use Rattle.formula.proofs.write.write_entry.Goals as goal

pub turn_line-next-requires : goal.turn_line-next-requires
unfolding entry_text
turn_line-next-requires c =
    let a = c.args in
    below_first _ (line_turn (eqb a.last a.letter) a.last a.letter) (decimal a.variable ++ (32 ∷ [])) c.requires

pub write_spaced-requires : goal.write_spaced-requires
unfolding entry_text
write_spaced-requires c =
    let turned = c in
    let s = turned.before.before.before in
    below_rest (decimal s.args.variable ++ (32 ∷ [])) s.requires turned.turn_line-next.ensures

pub returns : goal.returns
unfolding entry_text
returns c =
    let wrote = c in
    stores_append wrote.turn_line-next.ensures wrote.write_spaced.ensures
