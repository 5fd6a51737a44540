-- `write_dependent` stores a space and the digits of a dependent. Assumes nothing.
use mathlib.Core.Path.{◌≡◌}
use mathlib.Core.List.{[], ◌∷◌, ◌++◌}
use Rattle.formula.specs.Decimal.{decimal}
use Rattle.formula.specs.Store.Laws.{stores_none, stores_append, below_first, below_rest}
use Rattle.report.specs.Dependents.{if_dependent}
use Rattle.report.proofs.dependents.write_dependent.Tie as tie
use Rattle.report.proofs.dependents.write_dependent.Lts as lts
use Rattle.report.proofs.dependents.write_dependent.Reads as reads
use Rattle.report.proofs.dependents.write_dependent.Goals as goal

-- the text of a dependent
text_one : (c : lts.Then1 tie.the-claims reads.Pre reads.Post) → let a = c.args in if_dependent a.dependent a.variable.0 ≡ (32 ∷ []) ++ decimal a.variable.0
unfolding if_dependent
text_one c = rw c.if-dependent.true

pub put-next-requires : goal.put-next-requires
put-next-requires c = below_first _ (32 ∷ []) (decimal c.args.variable.0) (rw (text_one c.before) at c.requires)

pub write_number-requires : goal.write_number-requires
write_number-requires c =
    let put = c.before.before.before in
    let s = put.before.before.before.before in
    below_rest (decimal s.args.variable.0) (rw (text_one put.before.before) at s.requires) put.put-next.ensures

pub returns-then-dependent : goal.returns-then-dependent
returns-then-dependent c =
    let put = c.before.before.before.before.before.before.before in
    rw (text_one put.before.before) (stores_append put.put-next.ensures c.write_number.ensures)

pub returns : goal.returns
unfolding if_dependent
returns c = rw c.if-dependent.false (stores_none _ _)
