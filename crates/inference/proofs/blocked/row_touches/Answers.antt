-- `row_touches` asks each word whether the row has its variable. Assumes nothing.
use mathlib.Core.Path.{◌∙◌}
use borrow.Author.Rules.{rules}
use lib.Dec.{eqb}
use lib.ListN.{get_or}
use lib.IntN.{ℤ, nat_abs}
use Rattle.dependency.specs.Scratch.{row_in}
use Rattle.formula.specs.Decode.{clause_at}
use Rattle.inference.proofs.Theorems.Blocked.Laws.{touches_any}
use Rattle.inference.proofs.blocked.row_touches.Goals as goal

pub returns : goal.returns
returns c =
    let row = row_in c.args.row.now in
    c.any_word.ensures (λ (x : ℤ). eqb (get_or row (nat_abs x) 0) 1) (λ x b m h. search rules) ∙ touches_any row (clause_at c.args.words.now c.args.from)
