-- `has_variable` asks each word whether it is of the variable. Assumes nothing.
use mathlib.Core.Path.{◌≡◌, ◌∙◌}
use borrow.Author.Rules.{rules}
use lib.Dec.{eqb}
use lib.IntN.{ℤ, nat_abs}
use Rattle.formula.specs.Word.{word_of, variable_of}
use Rattle.formula.specs.Decode.{clause_at}
use Rattle.inference.proofs.Theorems.Blocked.Laws.{variable_test, occurs_any}
use Rattle.inference.proofs.blocked.has_variable.Goals as goal

pub returns : goal.returns
returns c =
    let v = c.args.variable.0 in
    c.any_word.ensures (λ (x : ℤ). eqb v (nat_abs x)) (λ x b m h. let k : b ≡ eqb (variable_of (word_of x)) v = search rules in k ∙ variable_test x v c.requires)
    ∙ occurs_any v (clause_at c.args.words.now c.args.from)
