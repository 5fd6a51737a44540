-- `has_word` asks each word whether it is the one sought. Assumes nothing.
use mathlib.Core.Path.{◌≡◌, ◌∙◌}
use borrow.Author.Rules.{rules}
use lib.Dec.{eqb}
use mir.Syntax.{w32}
use mir.Val.{of_z, SFits}
use Rattle.formula.specs.Decode.{clause_at}
use Rattle.inference.specs.Words.{same_word}
use Rattle.inference.specs.Words.Laws.{holds_any}
use Rattle.inference.proofs.Signed.{same_bits}
use Rattle.inference.proofs.clause.has_word.Goals as goal

pub returns : goal.returns
returns c =
    c.any_word.ensures (same_word c.args.sought) (λ x b m h.
    let k : b ≡ eqb (of_z w32 c.args.sought) (of_z w32 x) = search rules in
    let f : SFits w32 x = search rules in
    k ∙ same_bits c.args.sought x c.ranges.sought f)
    ∙ holds_any c.args.sought (clause_at c.args.words.now c.args.from)
