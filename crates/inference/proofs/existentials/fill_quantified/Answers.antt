-- `fill_quantified`: filling from the entries that are left gives the same flags. Assumes nothing.
use mathlib.Core.Path.{◌≡◌, ◌∙◌}
use borrow.Author.Rules.{rules}
use lib.ListN.{drop}
use Rattle.formula.specs.Prefix.{prefix_of, quantifier_of}
use Rattle.inference.specs.Existentials.Laws.{from_cleared}
use Rattle.inference.proofs.existentials.fill_quantified.Goals as goal

pub loop-i-init : goal.loop-i-init
loop-i-init c =
    let whole : c.unwrap-flags.result.now ≡ c.args.bytes.now = search rules in
    from_cleared (quantifier_of c.args.existential) (drop c.args.from (prefix_of c.args.prefix.words.now)) _ (whole ∙ c.requires)
