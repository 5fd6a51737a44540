-- `variable` answers by what the word is, arm by arm. Assumes nothing.
use mathlib.Core.Path.{◌≡◌, ap, sym, ◌∙◌}
use borrow.Author.Rules.{rules}
use mir.Syntax.{w32}
use mir.Val.{to_z, of_z}
use Rattle.formula.specs.Word.{word_of}
use Rattle.formula.specs.Word.{variable_of}
use Rattle.formula.proofs.word.Word.variable.Tie as tie
use Rattle.formula.proofs.word.Word.variable.Lts as lts
use Rattle.formula.proofs.word.Word.variable.Reads as reads
use Rattle.formula.proofs.word.Word.variable.Goals as goal

-- the word's kind, the word read back from its bits
kind_at : (c : lts.After-of tie.the-claims reads.Pre reads.Post) → c.of.result ≡ word_of c.args.word
kind_at c =
    let e : to_z w32 (of_z w32 c.args.word) ≡ c.args.word = search rules in
    rw e at c.of.ensures

pub returns-in-Zero : goal.returns-in-Zero
unfolding variable_of
returns-in-Zero c = ap variable_of (sym c.in-Zero.is ∙ kind_at c.before)

pub returns-in-TooLarge : goal.returns-in-TooLarge
unfolding variable_of
returns-in-TooLarge c = ap variable_of (sym c.in-TooLarge.is ∙ kind_at c.before)

pub returns-in-Positive : goal.returns-in-Positive
unfolding variable_of
returns-in-Positive c = ap variable_of (sym c.in-Positive.is ∙ kind_at c.before)

pub returns-in-Negative : goal.returns-in-Negative
unfolding variable_of
returns-in-Negative c = ap variable_of (sym c.in-Negative.is ∙ kind_at c.before)
