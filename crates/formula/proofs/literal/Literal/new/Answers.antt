-- `Literal::new` answers by what the word is. Assumes nothing.
use mathlib.Core.Path.{◌≡◌, sym, ◌∙◌}
use borrow.Author.Rules.{rules}
use mir.Syntax.{w32}
use mir.Val.{to_z, of_z}
use Rattle.formula.proofs.Signed.{word_literal}
use Rattle.formula.proofs.literal.Literal.new.Goals as goal

pub returns-in-Zero : goal.returns-in-Zero
returns-in-Zero c =
    let z = c.args.word in
    let e : to_z w32 (of_z w32 z) ≡ z = search rules in
    word_literal z _ (sym c.in-Zero.is ∙ rw e at c.of.ensures)

pub returns-in-TooLarge : goal.returns-in-TooLarge
returns-in-TooLarge c =
    let z = c.args.word in
    let e : to_z w32 (of_z w32 z) ≡ z = search rules in
    word_literal z _ (sym c.in-TooLarge.is ∙ rw e at c.of.ensures)

pub returns-in-Positive : goal.returns-in-Positive
returns-in-Positive c =
    let z = c.args.word in
    let e : to_z w32 (of_z w32 z) ≡ z = search rules in
    rw e (word_literal z _ (sym c.in-Positive.is ∙ rw e at c.of.ensures))

pub returns-in-Negative : goal.returns-in-Negative
returns-in-Negative c =
    let z = c.args.word in
    let e : to_z w32 (of_z w32 z) ≡ z = search rules in
    rw e (word_literal z _ (sym c.in-Negative.is ∙ rw e at c.of.ensures))
