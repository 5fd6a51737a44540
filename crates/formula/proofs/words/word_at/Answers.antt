-- `word_at` answers by the tests on the place and on the word. Assumes nothing.
use mathlib.Core.Path.{◌≡◌, refl, ap, sym, ◌∙◌}
use borrow.Author.Rules.{rules}
use lib.ListN.{get_or}
use lib.IntN.{pos}
use mir.Syntax.{w32}
use mir.Val.{to_z, of_z, SFits}
use Rattle.formula.specs.Words.{word_is}
use Rattle.formula.specs.Words.Laws.{word_at_end, word_at_word, word_nonzero}
use Rattle.formula.proofs.Signed.{bits_zero}
use Rattle.formula.proofs.words.word_at.Goals as goal

pub returns-then-word-eq0 : goal.returns-then-word-eq0
unfolding word_is
returns-then-word-eq0 c =
    let a = c.args in
    let z = get_or a.words.now a.at (pos 0) in
    let h : SFits w32 z = search rules in
    let e : to_z w32 (of_z w32 z) ≡ z = search rules in
    rw (word_at_word a.words.now a.at c.if-at-words.true, bits_zero z h c.if-word-eq0.true) refl

pub returns-else-word-eq0 : goal.returns-else-word-eq0
returns-else-word-eq0 c =
    let a = c.args in
    let z = get_or a.words.now a.at (pos 0) in
    let e : to_z w32 (of_z w32 z) ≡ z = search rules in
    rw e (sym (word_at_word a.words.now a.at c.if-at-words.true ∙ word_nonzero z (λ h. c.if-word-eq0.false (ap (of_z w32) h))))

pub returns-else-at-words : goal.returns-else-at-words
returns-else-at-words c = sym (word_at_end _ _ c.if-at-words.false)
