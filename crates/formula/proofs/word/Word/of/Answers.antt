-- `Word::of` answers by the word's sign and what the constructor of variables says of its magnitude. Assumes nothing.
use Rattle.std.proofs.Common.{◌≡◌, true, false, refl, sym, ap, ◌∙◌, rules}
use Rattle.std.specs.Prelude.{cond}
use mir.Syntax.{w32}
use mir.Val.{to_z, of_z, SFits}
use Rattle.formula.specs.Word.{word_of, is_zero}
use Rattle.formula.specs.Word.Laws.{apart_zero}
use Rattle.formula.specs.declared.word.Word.TheVariants.{Zero, TooLarge}
use Rattle.formula.proofs.Signed.{bits_zero, word_by_sign}
use Rattle.formula.proofs.word.Word.of.Goals as goal

pub returns-then-word-gt0 : goal.returns-then-word-gt0
returns-then-word-gt0 c =
    let z = c.args.word in
    let e : to_z w32 (of_z w32 z) ≡ z = search rules in
    sym (word_by_sign z true _ (rw e at c.if-word-gt0.true) (rw (c.unsigned_abs.ensures.value, e) at (sym c.new.ensures ∙ c.in-Some.is)))

pub returns-else-word-gt0 : goal.returns-else-word-gt0
returns-else-word-gt0 c =
    let z = c.args.word in
    let e : to_z w32 (of_z w32 z) ≡ z = search rules in
    sym (word_by_sign z false _ (rw e at c.if-word-gt0.false) (rw (c.unsigned_abs.ensures.value, e) at (sym c.new.ensures ∙ c.in-Some.is)))

pub returns-then-word-eq0 : goal.returns-then-word-eq0
unfolding word_of
returns-then-word-eq0 c = let h : SFits w32 c.args.word = search rules in rw (bits_zero c.args.word h c.if-word-eq0.true)

pub returns-in-None : goal.returns-in-None
returns-in-None c =
    let z = c.args.word in
    let e : to_z w32 (of_z w32 z) ≡ z = search rules in
    let n : is_zero z ≡ false = apart_zero z (λ h. c.if-word-eq0.false (ap (of_z w32) h)) in
    sym (word_by_sign z _ _ refl (rw (c.unsigned_abs.ensures.value, e) at (sym c.new.ensures ∙ c.in-None.is)) ∙ ap (λ t. cond t Zero TooLarge) n)
