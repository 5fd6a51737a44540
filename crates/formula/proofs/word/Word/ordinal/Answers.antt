-- `ordinal` answers by the word's sign and what the constructor of variables says of its magnitude. Assumes nothing.
use Rattle.std.proofs.Common.{◌≡◌, Bool, true, false, cond, refl, sym, ◌∙◌, rules}
use Rattle.std.specs.Prelude.{Option, Some, None}
use mir.Syntax.{w32}
use mir.Val.{to_z, of_z}
use Rattle.formula.specs.Word.{ordinal_of, ordinal, is_zero}
use Rattle.formula.specs.declared.literal.Variable.{Variable}
use Rattle.formula.specs.declared.word.Word.TheVariants.{Zero, TooLarge}
use Rattle.formula.proofs.Signed.{by_sign, word_by_sign}
use Rattle.formula.proofs.word.Word.ordinal.Goals as goal

pub returns-in-Some : goal.returns-in-Some
unfolding ordinal
returns-in-Some c =
    let z = c.args.word in
    let e : to_z w32 (of_z w32 z) ≡ z = search rules in
    rw (word_by_sign z true _ (rw e at c.if-word-gt0.true) (rw (c.unsigned_abs.ensures.value, e) at (sym c.new.ensures ∙ c.in-Some.is))) refl

no_variable : (b : Bool) → 0 ≡ ordinal_of (cond b Zero TooLarge)
no_variable true = refl
no_variable false = refl

pub returns-in-None : goal.returns-in-None
unfolding ordinal
returns-in-None c =
    let z = c.args.word in
    let e : to_z w32 (of_z w32 z) ≡ z = search rules in
    rw (word_by_sign z true _ (rw e at c.if-word-gt0.true) (rw (c.unsigned_abs.ensures.value, e) at (sym c.new.ensures ∙ c.in-None.is))) (no_variable (is_zero z))

not_positive : (b : Bool) (f : Option Variable) → 0 ≡ ordinal_of (by_sign b false f)
not_positive true (Some v) = refl
not_positive true None = refl
not_positive false (Some v) = refl
not_positive false None = refl

pub returns : goal.returns
unfolding ordinal
returns c =
    let z = c.args.word in
    let e : to_z w32 (of_z w32 z) ≡ z = search rules in
    rw (word_by_sign z false _ (rw e at c.if-word-gt0.false) refl) (not_positive (is_zero z) _)
