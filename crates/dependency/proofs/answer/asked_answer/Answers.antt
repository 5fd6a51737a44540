-- `asked_answer` answers by what the number is, by the prefix and by the room. Assumes nothing.
use Rattle.std.specs.Prelude.{List, ℤ, nat_abs, Ok, refl}
use mathlib.Core.Path.{◌≡◌, ap, sym, ◌∙◌}
use mathlib.Core.Bool.{true}
use mir.Syntax.{w32}
use mir.Val.{to_z, of_z}
use borrow.Author.Rules.{rules}
use Rattle.std.proofs.lemmas.Result.{err_from_is_err_and}
use Rattle.formula.specs.Word.{word_of}
use Rattle.formula.specs.Prefix.{prefix_of, Entries}
use Rattle.formula.specs.Refusal.Laws.{passes_none, passes_some}
use Rattle.formula.specs.declared.literal.Variable.{Variable}
use Rattle.formula.specs.declared.word.Word.TheVariants.{Positive}
use Rattle.dependency.specs.Answer.{universal_asked}
use Rattle.dependency.specs.Answer.Laws.{not_asked, asked_word, asked_variable}
use Rattle.dependency.proofs.answer.asked_answer.Goals as goal

-- the variable that a number is recognised as, where it asks for a universal
own : (p : List ℤ) → Entries p → (w : ℤ) (v : Variable) → word_of w ≡ Positive v → universal_asked (prefix_of p) w ≡ true → v ≡ record { 0 = nat_abs w }
own p entries w v k h = let z = asked_word p entries w h in cc

pub returns-in_default : goal.returns-in_default
returns-in_default c =
    let w = c.args.variable in
    let e : to_z w32 (of_z w32 w) ≡ w = search rules in
    rw (c.new-other.ensures, not_asked c.args.prefix.words.now c.args.prefix.entries w (λ v k. c.in_default.not-Positive v ((rw e at c.of.ensures) ∙ k))) refl

pub returns-then-not-is_universal : goal.returns-then-not-is_universal
returns-then-not-is_universal c =
    let a = c.args in
    let w = a.variable in
    let e : to_z w32 (of_z w32 w) ≡ w = search rules in
    let k = sym (rw e at c.of.ensures) ∙ c.in-Positive.is in
    rw (c.new-other.ensures, asked_variable (prefix_of a.prefix.words.now) w c.in-Positive.v k ∙ sym c.is_universal.ensures ∙ c.if-not-is_universal.true) refl

pub returns-in_err-room_answer : goal.returns-in_err-room_answer
returns-in_err-room_answer c =
    let a = c.args in
    let w = a.variable in
    let e : to_z w32 (of_z w32 w) ≡ w = search rules in
    let k = sym (rw e at c.of.ensures) ∙ c.in-Positive.is in
    let q = asked_variable (prefix_of a.prefix.words.now) w c.in-Positive.v k ∙ sym c.is_universal.ensures ∙ c.if-not-is_universal.false in
    let x = err_from_is_err_and c.from_residual.result c.from_residual.ensures.1 in
    rw (x.1, x.2, q, passes_some _ _ (sym c.room_answer.ensures ∙ c.in_err-room_answer.was)) refl

pub returns : goal.returns
returns c =
    let a = c.args in
    let w = a.variable in
    let e : to_z w32 (of_z w32 w) ≡ w = search rules in
    let k = sym (rw e at c.of.ensures) ∙ c.in-Positive.is in
    let q = asked_variable (prefix_of a.prefix.words.now) w c.in-Positive.v k ∙ sym c.is_universal.ensures ∙ c.if-not-is_universal.false in
    rw (q, passes_none _ (sym c.room_answer.ensures ∙ c.in_ok-room_answer.was)) (ap (λ (v : Variable). Ok v) (own a.prefix.words.now a.prefix.entries w c.in-Positive.v k q))
