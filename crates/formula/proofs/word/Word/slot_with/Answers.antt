-- `slot_with` goes by the word's sign and what the constructor of variables says of its magnitude. Assumes nothing.
use Rattle.std.proofs.Common.{◌≡◌, ℕ, Bool, true, false, cond, refl, sym, ◌∙◌, rules}
use mir.Syntax.{w32}
use mir.Val.{to_z, of_z}
use Rattle.formula.specs.Word.{slot_with, is_zero}
use Rattle.formula.specs.declared.word.Word.TheVariants.{Zero, TooLarge}
use Rattle.formula.proofs.Signed.{word_by_sign}
use Rattle.formula.proofs.word.Word.slot_with.Goals as goal
use Rattle.formula.proofs.word.Word.slot_with.Goals.{then-word-gt0, else-word-gt0}

pub returns-in-Some : goal.returns-in-Some
returns-in-Some c =
    let z = c.args.word in
    let e : to_z w32 (of_z w32 z) ≡ z = search rules in
    let fit = rw (c.unsigned_abs.ensures.value, e) at (sym c.new.ensures ∙ c.in-Some.is) in
    elim c.if-word-gt0.branch [
      | then-word-gt0 w ↦ rw (w.added-is, word_by_sign z true _ (rw e at w.if-word-gt0.true) fit) refl
      | else-word-gt0 w ↦ rw (w.added-is, word_by_sign z false _ (rw e at w.if-word-gt0.false) fit) refl
    ]

none_slot : (p m : ℕ) (b : Bool) → 0 ≡ slot_with p m (cond b Zero TooLarge)
none_slot p m true = refl
none_slot p m false = refl

pub returns-in-None : goal.returns-in-None
returns-in-None c =
    let z = c.args.word in
    let e : to_z w32 (of_z w32 z) ≡ z = search rules in
    rw (word_by_sign z _ _ refl (rw (c.unsigned_abs.ensures.value, e) at (sym c.new.ensures ∙ c.in-None.is))) (none_slot c.args.plus c.args.minus (is_zero z))
