-- `clause_entry` runs down the clause: what is left of it gives the same answers, and the same words come after it. Assumes nothing.
use Prim.Native.Nat.{ℕ, ◌+◌, ◌<◌}
use mathlib.Core.Path.{◌≡◌, sym, ◌∙◌}
use mathlib.Core.Bool.{true, false}
use mathlib.Core.List.{List}
use native.Mathlib.Omega.{arith}
use lib.IntN.{ℤ, pos}
use mir.Syntax.{w32}
use mir.Val.{to_z, of_z}
use borrow.Author.Rules.{rules}
use lib.ListN.{length, get_or}
use Rattle.formula.specs.Word.{word_of, is_zero}
use Rattle.formula.specs.Decode.{clause_at}
use Rattle.formula.specs.Decode.Places.{clause_literal, clause_zero, clause_past, after_literal, after_zero}
use Rattle.dependency.specs.Marks.{clause_entry, see_word}
use Rattle.dependency.specs.Marks.Laws.{clause_entry_several}
use Rattle.dependency.specs.Marks.Places.{after_end}
use Rattle.dependency.specs.Bits.Words.{seen_both}
use Rattle.dependency.proofs.pass.clause_entry.Goals as goal

abbrev word_at_lem : List ℤ → ℕ → ℤ
word_at_lem ws i = get_or ws i (pos 0)

-- one word further, for either search
step :
    (ws : List ℤ) (m : List ℕ) (from i seen seen' : ℕ) → i < length ws → is_zero (word_at_lem ws i) ≡ false → seen' ≡ see_word m (word_of (word_at_lem ws i)) seen
    → clause_entry m seen (clause_at ws i) ≡ clause_entry m 0 (clause_at ws from)
    → clause_entry m seen' (clause_at ws (i + 1)) ≡ clause_entry m 0 (clause_at ws from)
unfolding clause_entry
step ws m from i seen seen' h k told so_far = rw told (rw (clause_literal ws i h k) at so_far)

pub returns-then-is_zero : goal.returns-then-is_zero
unfolding clause_entry
returns-then-is_zero c =
    let l = c.loop-i in
    let ws = c.args.clauses.now in
    let e : to_z w32 (of_z w32 (word_at_lem ws l.i)) ≡ word_at_lem ws l.i = search rules in
    let k = sym (rw e at c.is_zero.ensures) ∙ c.if-is_zero.true in
    record {
      seen = λ s. rw (clause_zero ws l.i (search rules) k) at (l.invariant.0 s);
      later = λ z. sym (after_zero ws l.i (search rules) k) ∙ l.invariant.1;
      further = λ h. search rules;
    }

pub returns-then-seen : goal.returns-then-seen
returns-then-seen c =
    let l = c.loop-i in
    let ws = c.args.clauses.now in
    let e : to_z w32 (of_z w32 (word_at_lem ws l.i)) ≡ word_at_lem ws l.i = search rules in
    let k = sym (rw e at c.is_zero.ensures) ∙ c.if-is_zero.false in
    let several = seen_both c.see_word-seen.result 1025 c.if-seen.true in
    record {
      seen = λ s. several s ∙ sym (clause_entry_several _ _) ∙ (rw (several s) at (step ws _ c.args.from l.i _ _ (search rules) k ((rw e at c.see_word-seen.ensures) s) (l.invariant.0 s)));
      later = λ z. let n = several true in absurd (omega arith);
      further = λ h. search rules;
    }

pub loop-i-preserved : goal.loop-i-preserved
loop-i-preserved c =
    let l = c.loop-i in
    let ws = c.args.clauses.now in
    let e : to_z w32 (of_z w32 (word_at_lem ws l.i)) ≡ word_at_lem ws l.i = search rules in
    let k = sym (rw e at c.is_zero.ensures) ∙ c.if-is_zero.false in
    (λ s. step ws _ c.args.from l.i _ _ (search rules) k ((rw e at c.see_word-seen.ensures) s) (l.invariant.0 s), sym (after_literal ws l.i (search rules) k) ∙ l.invariant.1)

pub returns : goal.returns
unfolding clause_entry
returns c =
    let l = c.loop-i in
    let ws = c.args.clauses.now in
    record {
      seen = λ s. rw (clause_past ws l.i (search rules)) at (l.invariant.0 s);
      later = λ e. after_end ws l.i (search rules) ∙ l.invariant.1;
      further = λ h. search rules;
    }
