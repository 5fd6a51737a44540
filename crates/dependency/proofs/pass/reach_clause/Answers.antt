-- `reach_clause` runs down the clause: what is left of it gives the same marks. Assumes nothing.
use Prim.Native.Nat.{ℕ}
use mathlib.Core.Path.{◌≡◌, sym, ◌∙◌}
use mathlib.Core.List.{List}
use lib.IntN.{ℤ, pos}
use mir.Syntax.{w32}
use mir.Val.{to_z, of_z}
use borrow.Author.Rules.{rules}
use lib.ListN.{get_or}
use Rattle.formula.specs.Decode.Places.{clause_literal, clause_zero, clause_past, after_literal, after_zero}
use Rattle.dependency.specs.Marks.{reach_clause}
use Rattle.dependency.specs.Marks.Places.{after_end}
use Rattle.dependency.proofs.pass.reach_clause.Goals as goal

abbrev word_at_lem : List ℤ → ℕ → ℤ
word_at_lem ws i = get_or ws i (pos 0)

pub returns-then-is_zero : goal.returns-then-is_zero
unfolding reach_clause
returns-then-is_zero c =
    let l = c.loop-i in
    let ws = c.args.clauses.now in
    let e : to_z w32 (of_z w32 (word_at_lem ws l.i)) ≡ word_at_lem ws l.i = search rules in
    let k = sym (rw e at c.is_zero.ensures) ∙ c.if-is_zero.true in
    record {
      marks = λ s. rw (clause_zero ws l.i (search rules) k) at (l.invariant.0 s);
      later = sym (after_zero ws l.i (search rules) k) ∙ l.invariant.1;
      further = λ h. search rules;
    }

pub loop-i-preserved : goal.loop-i-preserved
unfolding reach_clause
loop-i-preserved c =
    let l = c.loop-i in
    let ws = c.args.clauses.now in
    let e : to_z w32 (of_z w32 (word_at_lem ws l.i)) ≡ word_at_lem ws l.i = search rules in
    let k = sym (rw e at c.is_zero.ensures) ∙ c.if-is_zero.false in (
      λ s. rw ((rw e at c.reach_word.ensures) s) (rw (clause_literal ws l.i (search rules) k) at (l.invariant.0 s)),
      sym (after_literal ws l.i (search rules) k) ∙ l.invariant.1,
    )

pub returns : goal.returns
unfolding reach_clause
returns c =
    let l = c.loop-i in
    let ws = c.args.clauses.now in
    record {
      marks = λ s. rw (clause_past ws l.i (search rules)) at (l.invariant.0 s);
      later = after_end ws l.i (search rules) ∙ l.invariant.1;
      further = λ h. search rules;
    }
