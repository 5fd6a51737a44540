-- `judge_reduct`: the clause without the literal is marked, long-distance its opposite unmarked, and the marks are judged. Assumes nothing.
use mathlib.Core.Path.{◌≡◌}
use mathlib.Core.Bool.{false}
use borrow.Author.Rules.{rules}
use mir.Syntax.{w32}
use mir.Val.{to_z, of_z}
use Rattle.formula.specs.Decode.{clause_at}
use Rattle.inference.specs.Words.{without}
use Rattle.inference.specs.Steps.{reduct}
use Rattle.inference.specs.Marks.{marks_in, Marked}
use Rattle.inference.specs.Marks.Laws.{opposite_in_range}
use Rattle.inference.proofs.Theorems.Result.Laws.{without_in_range, reduct_in_range, marked_showing, reduct_showing, judged_result}
use Rattle.inference.proofs.result.judge_reduct.Goals as goal

pub returns : goal.returns
returns c =
    let a = c.args.literal.0 in
    let f = c.args.family in
    let C = clause_at c.args.clause.words.now c.args.clause.from in
    let e : to_z w32 (of_z w32 a) ≡ a = search rules in
    let h : Marked (marks_in c.args.marks.now) (without a C) c.mark_clause.result (marks_in c.mark_clause.new.marks) = rw e at c.mark_clause.ensures in
    let shown = marked_showing (without a C) (without_in_range a C c.args.clause.in_range) c.mark_clause.result _ _ c.requires.marks_clean h in
    judged_result (reduct f a C) (clause_at c.args.steps.now c.args.statement) (reduct_in_range f a C c.args.clause.in_range) c.unmark_opposite.new.marks
    (rw c.unmark_opposite.ensures (reduct_showing f a C _ (opposite_in_range a c.requires.literal_in_range) shown))
    false c.judge_marked.ensures.answer c.judge_marked.ensures.wiped
