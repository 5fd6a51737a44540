-- `resolve_on`: both clauses are searched for the pivot's literals, then the result is judged. Assumes nothing.
use mathlib.Core.Path.{◌≡◌}
use lib.IntN.{pos, neg_ℤ}
use mir.Syntax.{w32}
use mir.Val.{to_z, of_z}
use mir.Facts.{to_z-of_z}
use Rattle.inference.specs.Words.{holds}
use Rattle.formula.specs.Decode.{clause_at}
use Rattle.inference.specs.Clause.{words_of}
use Rattle.formula.specs.Prefix.{prefix_of}
use Rattle.inference.specs.Steps.{resolvent, unresolvable}
use Rattle.inference.specs.Scope.{mergeable_in}
use Rattle.inference.specs.Marks.Laws.{clean_whole}
use Rattle.inference.specs.Marks.{marks_in}
use Rattle.inference.specs.Result.{result_reason, JudgedClean}
use Rattle.checker.specs.Merge.Laws.{cross_told, crossed_judged}
use Rattle.inference.proofs.Signed.{pivot_word, opposite_word_fits}
use Rattle.checker.proofs.resolve.resolve_on.Goals as goal

pub returns-then-has_word-2 : goal.returns-then-has_word-2
returns-then-has_word-2 c =
    let a = c.args in
    let e = pos a.pivot.0 in
    let C = words_of a.left in
    let D = words_of a.right in
    let may = mergeable_in (prefix_of a.prefix.words.now) a.pivot.0 in
    let v : to_z w32 a.pivot.0 ≡ e = pivot_word a.pivot.0 c.requires.pivot_in_range in
    let left : c.has_word.result ≡ holds e C = rw (c.literal-literal.ensures, v) at c.has_word.ensures in
    let n : c.negated-opposite.result.0 ≡ neg_ℤ e = rw c.literal-literal.ensures at c.negated-opposite.ensures in
    let f : to_z w32 (of_z w32 (neg_ℤ e)) ≡ neg_ℤ e = to_z-of_z (opposite_word_fits a.pivot.0 c.requires.pivot_in_range) in
    let right : c.has_word-then-has_word.result ≡ holds (neg_ℤ e) D = rw (n, f) at c.has_word-then-has_word.ensures in
    let k = cross_told a.step.family may e C D c.antecedents_cross-crossed.result c.antecedents_cross-crossed.ensures.told in
    let j : JudgedClean (result_reason (unresolvable a.step.family may e C D) (resolvent e C D) (clause_at a.steps.now a.step.statement)) c.judge_resolvent.result (marks_in c.judge_resolvent.new.marks) = rw k at c.judge_resolvent.ensures in
    let whole = clean_whole c.judge_resolvent.new.marks j.wiped in
    rw (← left, c.if-has_word.true, ← right, c.if-has_word-2.true)
    (crossed_judged c.antecedents_cross-crossed.ensures c.requires.scratch_clean.size _ whole j)
