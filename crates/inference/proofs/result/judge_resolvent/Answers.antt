-- `judge_resolvent`: both clauses without the pivot are marked, and the marks are judged. Assumes nothing.
use mathlib.Core.Path.{◌≡◌, ◌∙◌}
use lib.IntN.{pos}
use Rattle.formula.specs.Decode.{clause_at}
use Rattle.inference.specs.Clause.{words_of}
use Rattle.inference.specs.Steps.{resolvent}
use Rattle.inference.specs.Result.{unresolvable_in}
use Rattle.inference.proofs.Theorems.Result.Laws.{resolvent_in_range, marked_met, marked_showing, judged_result}
use Rattle.inference.proofs.result.judge_resolvent.Goals as goal
use Rattle.inference.proofs.result.judge_resolvent.Goals.{in-Ordinary, in-LongDistance}

pub returns : goal.returns
returns c =
    let a = c.args in
    let R = resolvent (pos a.pivot.0) (words_of a.left) (words_of a.right) in
    let range = resolvent_in_range (pos a.pivot.0) _ _ a.left.in_range a.right.in_range in
    let marked = c.mark_both-opposed.ensures in
    let wrong : c.match-family.unresolvable ≡ unresolvable_in a.family a.crossed R =
    elim c.match-family.branch [
      | in-Ordinary w ↦ w.unresolvable-is ∙ rw w.in-Ordinary.is (marked_met R range c.mark_both-opposed.result _ _ c.requires.marks_clean marked)
      | in-LongDistance w ↦ rw w.in-LongDistance.is w.unresolvable-is
    ] in
    let showing = marked_showing R range c.mark_both-opposed.result _ _ c.requires.marks_clean marked in
    rw (← wrong) (judged_result R (clause_at a.steps.now a.statement) range c.mark_both-opposed.new.marks showing c.match-family.unresolvable c.judge_marked.ensures.answer c.judge_marked.ensures.wiped)
