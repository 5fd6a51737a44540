-- `play` refuses beyond 16 variables and plays otherwise. Assumes nothing.
use Rattle.std.specs.Prelude.{◌≡◌, true, false, leb}
use Rattle.std.proofs.Common.{ap, sym, ◌∙◌}
use Rattle.formula.specs.Bounds.Laws.{within_bound, above_bound}
use Rattle.formula.specs.Prefix.{entry_count}
use Rattle.evaluator.specs.Evaluation.{game_bound, verdict, evaluation_of}
use Rattle.evaluator.proofs.evaluation.play.Goals as goal

pub returns-in_default : goal.returns-in_default
unfolding evaluation_of
returns-in_default c =
    let t = c.args.tables in
    let count = rw c.entries-prefix.ensures at c.count.ensures in
    let many : leb (entry_count t.prefix.now) game_bound ≡ false = rw count at (above_bound _ (sym c.new.ensures ∙ c.in_default.is)) in
    rw (c.new-in_default.ensures, t.admitted.passes, many)

pub returns : goal.returns
unfolding evaluation_of
returns c =
    let t = c.args.tables in
    let count = rw c.entries-prefix.ensures at c.count.ensures in
    let few : leb (entry_count t.prefix.now) game_bound ≡ true = rw count at (within_bound _ _ (sym c.new.ensures ∙ c.in-Some.is)).0 in
    rw (t.admitted.passes, few) (ap verdict (rw c.entries-prefix.ensures at c.first_lost.ensures))
