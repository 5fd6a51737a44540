-- `after_outcome` goes by the outcome. Assumes nothing.
use Rattle.std.proofs.Common.{sym, ◌∙◌}
use Rattle.files.specs.Reading.Laws.{moved_end, moved_placed, interrupted_last, interrupted_again, failed_unreadable}
use Rattle.files.proofs.reading.after_outcome.Goals as goal

pub returns-then-count-eq0 : goal.returns-then-count-eq0
returns-then-count-eq0 c =
    let a = c.args in
    rw c.in-Moved.is (sym (moved_end c.in-Moved.count a.at a.room a.tries c.if-count-eq0.true))

pub returns-then-tries-eq0 : goal.returns-then-tries-eq0
returns-then-tries-eq0 c = let a = c.args in rw c.in-Interrupted.is (sym (interrupted_last a.at a.room a.tries c.if-tries-eq0.true))

pub returns-else-count-eq0 : goal.returns-else-count-eq0
returns-else-count-eq0 c =
    let a = c.args in
    rw c.in-Moved.is (c.placed.ensures ∙ sym (moved_placed c.in-Moved.count a.at a.room a.tries c.if-count-eq0.false))

pub returns-else-tries-eq0 : goal.returns-else-tries-eq0
returns-else-tries-eq0 c = let a = c.args in rw c.in-Interrupted.is (sym (interrupted_again a.at a.room a.tries c.if-tries-eq0.false))

pub returns-in-Failed : goal.returns-in-Failed
returns-in-Failed c = let a = c.args in rw c.in-Failed.is (sym (failed_unreadable a.at a.room a.tries))
