-- `after_read` hands the outcome on. Assumes nothing.
use Rattle.std.proofs.Common.{rules, ◌≡◌}
use mir.Syntax.{w32, w64}
use mir.Val.{to_z, of_z}
use Rattle.files.specs.Reading.{after_read}
use Rattle.files.proofs.reading.after_read.Goals as goal

pub returns : goal.returns
unfolding after_read
returns c =
    let a = c.args in
    let e : to_z w64 (of_z w64 a.got) ≡ a.got = search rules in
    let f : to_z w32 (of_z w32 a.error) ≡ a.error = search rules in
    rw (c.outcome_of.ensures, e, f) at c.after_outcome.ensures
