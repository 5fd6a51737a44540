-- `clear_lent` clears both from 0 on. Assumes nothing.
use mathlib.Core.Path.{◌∙◌}
use Rattle.checker.specs.Verdict.Parts.{cleared_whole}
use Rattle.checker.proofs.proof.clear_lent.Goals as goal

pub returns : goal.returns
returns c =
    let numbers = c in
    let bytes = numbers.before.before.before.before in
    let start = bytes.before.before.before.before in
    (bytes.clear_tail.ensures ∙ cleared_whole start.args.scratch.now, numbers.clear_tail-2.ensures ∙ cleared_whole start.args.offsets.now)
