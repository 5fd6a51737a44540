-- `check_line` prints the line of the two files, then clears every other buffer. Assumes nothing.
use mathlib.Core.Path.{sym, ap, ◌∙◌}
use lib.IntN.{pos}
use lib.ListN.{length, take}
use Rattle.report.specs.Check.{check_line, lent}
use Rattle.report.specs.Check.Laws.{accepted_denotes_lost}
use Rattle.report.specs.Printing.Laws.{cleared_kept, stored_prints}
use Rattle.report.proofs.check.check_line.Goals as goal

pub returns : goal.returns
returns c =
    let done = c in
    let offsets = done.before.before.before.before in
    let scratch = offsets.before.before.before.before in
    let steps = scratch.before.before.before in
    let clauses = steps.before.before.before in
    let prefix = clauses.before.before.before in
    let files = prefix.before.before.before.before.before.before.before.before.before.before.before in
    let given = files.args in
    let kept = files.files_line-end.auto in
    let room = lent given.file_bound given.prefix.now given.clauses.now given.steps.now given.scratch.now given.offsets.now in
    let printed = stored_prints {text = check_line room given.formula.now given.proof.now} files.files_line-end.ensures.stores done.finish.ensures in
    record {
      answers = printed.answers;
      prints = printed.prints;
      short = files.files_line-end.ensures.short;
      prefix_cleared = cleared_kept (pos 0) given.prefix.now _ _ prefix.clear_tail.ensures kept.prefix;
      clauses_cleared = cleared_kept (pos 0) given.clauses.now _ _ clauses.clear_tail-2.ensures kept.clauses;
      steps_cleared = cleared_kept (pos 0) given.steps.now _ _ steps.clear_tail-3.ensures kept.steps;
      scratch_cleared = cleared_kept 0 given.scratch.now _ _ scratch.clear_tail-4.ensures kept.scratch;
      offsets_cleared = cleared_kept 0 given.offsets.now _ _ offsets.clear_tail-5.ensures kept.offsets;
      accepted_lost = λ h. accepted_denotes_lost room given.formula.now given.proof.now (length given.line.now) (ap (take 9) (sym printed.prints) ∙ h);
    }
