-- `row_for`: making a row leaves 0 on both sides of it, and the existentials are filled in behind it. Assumes nothing.
use mathlib.Core.Path.{◌≡◌, ◌∙◌}
use lib.ListN.{length}
use borrow.Author.Rules.{rules}
use Rattle.dependency.specs.Scratch.{small_bound}
use Rattle.checker.specs.Step.Laws.{filled_ready, filled_row}
use Rattle.checker.proofs.reduce.row_for.Goals as goal

pub returns : goal.returns
returns c =
    let prefix = c.args.universal.tables.prefix.now in
    let scratch = c.make_row.new.work in
    let bytes = c.fill_quantified.new.bytes in
    let part = c.fill_quantified.auto.bytes in
    let size : length scratch ≡ small_bound = search rules in
    record {
      row = filled_row prefix scratch bytes size part ∙ c.make_row.ensures.row;
      ready = filled_ready prefix scratch bytes size part c.make_row.ensures.front (rw c.entries.ensures at c.fill_quantified.ensures);
    }
