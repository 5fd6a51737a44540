-- `write_lines` stores a line for each universal: what is left to store is what the entries that the loop has not passed give.
-- Assumes nothing.
use Prim.Native.Nat.{suc, ◌≤◌, ◌<◌}
use native.Mathlib.Numerals.{add-one}
use native.Mathlib.Omega.{arith}
use lib.ListN.{drop, drop_of_length-le}
use Rattle.formula.specs.Decode.{formula_of}
use Rattle.formula.specs.Prefix.{prefix_of, entry_count, entry_at}
use Rattle.formula.specs.Store.Laws.{remains_less, remains_none, below_first, below_remains}
use Rattle.report.specs.Dependents.{entry_line, universal_lines}
use Rattle.report.specs.Dependents.Laws.{universal_lines_drop}
use Rattle.report.specs.Dependents.Length.{universal_lines_below}
use Rattle.report.proofs.dependents.write_lines.Goals as goal

pub write_entry_line-next-requires : goal.write_entry_line-next-requires
write_entry_line-next-requires c =
    let l = c.loop-place in
    let p = c.args.tables.prefix.now in
    let F = formula_of p c.args.tables.clauses.now in
    let within : l.place < entry_count p = omega arith in
    record {
      place_in = within;
      place_fits =
          below_first l.next (entry_line F (prefix_of p) (entry_at p l.place)) (universal_lines F (prefix_of p) (drop (suc l.place) (prefix_of p)))
          (rw (universal_lines_drop p l.place within F (prefix_of p)) at (below_remains (universal_lines_below p c.args.tables.clauses.now c.args.tables.admitted) l.invariant));
    }

pub loop-place-preserved : goal.loop-place-preserved
loop-place-preserved c =
    let l = c.loop-place in
    let p = c.args.tables.prefix.now in
    let F = formula_of p c.args.tables.clauses.now in
    let within : l.place < entry_count p = omega arith in
    rw add-one
    (remains_less {piece = entry_line F (prefix_of p) (entry_at p l.place)} (universal_lines F (prefix_of p) (drop (suc l.place) (prefix_of p)))
    (rw (universal_lines_drop p l.place within F (prefix_of p)) at l.invariant) c.write_entry_line-next.ensures)

pub returns : goal.returns
unfolding universal_lines
returns c =
    let p = c.args.tables.prefix.now in
    let past : entry_count p ≤ c.loop-place.place = omega arith in
    remains_none (rw (drop_of_length-le (prefix_of p) past) at c.loop-place.invariant)
