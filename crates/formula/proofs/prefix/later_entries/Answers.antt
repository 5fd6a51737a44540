-- `later_entries`: the words after the first three. Assumes nothing.
use Prim.Native.Nat.{◌-◌}
use native.Mathlib.Omega.{arith}
use lib.ListN.{length, drop, length-drop}
use lib.Seq.{take_all}
use Rattle.formula.specs.Prefix.{later_entries}
use Rattle.formula.specs.Prefix.Laws.{entry_count_lem}
use Rattle.formula.proofs.prefix.later_entries.Goals as goal

pub slice_bounds-result-count : goal.slice_bounds-result-count
slice_bounds-result-count c = omega (arith, entry_count_lem c.args.prefix.now)

pub slice_bounds-result-start : goal.slice_bounds-result-start
slice_bounds-result-start c = omega (arith, entry_count_lem c.args.prefix.now)

pub returns : goal.returns
unfolding later_entries
returns c = let ws = c.args.prefix.now in take_all (length ws - 3) (drop 3 ws) (omega (arith, length-drop 3 ws))
