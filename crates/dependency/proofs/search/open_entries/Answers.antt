-- `open_entries` runs down the prefix: what is left of it gives the same marks. Assumes nothing.
use Prim.Native.Nat.{◌≤◌, ◌<◌}
use native.Mathlib.Numerals.{add-one}
use native.Mathlib.Omega.{arith}
use lib.ListN.{length, drop_of_length-le}
use Rattle.formula.specs.Prefix.{prefix_of, entry_count}
use Rattle.formula.specs.Prefix.Laws.{entries_drop}
use Rattle.dependency.specs.Search.{open_entries}
use Rattle.dependency.proofs.search.open_entries.Goals as goal

pub loop-i-preserved : goal.loop-i-preserved
unfolding open_entries
loop-i-preserved c =
    let l = c.loop-i in
    let within : l.i < entry_count c.args.prefix.words.now = omega arith in (
      λ s. rw (c.open_entry.ensures.marks s, add-one) (rw (entries_drop _ _ within) at (l.invariant.0 s)),
      c.open_entry.ensures.none,
    )

pub returns : goal.returns
unfolding open_entries
returns c =
    let l = c.loop-i in
    let P = prefix_of c.args.prefix.words.now in
    let past : length P ≤ l.i = omega arith in
    record { marks = λ s. rw (drop_of_length-le P past) at (l.invariant.0 s); none = l.invariant.1 }
