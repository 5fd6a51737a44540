-- `write_dependents` stores the dependents one by one: what is left to store is what the entries that the loop has not passed
-- give. Assumes nothing.
use Prim.Native.Nat.{suc, ◌≤◌, ◌<◌}
use native.Mathlib.Numerals.{add-one}
use native.Mathlib.Omega.{arith}
use borrow.Author.Rules.{rules}
use lib.ListN.{drop, drop_of_length-le}
use Rattle.formula.specs.Prefix.{prefix_of, entry_count}
use Rattle.formula.specs.Prefix.Laws.{entry_at_ranged}
use Rattle.formula.specs.Store.Laws.{remains_less, remains_none, below_first, below_remains}
use Rattle.dependency.specs.Scratch.{row_in}
use Rattle.report.specs.Dependents.{if_dependent}
use Rattle.report.specs.Dependents.Listing.{marked}
use Rattle.report.specs.Dependents.Laws.{marked_drop}
use Rattle.report.proofs.dependents.write_dependents.Goals as goal

pub depends_in-requires : goal.depends_in-requires
depends_in-requires c =
    let within : c.loop-i.i < entry_count c.args.prefix.words.now = omega arith in
    record { scratch_enough = search rules; in_bound = rw c.variable_at-variable.ensures (entry_at_ranged c.args.prefix.words.now c.args.prefix.entries c.loop-i.i within).1 }

pub write_dependent-next-requires : goal.write_dependent-next-requires
write_dependent-next-requires c =
    let a = c.args in
    let i = c.loop-i.i in
    let within : i < entry_count a.prefix.words.now = omega arith in
    let left = marked_drop a.prefix.words.now i within (row_in a.made.now) _ _ c.variable_at-variable.ensures c.depends_in.ensures in
    below_first c.loop-i.next (if_dependent c.depends_in.result c.variable_at-variable.result.0) (marked (row_in a.made.now) (drop (suc i) (prefix_of a.prefix.words.now)))
    (rw left at (below_remains c.requires c.loop-i.invariant))

pub loop-i-preserved : goal.loop-i-preserved
loop-i-preserved c =
    let a = c.args in
    let i = c.loop-i.i in
    let within : i < entry_count a.prefix.words.now = omega arith in
    let left = marked_drop a.prefix.words.now i within (row_in a.made.now) _ _ c.variable_at-variable.ensures c.depends_in.ensures in
    rw add-one (remains_less (marked (row_in a.made.now) (drop (suc i) (prefix_of a.prefix.words.now))) (rw left at c.loop-i.invariant) c.write_dependent-next.ensures)

pub returns : goal.returns
unfolding marked
returns c =
    let past : entry_count c.args.prefix.words.now ≤ c.loop-i.i = omega arith in
    remains_none (rw (drop_of_length-le (prefix_of c.args.prefix.words.now) past) at c.loop-i.invariant)
