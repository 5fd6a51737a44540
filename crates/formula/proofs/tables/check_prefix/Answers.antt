-- `check_prefix` goes on at each record. Assumes nothing.
use Rattle.std.proofs.Common.{◌≡◌, ◌+◌, ◌*◌, ◌<◌, length, ap, sym, arith, rules, ℕ, List, ℤ}
use Rattle.formula.specs.Prefix.{entry_count}
use Rattle.formula.specs.Prefix.Laws.{entry_count_lem}
use Rattle.formula.specs.Refusal.{passes}
use Rattle.formula.proofs.Record.{prefix_begins, prefix_goes_on, prefix_ends}
use Rattle.formula.proofs.tables.check_prefix.Goals as goal

pub loop-i-init : goal.loop-i-init
loop-i-init c = prefix_begins c.args.prefix.now c.args.marks.now c.requires

-- the whole entries of the prefix end within it
whole : (ws : List ℤ) (i n : ℕ) → n ≡ entry_count ws → i < n → 3 * i + 2 < length ws
whole ws i n e h = omega (arith, entry_count_lem ws)

pub check_entry-requires-clause-at_in_bounds : goal.check_entry-requires-clause-at_in_bounds
check_entry-requires-clause-at_in_bounds c =
    let I = c.loop-i.invariant in
    let h = I.within in
    let k = I.low in
    (whole c.args.prefix.now c.loop-i.i _ c.entry_count-i-end.ensures c.loop-i-test.true, I.threes, search rules)

pub loop-i-preserved : goal.loop-i-preserved
loop-i-preserved c =
    let i = c.loop-i.i in
    let next : 3 * (i + 1) ≡ 3 * i + 3 = omega arith in
    let step = rw c.in_ok-last.was at c.check_entry.ensures in
    rw next (prefix_goes_on c.loop-i.invariant (whole c.args.prefix.now i _ c.entry_count-i-end.ensures c.loop-i-test.true) _ _ step)

pub returns : goal.returns
returns c =
    let e = prefix_ends c.loop-i.invariant (omega (arith, entry_count_lem c.args.prefix.now)) in
    record { value = ap passes (sym e.0); listing = e.1 }
