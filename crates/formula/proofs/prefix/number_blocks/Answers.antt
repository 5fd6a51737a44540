-- `number_blocks` has put the records of the first entries. Assumes nothing.
use Rattle.std.proofs.Common.{◌≡◌, suc, ◌+◌, ◌<◌, arith}
use Rattle.formula.specs.Prefix.{entry_count}
use Rattle.formula.specs.Prefix.Laws.{number_begins, number_entries, number_count, number_fits, number_entry, number_step, number_ends, block_bound, entry_at_ranged}
use Rattle.formula.proofs.prefix.number_blocks.Goals as goal

pub loop-i-init : goal.loop-i-init
loop-i-init c = number_begins c.args.prefix.now

pub put_entry-requires-clause-has_room : goal.put_entry-requires-clause-has_room
put_entry-requires-clause-has_room c = number_fits c.loop-i.invariant (omega (arith, number_count c.loop-i.invariant))

pub put_entry-requires-clause-in_bound : goal.put_entry-requires-clause-in_bound
put_entry-requires-clause-in_bound c =
    let l = c.loop-i in
    let h : l.i < entry_count l.prefix = omega (arith, number_count l.invariant) in
    let variable = entry_at_ranged l.prefix (number_entries l.invariant c.requires.entries) l.i h in
    (omega (arith, variable.1), omega (arith, block_bound l.last l.block c.quantifier_at-quantifier.result))

pub loop-i-preserved : goal.loop-i-preserved
loop-i-preserved c =
    let l = c.loop-i in
    let h : l.i < entry_count l.prefix = omega (arith, number_count l.invariant) in
    let q = c.quantifier_at-quantifier in
    let one : l.i + 1 ≡ suc l.i = omega arith in
    let x = number_entry l.invariant c.variable_at-variable.result.0 q.result c.variable_at-variable.ensures q.ensures in
    rw (c.put_entry.ensures, x, c.next_block-block.ensures, q.ensures, one) (number_step l.invariant h (number_entries l.invariant c.requires.entries))

pub returns : goal.returns
returns c = number_ends c.loop-i.invariant c.requires.whole_entries (omega (arith, number_count c.loop-i.invariant))
