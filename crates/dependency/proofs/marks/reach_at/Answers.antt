-- `reach_at` stores by its three tests. Assumes nothing.
use mathlib.Core.Path.{ap, sym, ◌∙◌}
use Prim.Native.Nat.{ℕ}
use borrow.Author.Rules.{rules}
use lib.ListN.{set}
use Rattle.bits.specs.Flags.{flags}
use Rattle.dependency.specs.Bits.Words.{reach_none, reach_same, reach_closed, reach_open}
use Rattle.dependency.proofs.marks.reach_at.Goals as goal

pub returns-then-entry-eq0 : goal.returns-then-entry-eq0
returns-then-entry-eq0 c =
    let a = c.args in
    let within = a.slot.among_marks in
    reach_none a.positive a.marks.now a.slot.at within.0 within.1 a.entry c.if-entry-eq0.true

pub returns-then-entry-variable : goal.returns-then-entry-variable
returns-then-entry-variable c =
    let a = c.args in
    let within = a.slot.among_marks in
    reach_same a.positive a.marks.now a.slot.at within.0 within.1 a.entry c.if-entry-eq0.false c.if-entry-variable.true

pub returns-then-is_set : goal.returns-then-is_set
returns-then-is_set c =
    let a = c.args in
    let within = a.slot.among_marks in
    reach_open a.positive a.marks.now a.slot.at within.0 within.1 a.entry c.if-entry-eq0.false c.if-entry-variable.false
    (sym c.is_set.ensures ∙ c.if-is_set.true) (search rules) c.put.new.bytes
    (c.put.ensures ∙ ap (λ (i : ℕ). set (flags a.marks.now) i 1) c.entry_flag.ensures)

pub returns-else-is_set : goal.returns-else-is_set
returns-else-is_set c =
    let a = c.args in
    let within = a.slot.among_marks in
    reach_closed a.positive a.marks.now a.slot.at within.0 within.1 a.entry c.if-entry-eq0.false c.if-entry-variable.false
    (sym c.is_set.ensures ∙ c.if-is_set.false)
