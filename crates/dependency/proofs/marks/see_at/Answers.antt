-- `see_at` answers by its three tests. Assumes nothing.
use mathlib.Core.Path.{sym, ◌∙◌}
use Prim.Native.Nat.{◌/◌}
use borrow.Author.Tests.{eq-eqb, ne_eqb}
use Rattle.dependency.specs.Bits.Words.{see_flag}
use Rattle.dependency.proofs.marks.see_at.Goals as goal

pub returns-then-seen-eq0 : goal.returns-then-seen-eq0
returns-then-seen-eq0 c =
    let a = c.args in
    let within = a.slot.among_marks in
    rw (see_flag a.positive a.marks.now a.slot.at within.0 within.1 (a.slot.at / 2) a.seen, sym c.is_entry.ensures ∙ c.if-is_entry.true, eq-eqb a.seen 0 c.if-seen-eq0.true)

pub returns-then-seen-variable : goal.returns-then-seen-variable
returns-then-seen-variable c =
    let a = c.args in
    let within = a.slot.among_marks in
    rw (see_flag a.positive a.marks.now a.slot.at within.0 within.1 (a.slot.at / 2) a.seen, sym c.is_entry.ensures ∙ c.if-is_entry.true, ne_eqb a.seen 0 c.if-seen-eq0.false, eq-eqb a.seen (a.slot.at / 2) c.if-seen-variable.true)

pub returns-then-is_entry : goal.returns-then-is_entry
returns-then-is_entry c =
    let a = c.args in
    let within = a.slot.among_marks in
    rw (see_flag a.positive a.marks.now a.slot.at within.0 within.1 (a.slot.at / 2) a.seen, sym c.is_entry.ensures ∙ c.if-is_entry.true, ne_eqb a.seen 0 c.if-seen-eq0.false, ne_eqb a.seen (a.slot.at / 2) c.if-seen-variable.false)

pub returns : goal.returns
returns c =
    let a = c.args in
    let within = a.slot.among_marks in
    rw (see_flag a.positive a.marks.now a.slot.at within.0 within.1 (a.slot.at / 2) a.seen, sym c.is_entry.ensures ∙ c.if-is_entry.false)
