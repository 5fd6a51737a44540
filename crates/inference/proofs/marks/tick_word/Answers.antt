-- `tick_word` clears the mark of a word that is marked; a slot below 2 has none. Assumes nothing.
use Rattle.std.specs.Prelude.{ℕ, ◌≤◌, ◌-◌, ◌≡◌, List, Bool, false, ℤ}
use Rattle.std.proofs.Common.{ap, sym, ◌∙◌}
use lib.Dec.{eqb}
use lib.ListN.{get_or}
use Rattle.bits.specs.Flags.{flags}
use Rattle.inference.specs.Marks.{slot_at, marks_in}
use Rattle.inference.specs.Marks.Laws.{mark_read, mark_stored, mark_none, tick_one, tick_none}
use Rattle.inference.proofs.Signed.{read_slot}
use Rattle.inference.proofs.marks.tick_word.Goals as goal

-- what was asked of the marks
marked_of : (marks : List ℕ) (word : ℤ) (slot : ℕ) (b : Bool) → slot ≡ slot_at word → 2 ≤ slot → b ≡ eqb (get_or (flags marks) (slot - 2) 0) 1 → b ≡ eqb (get_or (marks_in marks) (slot_at word) 0) 1
marked_of marks word slot b s h e =
    e ∙ ap (λ (n : ℕ). eqb n 1) (mark_read marks slot h) ∙ ap (λ (k : ℕ). eqb (get_or (marks_in marks) k 0) 1) s

pub returns-then-slot-lt2 : goal.returns-then-slot-lt2
returns-then-slot-lt2 c =
    let marks = c.args.marks.now in
    let none : eqb (get_or (marks_in marks) (slot_at c.args.word) 0) 1 ≡ false =
    ap (λ (n : ℕ). eqb n 1) (ap (λ (s : ℕ). get_or (marks_in marks) s 0) (sym (read_slot _ c.ranges.word c.slot-slot.ensures)) ∙ mark_none marks c.slot-slot.result c.if-slot-lt2.true) in
    tick_none (marks_in marks) c.args.word none

pub returns-then-is_set : goal.returns-then-is_set
returns-then-is_set c =
    let marks = c.args.marks.now in
    let slot = read_slot _ c.ranges.word c.slot-slot.ensures in
    rw (mark_stored marks c.put.new.bytes c.slot-slot.result 0 c.if-slot-lt2.false c.put.ensures, slot)
    (tick_one (marks_in marks) c.args.word (sym (marked_of marks c.args.word c.slot-slot.result _ slot c.if-slot-lt2.false c.is_set.ensures) ∙ c.if-is_set.true))

pub returns : goal.returns
returns c =
    let marks = c.args.marks.now in
    let slot = read_slot _ c.ranges.word c.slot-slot.ensures in
    tick_none (marks_in marks) c.args.word (sym (marked_of marks c.args.word c.slot-slot.result _ slot c.if-slot-lt2.false c.is_set.ensures) ∙ c.if-is_set.false)
