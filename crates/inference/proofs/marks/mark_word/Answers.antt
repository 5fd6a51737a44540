-- `mark_word` looks at the opposite's mark and stores its own. Assumes nothing.
use Prim.Native.Nat.{ℕ}
use mathlib.Core.Path.{◌≡◌, ap, ◌∙◌}
use lib.Dec.{eqb}
use lib.ListN.{get_or, set}
use lib.IntN.{neg_ℤ}
use mir.Syntax.{w32}
use mir.Val.{to_z, of_z}
use mir.Facts.{to_z-of_z}
use Rattle.inference.specs.Marks.{slot_at, marks_in}
use Rattle.inference.specs.Marks.Laws.{slot_bits, mark_stored, mark_left_out, mark_one}
use Rattle.inference.proofs.Signed.{bits_same, bits_apart, read_slot}
use Rattle.inference.proofs.marks.mark_word.Goals as goal

pub returns-then-except-word : goal.returns-then-except-word
returns-then-except-word c =
    mark_left_out (marks_in c.args.marks.now) c.args.except c.args.word
    (bits_same c.args.except c.args.word c.ranges.except c.ranges.word c.if-except-word.true)

pub returns : goal.returns
returns c =
    let at = read_slot _ c.ranges.word c.slot.ensures in
    let marks = c.args.marks.now in
    let x = c.args.word in
    let e : to_z w32 (of_z w32 x) ≡ x = to_z-of_z c.ranges.word in
    let met : c.opposite_marked-met.result ≡ eqb (get_or (marks_in marks) (slot_at (neg_ℤ x)) 0) 1 = rw e at c.opposite_marked-met.ensures in
    let left : marks_in c.put.new.bytes ≡ set (marks_in marks) (slot_at x) 1 =
    mark_stored marks c.put.new.bytes c.slot.result 1 (slot_bits c.args.word c.slot.result at c.requires).0 c.put.ensures ∙ ap (λ (s : ℕ). set (marks_in marks) s 1) at in
    rw (met, left)
    (mark_one (marks_in marks) c.args.except x (bits_apart c.args.except x c.if-except-word.false))
