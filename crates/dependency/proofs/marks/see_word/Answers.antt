-- `see_word` looks at the flags of the word's literal. Assumes nothing.
use mathlib.Core.Path.{◌≡◌, ap, ◌∙◌}
use mathlib.Core.Bool.{Bool, true, false}
use native.Mathlib.Omega.{arith}
use Prim.Native.Nat.{ℕ, ◌<◌, ◌/◌}
use lib.ListN.{get_or}
use mir.Syntax.{w32}
use mir.Val.{to_z, of_z}
use borrow.Author.Rules.{rules}
use Rattle.formula.specs.Word.{word_of, slot_of}
use Rattle.formula.specs.Word.Laws.{slot_bound}
use Rattle.dependency.specs.Marks.{see_at, see_word}
use Rattle.dependency.specs.Marks.Laws.{see_nothing, see_literal}
use Rattle.dependency.specs.Bits.{marks_in, seen_by}
use Rattle.dependency.proofs.marks.see_word.Tie as tie
use Rattle.dependency.proofs.marks.see_word.Lts as lts
use Rattle.dependency.proofs.marks.see_word.Reads as reads
use Rattle.dependency.proofs.marks.see_word.Goals as goal

-- the place, and that it is among the marks
slot_told : (c : lts.After-slot tie.the-claims reads.Pre reads.Post) → c.slot-at.result ≡ slot_of (word_of c.args.word)
slot_told c =
    let w = c.args.word in
    let e : to_z w32 (of_z w32 w) ≡ w = search rules in
    rw e at c.slot-at.ensures

within : (c : lts.After-slot tie.the-claims reads.Pre reads.Post) → c.slot-at.result < 2050
within c = rw (slot_told c) (slot_bound c.args.word)

pub returns-then-at-lt2 : goal.returns-then-at-lt2
returns-then-at-lt2 c s =
    let a = c.args in
    see_nothing a.word (marks_in s a.marks.now) (seen_by s a.seen) (rw (slot_told c.before) at c.if-at-lt2.true)

pub invariant_of-slot : goal.invariant_of-slot
invariant_of-slot c = record { among_marks = (c.if-at-lt2.false, within c.before) }

-- for either search
seen :
    (c : lts.Else1 tie.the-claims reads.Pre reads.Post) (s : Bool) (n r : ℕ) → r ≡ see_at (get_or (marks_in s c.args.marks.now) c.slot-at.result 0) (c.slot-at.result / 2) n
    → r ≡ see_word (marks_in s c.args.marks.now) (word_of c.args.word) n
seen c s n r e =
    let a = c.args in
    let at = slot_told c.before in
    e
    ∙ ap (λ (p : ℕ). see_at (get_or (marks_in s a.marks.now) p 0) (p / 2) n) at
    ∙ see_literal (word_of a.word) (marks_in s a.marks.now) n (λ z. let l = c.if-at-lt2.false in omega arith)

pub returns : goal.returns
returns c true = let a = c.args in seen c.before.before.before true a.seen.positive c.see_at.result c.see_at.ensures
returns c false = let a = c.args in seen c.before.before.before false a.seen.negative c.see_at-2.result c.see_at-2.ensures
