-- `reach_word` stores at the flag of the opposite of the word's literal, for one search and then the other. Assumes nothing.
use mathlib.Core.Path.{◌≡◌, ap, sym, ◌∙◌}
use mathlib.Core.Bool.{true, false, false≢true}
use native.Mathlib.Omega.{arith}
use Prim.Native.Nat.{ℕ, ◌<◌, ◌/◌}
use mathlib.Core.List.{List}
use mir.Syntax.{w32}
use mir.Val.{to_z, of_z}
use borrow.Author.Rules.{rules}
use Rattle.formula.specs.Word.{word_of, slot_of, opposite}
use Rattle.dependency.specs.Marks.{reach_at, reach_word}
use Rattle.dependency.specs.Marks.Laws.{opposite_slot_bound, reach_nothing, reach_literal}
use Rattle.dependency.specs.Bits.{marks_in, seen_by}
use Rattle.dependency.proofs.marks.reach_word.Tie as tie
use Rattle.dependency.proofs.marks.reach_word.Lts as lts
use Rattle.dependency.proofs.marks.reach_word.Reads as reads
use Rattle.dependency.proofs.marks.reach_word.Goals as goal

-- the place, and that it is among the marks
slot_told : (c : lts.After-opposite_slot tie.the-claims reads.Pre reads.Post) → c.opposite_slot-at.result ≡ slot_of (opposite (word_of c.args.word))
slot_told c =
    let w = c.args.word in
    let e : to_z w32 (of_z w32 w) ≡ w = search rules in
    rw e at c.opposite_slot-at.ensures

within : (c : lts.After-opposite_slot tie.the-claims reads.Pre reads.Post) → c.opposite_slot-at.result < 2050
within c = rw (slot_told c) (opposite_slot_bound c.args.word)

pub returns-then-at-lt2 : goal.returns-then-at-lt2
returns-then-at-lt2 c s =
    let a = c.args in
    reach_nothing a.word (marks_in s a.marks.now) (seen_by s a.seen) (rw (slot_told c.before) at c.if-at-lt2.true)

pub invariant_of-slot : goal.invariant_of-slot
invariant_of-slot c = record { among_marks = (c.if-at-lt2.false, within c.before.before) }

-- for either search, from the marks m
reached :
    (c : lts.Else1 tie.the-claims reads.Pre reads.Post) (m : List ℕ) (n : ℕ) → reach_at n (c.opposite_slot-at.result / 2) c.opposite_slot-at.result m ≡ reach_word n (word_of c.args.word) m
reached c m n =
    let at = slot_told c.before in
    ap (λ (p : ℕ). reach_at n (p / 2) p m) at
    ∙ reach_literal (word_of c.args.word) m n (λ z. let l = c.if-at-lt2.false in omega arith)

pub returns : goal.returns
returns c true =
    let a = c.args in
    c.reach_at-2.ensures.other true (λ e. false≢true (sym e))
    ∙ c.reach_at.ensures.own
    ∙ reached c.before.before.before.before.before (marks_in true a.marks.now) a.seen.positive
returns c false =
    let a = c.args in
    c.reach_at-2.ensures.own
    ∙ ap (λ (m : List ℕ). reach_at a.seen.negative (c.opposite_slot-at.result / 2) c.opposite_slot-at.result m) (c.reach_at.ensures.other false false≢true)
    ∙ reached c.before.before.before.before.before (marks_in false a.marks.now) a.seen.negative
