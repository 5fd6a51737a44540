-- `mark_both` is `mark_clause` of one clause after the other. Assumes nothing.
use mathlib.Core.Path.{◌≡◌}
use lib.IntN.{pos, neg_ℤ}
use mir.Syntax.{w32}
use mir.Val.{to_z, of_z}
use mir.Facts.{to_z-of_z}
use Rattle.inference.specs.Words.{without}
use Rattle.inference.specs.Clause.{words_of}
use Rattle.inference.specs.Marks.{marks_in, Marked}
use Rattle.inference.proofs.Theorems.Result.Laws.{both_marked}
use Rattle.inference.proofs.Signed.{pivot_word, opposite_word_fits}
use Rattle.inference.proofs.result.mark_both.Goals as goal

pub returns : goal.returns
returns c =
    let start = c in
    let first = c in
    let second = c in
    let e = pos start.args.pivot.0 in
    let v : to_z w32 start.args.pivot.0 ≡ e = pivot_word start.args.pivot.0 start.requires in
    let l : c.literal-literal.result.0 ≡ e = c.literal-literal.ensures in
    let n : first.negated-opposite.result.0 ≡ neg_ℤ e = rw l at first.negated-opposite.ensures in
    let f : to_z w32 (of_z w32 (neg_ℤ e)) ≡ neg_ℤ e = to_z-of_z (opposite_word_fits start.args.pivot.0 start.requires) in
    let a : Marked (marks_in start.args.marks.now) (without e (words_of start.args.left)) first.mark_clause-first.result (marks_in first.mark_clause-first.new.marks) = rw (l, v) at first.mark_clause-first.ensures in
    let b : Marked (marks_in first.mark_clause-first.new.marks) (without (neg_ℤ e) (words_of start.args.right)) second.mark_clause-second.result (marks_in second.mark_clause-second.new.marks) = rw (n, f) at second.mark_clause-second.ensures in
    both_marked e _ _ _ _ _ _ _ a b
