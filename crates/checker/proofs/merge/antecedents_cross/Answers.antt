-- `antecedents_cross`: one antecedent is marked, the other gone through, the marks wiped. Assumes nothing.
use Prim.Native.Nat.{ℕ}
use mathlib.Core.Path.{◌≡◌, ap, sym, ◌∙◌}
use mathlib.Core.List.{List, ◌++◌}
use native.Mathlib.Omega.{arith}
use borrow.Rule.Slice.PartMut.{same_len_mid}
use lib.ListN.{length, take, drop}
use lib.Seq.{take_at, drop_at, length-take-le}
use lib.IntN.{ℤ, pos, neg_ℤ}
use mir.Syntax.{w32}
use mir.Val.{to_z, of_z}
use mir.Facts.{to_z-of_z}
use Rattle.dependency.specs.Scratch.{small_bound}
use Rattle.inference.specs.Clause.{words_of}
use Rattle.formula.specs.Prefix.{prefix_of}
use Rattle.inference.specs.Words.{Words, without, AllInRange}
use Rattle.inference.specs.Scope.{mergeable_in}
use Rattle.inference.specs.Steps.{crosses}
use Rattle.inference.specs.Marks.Laws.{clean_whole, marked_whole}
use Rattle.inference.specs.Marks.{marks_in, Marked, clean as clean_marks}
use Rattle.checker.specs.Step.{Clean, marks_of}
use Rattle.inference.proofs.Theorems.Result.Laws.{without_in_range, marked_showing}
use Rattle.checker.specs.Merge.{crosses_marks, Crossed}
use mathlib.Core.Bool.{Bool}
use borrow.Author.Rules.{rules}
use Rattle.inference.specs.declared.read.Family.TheVariants.{LongDistance}
use Rattle.checker.specs.Merge.Laws.{shown_crosses, kept_before}
use Rattle.inference.proofs.Signed.{pivot_word, opposite_word_fits}
use Rattle.checker.proofs.merge.antecedents_cross.Goals as goal

-- What was found, and how the scratch is left: `bytes` are the marks of the one antecedent, `scratch'` the scratch after the search.
module _ (scratch bytes scratch' : List ℕ) (clean : Clean scratch) (whole : length bytes ≡ 256) where
  abbrev scratch-marked : List ℕ
  scratch-marked = bytes ++ drop 256 scratch

  told_at :
      (may : ℕ → Bool) (e : ℤ) (C D : Words) (found met : Bool) → AllInRange C → Marked (marks_of scratch) (without e C) met (marks_in bytes)
      → found ≡ crosses_marks may (marks_of scratch-marked) (without (neg_ℤ e) D) → found ≡ crosses may (without e C) (without (neg_ℤ e) D)
  told_at may e C D found met range h t =
      let shown = marked_showing (without e C) (without_in_range e C range) met _ _ clean.marks h in
      let m : marks_of scratch-marked ≡ marks_in bytes = ap marks_in (take_at bytes (drop 256 scratch) 256 whole) in
      t ∙ ap (λ (k : List ℕ). crosses_marks may k (without (neg_ℤ e) D)) m ∙ shown_crosses may (marks_in bytes) (without e C) (without (neg_ℤ e) D) shown

  crossed_at :
      {found : Bool} (crossed : Bool) (wiped : List ℕ) → length wiped ≡ 256 → marks_in wiped ≡ clean_marks → length scratch' ≡ small_bound
      → take 512 scratch' ≡ take 512 scratch-marked → found ≡ crossed → Crossed LongDistance crossed found scratch (wiped ++ drop 256 scratch')
  crossed_at crossed wiped full cleared size front told =
      record {
        told = told;
        clean =
            record {
              size = same_len_mid 0 256 scratch' wiped (full ∙ sym (length-take-le 256 scratch' (omega (arith, size)))) ∙ size;
              marks = ap marks_in (take_at wiped (drop 256 scratch') 256 full) ∙ cleared;
            };
        kept =
            ap (take 256) (drop_at wiped (drop 256 scratch') 256 full)
            ∙ kept_before scratch-marked scratch' front
            ∙ ap (take 256) (drop_at bytes (drop 256 scratch) 256 whole);
      }

pub returns-in-LongDistance : goal.returns-in-LongDistance
returns-in-LongDistance c =
    let a = c.args in
    let e = pos a.pivot.0 in
    let C = words_of a.left in
    let D = words_of a.right in
    let may = mergeable_in (prefix_of a.prefix.words.now) a.pivot.0 in
    let v : to_z w32 a.pivot.0 ≡ e = pivot_word a.pivot.0 c.requires.pivot_in_range in
    let l : c.literal-literal.result.0 ≡ e = c.literal-literal.ensures in
    let n : c.negated-opposite.result.0 ≡ neg_ℤ e = rw l at c.negated-opposite.ensures in
    let f : to_z w32 (of_z w32 (neg_ℤ e)) ≡ neg_ℤ e = to_z-of_z (opposite_word_fits a.pivot.0 c.requires.pivot_in_range) in
    let bytes = c.mark_clause.new.marks in
    let marks : c.unwrap-marks.result.now ≡ take 256 a.scratch.now = search rules in
    let h : Marked (marks_of a.scratch.now) (without e C) c.mark_clause.result (marks_in bytes) = rw (l, v, marks) at c.mark_clause.ensures in
    let whole = marked_whole bytes (marks_of a.scratch.now) (without e C) _ c.requires.scratch_clean.marks h in
    let full = clean_whole c.wipe.new.marks c.wipe.ensures.left in
    let t : c.unmergeable-crossed.result ≡ crosses_marks may (marks_of (bytes ++ drop 256 a.scratch.now)) (without (neg_ℤ e) D) = rw (n, f) at c.unmergeable-crossed.ensures.0 in
    let told = told_at a.scratch.now bytes c.unmergeable-crossed.new.scratch c.requires.scratch_clean whole may e C D _ _ a.left.in_range h t in
    rw c.in-LongDistance.is
    (crossed_at a.scratch.now bytes c.unmergeable-crossed.new.scratch c.requires.scratch_clean whole _ c.wipe.new.marks full c.wipe.ensures.left (search rules) c.unmergeable-crossed.ensures.1 told)
