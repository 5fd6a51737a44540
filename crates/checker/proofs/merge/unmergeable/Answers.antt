-- `unmergeable`: where an opposite is met, the universals right of the pivot are filled in, and it is looked for again. Assumes nothing.
use Prim.Native.Nat.{ℕ}
use mathlib.Core.Path.{◌≡◌, ap, ap₂, sym, ◌∙◌}
use mathlib.Core.List.{List, ◌++◌}
use native.Mathlib.Omega.{arith}
use borrow.Author.Rules.{rules}
use borrow.Rule.Slice.PartMut.{mid_len}
use lib.ListN.{length, take, drop, replicate}
use mir.Syntax.{w32}
use mir.Val.{to_z, of_z}
use Rattle.qbf.specs.Formula.{universal, after}
use Rattle.bits.specs.Flags.{flags}
use Rattle.dependency.specs.Scratch.{small_bound}
use Rattle.formula.specs.Clear.Laws.{clear_all}
use Rattle.formula.specs.Prefix.{prefix_of}
use Rattle.inference.specs.Clause.{words_of}
use Rattle.inference.specs.Words.{without}
use Rattle.inference.specs.Scope.{mergeable_in}
use Rattle.checker.specs.Step.{marks_of}
use Rattle.inference.specs.Existentials.{quantified_flags}
use Rattle.inference.proofs.Theorems.Result.Laws.{without_in_range}
use Rattle.checker.specs.Merge.{merge_at, universals_in, crosses_by}
use Rattle.checker.specs.Merge.Laws.{filled_size, filled_before, filled_part, marks_before, none_met, none_flagged, flags_cross}
use Rattle.formula.specs.Clear.{clear_from}
use Rattle.checker.proofs.merge.unmergeable.Goals as goal

-- The scratch with the flags cleared.
module _ (s bytes : List ℕ) (size : length s ≡ small_bound) (part : length bytes ≡ length (take 128 (drop merge_at s))) (told : bytes ≡ clear_from 0 0 (take 128 (drop merge_at s))) where
  abbrev cleared : List ℕ
  cleared = take merge_at s ++ (bytes ++ drop 128 (drop merge_at s))

  no_flags : bytes ≡ replicate 128 0
  no_flags = told ∙ clear_all 0 (take 128 (drop 512 s)) ∙ ap (λ (n : ℕ). replicate {A = ℕ} n 0) (mid_len 512 640 s (omega (arith, size)))

  cleared_part : take 128 (drop merge_at cleared) ≡ replicate 128 0
  cleared_part = filled_part s bytes size part ∙ no_flags

pub fill_quantified-requires : goal.fill_quantified-requires
fill_quantified-requires c =
    cleared_part c.args.scratch.now c.clear_tail.new.buffer (search rules) c.clear_tail.auto.buffer c.clear_tail.ensures

pub returns-then-crosses_by : goal.returns-then-crosses_by
returns-then-crosses_by c =
    let s = c.args.scratch.now in
    let zeros = c.clear_tail.new.buffer in
    let t = cleared s zeros (search rules) c.clear_tail.auto.buffer c.clear_tail.ensures in
    let bytes = c.fill_quantified.new.bytes in
    let s' = take merge_at t ++ (bytes ++ drop 128 (drop merge_at t)) in
    let P = prefix_of c.args.prefix.words.now in
    let e = c.args.pivot.0 in
    let D = without c.args.except (words_of c.args.right) in
    let x : to_z w32 (of_z w32 c.args.except) ≡ c.args.except = search rules in
    let size : length t ≡ small_bound = filled_size s zeros (search rules) c.clear_tail.auto.buffer in
    let before : take merge_at s' ≡ take merge_at s = filled_before t bytes size c.fill_quantified.auto.bytes ∙ filled_before s zeros (search rules) c.clear_tail.auto.buffer in
    let told : c.crosses_by-then-crosses_by.result ≡ crosses_by (marks_of s') (universals_in s') D = rw x at c.crosses_by-then-crosses_by.ensures in
    let fs : universals_in s' ≡ quantified_flags universal (after e P) =
    ap flags (filled_part t bytes size c.fill_quantified.auto.bytes) ∙ c.fill_quantified.ensures ∙ ap (quantified_flags universal) c.right_of-behind.ensures in (
      told ∙ ap₂ (λ (m fs : List ℕ). crosses_by m fs D) (marks_before s s' before) fs ∙ flags_cross P c.args.prefix.entries.ranged e (marks_of s) D (without_in_range c.args.except _ c.args.right.in_range),
      before,
    )

pub returns : goal.returns
returns c =
    let s = c.args.scratch.now in
    let zeros = c.clear_tail.new.buffer in
    let s' = cleared s zeros (search rules) c.clear_tail.auto.buffer c.clear_tail.ensures in
    let D = without c.args.except (words_of c.args.right) in
    let x : to_z w32 (of_z w32 c.args.except) ≡ c.args.except = search rules in
    let before : take merge_at s' ≡ take merge_at s = filled_before s zeros (search rules) c.clear_tail.auto.buffer in
    let told : c.crosses_by.result ≡ crosses_by (marks_of s') (universals_in s') D = rw x at c.crosses_by.ensures in
    let same : crosses_by (marks_of s') (universals_in s') D ≡ crosses_by (marks_of s) (flags (replicate 128 0)) D =
    ap₂ (λ (m fs : List ℕ). crosses_by m fs D) (marks_before s s' before) (ap flags (cleared_part s zeros (search rules) c.clear_tail.auto.buffer c.clear_tail.ensures)) in
    (sym (none_met (flags (replicate 128 0)) none_flagged (mergeable_in (prefix_of c.args.prefix.words.now) c.args.pivot.0) (marks_of s) D (sym same ∙ sym told ∙ c.if-crosses_by.false)), before)
