-- `crosses_by` asks each word by the marks and the flags. Assumes nothing.
use mathlib.Core.Path.{◌≡◌, ◌∙◌}
use borrow.Author.Rules.{rules}
use lib.ListN.{take, drop}
use lib.IntN.{ℤ}
use Rattle.inference.specs.Clause.{words_of}
use Rattle.inference.specs.Words.{without, InRange}
use Rattle.inference.specs.Marks.{alone, marks_in}
use Rattle.bits.specs.Flags.{flags}
use Rattle.checker.specs.Step.{marks_of}
use Rattle.checker.specs.Merge.{universals_in, flagged, crosses_by}
use Rattle.checker.specs.Merge.Laws.{crosses_any}
use Rattle.checker.proofs.merge.crosses_by.Goals as goal

pub any_word-requires : goal.any_word-requires
any_word-requires c x m =
    let word : InRange x = c.args.clause.in_range x m in
    search rules

pub returns : goal.returns
returns c =
    let s = c.args.scratch.now in
    let told = crosses_by (marks_of s) (universals_in s) in
    let marks : c.unwrap-marks.result.now ≡ take 256 s = search rules in
    let mergeable : c.unwrap-mergeable.result.now ≡ take 128 (drop 512 s) = search rules in
    c.any_word.ensures (λ (x : ℤ). told (without c.args.except (alone x)))
    (λ x b m h.
    let k : b ≡ crosses_by (marks_in c.unwrap-marks.result.now) (flags c.unwrap-mergeable.result.now) (without c.args.except (alone x)) = search rules in
    rw (marks, mergeable) at k)
    ∙ crosses_any (flagged (universals_in s)) (marks_of s) c.args.except (words_of c.args.clause)
