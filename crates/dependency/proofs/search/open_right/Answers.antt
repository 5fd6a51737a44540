-- `open_right` clears and opens. Assumes nothing.
use Prim.Native.Nat.{ℕ}
use mathlib.Core.List.{List}
use mathlib.Core.Path.{◌≡◌, ap, ◌∙◌}
use borrow.Author.Rules.{rules}
use lib.ListN.{length, replicate, get_or-replicate}
use Rattle.bits.specs.Flags.{flags}
use Rattle.bits.specs.Flags.Laws.{flags_zeros}
use Rattle.formula.specs.Clear.{clear_from}
use Rattle.dependency.specs.Bits.{marks_in, NoEntries}
use Rattle.dependency.specs.Bits.Laws.{marks_zero}
use Rattle.dependency.specs.Bits.Words.{entry_within}
use Rattle.dependency.proofs.search.open_right.Goals as goal

-- marks that were cleared
cleared : (marks marks' : List ℕ) → length marks ≡ 640 → marks' ≡ clear_from 0 0 marks → flags marks' ≡ replicate 5120 0
unfolding clear_from
cleared marks marks' size e = ap flags (rw size at e) ∙ flags_zeros 640

no_entries : (marks : List ℕ) → flags marks ≡ replicate 5120 0 → NoEntries marks
no_entries marks e s i h = rw e (get_or-replicate {A = ℕ} 5120 _ 0 0 (entry_within s i h))

pub open_entries-requires : goal.open_entries-requires
open_entries-requires c =
    no_entries _ (cleared c.args.marks.now _ (search rules) c.clear_tail.ensures)

pub returns : goal.returns
unfolding marks_in
returns c =
    let done = c.open_entries.ensures in
    record {
      marks = λ s. rw (c.right_of-from.ensures, cleared c.args.marks.now _ (search rules) c.clear_tail.ensures, marks_zero s 5120) at (done.marks s);
      none = done.none;
    }
