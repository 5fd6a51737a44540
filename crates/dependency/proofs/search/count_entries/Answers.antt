-- `count_entries` counts the two searches' parts. Assumes nothing.
use Prim.Native.Nat.{ℕ}
use mathlib.Core.List.{List}
use mathlib.Core.Path.{◌≡◌, ◌∙◌}
use native.Mathlib.Omega.{arith}
use borrow.Author.Rules.{rules}
use lib.ListN.{length, take, drop, length-drop}
use lib.Seq.{length-take-le}
use Rattle.bits.specs.Flags.Laws.{total_bound}
use Rattle.dependency.specs.Bits.Count.{entries_positive, entries_negative}
use Rattle.dependency.proofs.search.count_entries.Goals as goal

-- how long the two parts are
part_length : (bytes : List ℕ) → length bytes ≡ 640 → length (take 256 bytes) ≡ 256
part_length bytes size = length-take-le 256 bytes (omega (arith, size))

rest_length : (bytes : List ℕ) → length bytes ≡ 640 → length (take 256 (drop 384 bytes)) ≡ 256
rest_length bytes size = length-take-le 256 (drop 384 bytes) (rw (length-drop 384 bytes, size) (omega arith))

pub overflow_add-result : goal.overflow_add-result
overflow_add-result c =
    let marks = c.args.marks.now in
    let size : length marks ≡ 640 = search rules in
    let a = total_bound (take 256 marks) in
    let b = total_bound (take 256 (drop 384 marks)) in
    omega (arith, a, b, part_length marks size, rest_length marks size, c.count-2.ensures, c.count.ensures)

pub returns : goal.returns
returns c =
    let marks = c.args.marks.now in
    let size : length marks ≡ 640 = search rules in
    omega (arith, c.count.ensures ∙ entries_positive marks size, c.count-2.ensures ∙ entries_negative marks size)
