-- `count_open` counts the variables' part. Assumes nothing.
use mathlib.Core.Path.{◌≡◌}
use mathlib.Core.Bool.{true, false}
use native.Mathlib.Omega.{arith}
use borrow.Author.Rules.{rules}
use lib.ListN.{length, take, drop, length-drop}
use lib.Seq.{length-take-le}
use Rattle.bits.specs.Flags.Laws.{total_bound}
use Rattle.dependency.specs.Bits.Count.{open_literals}
use Rattle.dependency.proofs.search.count_open.Goals as goal

pub overflow_mul-result : goal.overflow_mul-result
overflow_mul-result c =
    let marks = c.args.marks.now in
    let size : length marks ≡ 640 = search rules in
    let b = total_bound (take 128 (drop 256 marks)) in
    let l = length-take-le 128 (drop 256 marks) (rw (length-drop 256 marks, size) (omega arith)) in
    let e = c.count.ensures in
    omega arith

pub returns : goal.returns
returns c =
    let marks = c.args.marks.now in
    let size : length marks ≡ 640 = search rules in
    let a = open_literals marks size c.requires true in
    let b = open_literals marks size c.requires false in
    let e = c.count.ensures in
    omega arith
