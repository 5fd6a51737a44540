-- `largest_variable` takes the larger of what it has and each entry's variable: with what is left, it is the largest of all.
-- Assumes nothing.
use Rattle.std.proofs.Common.{◌≤◌, add-one, arith}
use Rattle.std.proofs.Math.ListN.{drop_of_length-le}
use Rattle.formula.specs.Prefix.{prefix_of, entry_count}
use Rattle.formula.specs.Write.{largest}
use Rattle.formula.specs.Write.Laws.{largest_drop}
use Rattle.formula.proofs.write.largest_variable.Goals as goal

pub loop-i-preserved : goal.loop-i-preserved
loop-i-preserved c =
    let l = c.loop-i in
    let a = c.args in
    rw add-one (omega (arith, largest_drop l.i (prefix_of a.prefix.words.now) (omega arith), c.max-top.ensures, c.variable_at.ensures, l.invariant))

pub returns : goal.returns
unfolding largest
returns c =
    let l = c.loop-i in
    let a = c.args in
    let h : entry_count a.prefix.words.now ≤ l.i = omega arith in
    omega (arith, rw (drop_of_length-le (prefix_of a.prefix.words.now) h) at l.invariant)
