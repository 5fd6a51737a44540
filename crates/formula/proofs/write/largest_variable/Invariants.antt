-- `largest_variable` takes the larger of what it has and each entry's variable: with what is left, it is the largest of all.
-- Assumes nothing.
use Rattle.std.proofs.Common.{◌≡◌, max, drop}
use Rattle.formula.specs.Prefix.{prefix_of}
use Rattle.formula.specs.Write.{largest}
use Rattle.formula.proofs.write.largest_variable.Given as goal

abbrev pub invariant-loop-i : goal.invariant-loop-i
invariant-loop-i l = max l.top (largest (drop l.i (prefix_of l.prefix.words.now))) ≡ largest (prefix_of l.prefix.words.now)
