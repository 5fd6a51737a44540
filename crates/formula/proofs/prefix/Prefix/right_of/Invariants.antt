-- `right_of` runs down the prefix: what stands right of the variable is found in what is left. Assumes nothing.
use mathlib.Core.Path.{◌≡◌}
use lib.ListN.{drop}
use Rattle.qbf.specs.Formula.{after}
use Rattle.formula.specs.Prefix.{prefix_of}
use Rattle.formula.proofs.prefix.Prefix.right_of.Given as goal

abbrev pub invariant-loop-i : goal.invariant-loop-i
invariant-loop-i l = after l.variable.0 (drop l.i (prefix_of l.self.words.now)) ≡ after l.variable.0 (prefix_of l.self.words.now)
