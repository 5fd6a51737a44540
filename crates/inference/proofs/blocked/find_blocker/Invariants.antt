-- `find_blocker`: the first entry from here on that blocks is the first of all, none before having blocked. Assumes nothing.
use mathlib.Core.Path.{◌≡◌}
use lib.ListN.{drop}
use Rattle.formula.specs.Decode.{clause_at}
use Rattle.formula.specs.Prefix.{prefix_of, with_blocks}
use Rattle.dependency.specs.Scratch.{row_in}
use Rattle.inference.specs.Blocked.{blocks_by}
use Rattle.inference.specs.Steps.{leftmost}
use Rattle.inference.proofs.blocked.find_blocker.Given as goal

abbrev pub invariant-loop-i : goal.invariant-loop-i
invariant-loop-i l =
    leftmost (blocks_by (row_in l.row) (clause_at l.words l.from)) (with_blocks (prefix_of l.prefix.words.now))
    ≡ leftmost (blocks_by (row_in l.row) (clause_at l.words l.from)) (drop l.i (with_blocks (prefix_of l.prefix.words.now)))
