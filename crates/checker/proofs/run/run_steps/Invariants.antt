-- `run_steps`: what is left to run comes to the same as the whole. Assumes nothing.
use Prim.Native.Nat.{◌-◌}
use lib.ListN.{length}
use Rattle.checker.specs.Run.Laws.{Going}
use Rattle.checker.proofs.run.run_steps.Given as goal

abbrev pub invariant-loop-at : goal.invariant-loop-at
invariant-loop-at l =
    Going l.strict l.tables.prefix.now l.tables.clauses.now l.steps l.inputs (length l.initial.offsets) l.scratch l.offsets l.numbered l.at l.kept l.empty

abbrev pub decreases-loop-at : goal.decreases-loop-at
decreases-loop-at l = length l.steps - l.at
