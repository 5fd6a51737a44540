-- `fill_offsets`: what is stored and what stands from here on are the clauses of the table, and so with the first empty one. Assumes nothing.
use Prim.Native.Nat.{◌-◌}
use mathlib.Core.Path.{◌≡◌}
use lib.ListN.{length}
use Rattle.inference.specs.Numbered.Laws.{Filling, Finding}
use Rattle.inference.proofs.numbered.fill_offsets.Given as goal

abbrev pub invariant-loop-from : goal.invariant-loop-from
invariant-loop-from l = Filling l.clauses l.offsets l.n l.from × Finding l.clauses l.n l.empty l.from × (length l.offsets ≡ length l.initial.offsets)

abbrev pub decreases-loop-from : goal.decreases-loop-from
decreases-loop-from l = length l.clauses - l.from
