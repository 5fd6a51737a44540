-- `clause_end` goes on past literals and stops at what is none: the invariant says that the end is the same, looked for from
-- the place reached. Assumes nothing.
use Rattle.std.specs.Prelude.{◌-◌, ◌≡◌, length, drop}
use Rattle.formula.specs.Words.{close_from}
use Rattle.formula.proofs.words.clause_end.Given as goal

abbrev pub invariant-loop-at : goal.invariant-loop-at
invariant-loop-at l = close_from l.at (drop l.at l.words) ≡ close_from l.from (drop l.from l.words)

abbrev pub decreases-loop-at : goal.decreases-loop-at
decreases-loop-at l = length l.words - l.at
