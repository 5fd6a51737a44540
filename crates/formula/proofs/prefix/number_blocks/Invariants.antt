-- `number_blocks` has put the records of the first entries. Assumes nothing.
use Rattle.formula.specs.Prefix.Laws.{NumberedSoFar}
use Rattle.formula.proofs.prefix.number_blocks.Given as goal

abbrev pub invariant-loop-i : goal.invariant-loop-i
invariant-loop-i l = NumberedSoFar l.initial.prefix l.prefix l.i l.last l.block
