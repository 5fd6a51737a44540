-- `fill_row` stores the row's flags from the left: those stored are the row's, and the others stay. Assumes nothing.
use Rattle.bits.specs.Flags.{flags}
use Rattle.dependency.specs.Bits.{RowFlags}
use Rattle.dependency.proofs.row.fill_row.Given as goal

abbrev pub invariant-loop-v : goal.invariant-loop-v
invariant-loop-v l = RowFlags (flags l.initial.work) (flags l.work) l.v
