-- `check_prefix` goes on at each record. Assumes nothing.
use Rattle.std.proofs.Common.{◌*◌}
use Rattle.formula.proofs.Record.{PrefixSoFar}
use Rattle.formula.proofs.tables.check_prefix.Given as goal

abbrev pub invariant-loop-i : goal.invariant-loop-i
invariant-loop-i l = PrefixSoFar l.prefix l.marks (3 * l.i) l.last
