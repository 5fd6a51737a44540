-- `literals_end` goes on while words are literals of listed variables: the end found from here is the same. Assumes nothing.
use Rattle.std.proofs.Common.{◌≡◌, ◌+◌, drop}
use Rattle.formula.specs.Tables.{listed_in}
use Rattle.formula.specs.Tables.Scan.{plain_run}
use Rattle.formula.proofs.tables.literals_end.Given as goal

abbrev pub invariant-loop-i : goal.invariant-loop-i
invariant-loop-i l = l.from + plain_run (listed_in l.listed.table.now) (drop l.from l.clauses) ≡ l.i + plain_run (listed_in l.listed.table.now) (drop l.i l.clauses)
