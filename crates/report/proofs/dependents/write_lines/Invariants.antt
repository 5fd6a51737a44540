-- `write_lines` stores a line for each universal: what is left to store is what the entries that the loop has not passed give.
-- Assumes nothing.
use lib.ListN.{drop}
use Rattle.formula.specs.Decode.{formula_of}
use Rattle.formula.specs.Prefix.{prefix_of}
use Rattle.formula.specs.Store.{Remains}
use Rattle.report.specs.Dependents.{universal_lines}
use Rattle.report.proofs.dependents.write_lines.Given as goal

abbrev pub invariant-loop-place : goal.invariant-loop-place
invariant-loop-place l =
    Remains l.initial.text 0 (universal_lines (formula_of l.tables.prefix.now l.tables.clauses.now) (prefix_of l.tables.prefix.now) (prefix_of l.tables.prefix.now)) l.text l.next (universal_lines (formula_of l.tables.prefix.now l.tables.clauses.now) (prefix_of l.tables.prefix.now) (drop l.place (prefix_of l.tables.prefix.now)))
