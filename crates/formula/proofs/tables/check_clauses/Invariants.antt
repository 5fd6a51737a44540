-- `check_clauses` goes on after each clause: the refusal of all words is that of the words to come. Assumes nothing.
use Prim.Native.Nat.{◌-◌, ◌≤◌}
use mathlib.Core.Path.{◌≡◌}
use mathlib.Core.List.{[]}
use lib.ListN.{length, drop}
use Rattle.formula.specs.Tables.{clauses_refusal, listed_in}
use Rattle.formula.proofs.tables.check_clauses.Given as goal

abbrev pub invariant-loop-at : goal.invariant-loop-at
invariant-loop-at l = (clauses_refusal (listed_in l.listed.table.now) 0 [] l.clauses ≡ clauses_refusal (listed_in l.listed.table.now) l.at [] (drop l.at l.clauses)) × (l.at ≤ length l.clauses)

abbrev pub decreases-loop-at : goal.decreases-loop-at
decreases-loop-at l = length l.clauses - l.at
