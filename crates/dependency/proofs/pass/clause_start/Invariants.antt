-- `clause_start` goes back over the clause's literals: the words after the clause from here on are those from its end on. Assumes nothing.
use Prim.Native.Nat.{◌<◌, ◌-◌}
use mathlib.Core.Path.{◌≡◌}
use lib.ListN.{drop}
use Rattle.formula.specs.Decode.{words_after}
use Rattle.dependency.proofs.pass.clause_start.Given as goal

abbrev pub invariant-loop-i : goal.invariant-loop-i
invariant-loop-i l = (0 < l.i) × (words_after l.clauses (l.i - 1) ≡ drop l.end l.clauses)
