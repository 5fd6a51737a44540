-- The tests on the tables decide what they ask of the formula the tables denote. Assumes nothing.
use Rattle.std.specs.Prelude.{List, refl, ℤ}
use Rattle.qbf.specs.Formula.{existential, universal, after}
use Rattle.qbf.proofs.Dependency.Laws.{depends_sound, depends_complete, depends_existential}
use Rattle.formula.specs.Decode.{formula_of}
use Rattle.formula.specs.Prefix.{prefix_of}
use Rattle.formula.specs.Prefix.Laws.{quantifies_sound, quantifies_complete}
use Rattle.inference.proofs.Theorems.Lawful.Judged.{Decides}
use Rattle.inference.specs.Scope.{scope_of}

pub scope_decides : (prefix clauses : List ℤ) → Decides (scope_of prefix clauses) (formula_of prefix clauses)
scope_decides prefix clauses =
    record {
      existential_sound = quantifies_sound existential (prefix_of prefix);
      existential_complete = quantifies_complete existential (prefix_of prefix);
      universal_sound = quantifies_sound universal (prefix_of prefix);
      universal_complete = quantifies_complete universal (prefix_of prefix);
      mergeable_sound = λ e v h. quantifies_sound universal (after e (prefix_of prefix)) v h;
      mergeable_complete = λ e v u. quantifies_complete universal (after e (prefix_of prefix)) v u;
      dependent_sound = λ u e h. let d = depends_sound (formula_of prefix clauses) u e h in (depends_existential (formula_of prefix clauses) u e d, d);
      dependent_complete = λ u e d. depends_complete (formula_of prefix clauses) u e d;
      blocks_of = refl;
    }
