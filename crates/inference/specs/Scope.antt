-- What steps know of a formula, from its tables. That it decides what a lawful step asks for is in
-- proofs/Theorems/Scope/Laws.antt.
use Rattle.std.specs.Prelude.{ℕ, Bool, List, ℤ}
use Rattle.qbf.specs.Dependency.{depends}
use Rattle.qbf.specs.Formula.{Formula, Prefix, existential, universal, after}
use Rattle.formula.specs.Prefix.{quantifies, with_blocks}
use Rattle.formula.specs.Decode.{formula_of}
use Rattle.inference.specs.Steps.{Scope}

-- A universal right of a variable: what may be merged over it as the pivot (02, P14).
abbrev pub mergeable_in : Prefix → ℕ → ℕ → Bool
mergeable_in P e v = quantifies universal (after e P) v

-- What steps know of a formula: the entries of its prefix, and dependencies, which come from the input formula.
abbrev pub scope_in : Formula → Scope
scope_in F =
    record {
      existential = quantifies existential F.prefix;
      universal = quantifies universal F.prefix;
      mergeable = mergeable_in F.prefix;
      dependent = depends F;
      blocks = with_blocks F.prefix;
    }

abbrev pub scope_of : List ℤ → List ℤ → Scope
scope_of prefix clauses = scope_in (formula_of prefix clauses)
