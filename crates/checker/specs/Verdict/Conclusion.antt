-- The conclusion of a run that ended is its first empty clause, by whichever rules: where no step stands after an empty clause, that is the last
-- one or an input clause. Assumes nothing.
use Rattle.std.specs.Prelude.{ℕ, zero, ◌≡◌, refl, Bool, true, false, List, [], ◌∷◌, ◌++◌, length}
use Rattle.std.proofs.Common.{ap, ap₂, sym, ◌∙◌, arith, lt-ltb, le-ltb}
use Rattle.std.specs.Prelude.{Option}
use Rattle.formula.specs.declared.literal.ClauseNumber.{ClauseNumber}
use Rattle.inference.specs.declared.read.Family.{Family}
use Rattle.inference.specs.Rules.{Rules}
use Rattle.inference.specs.Words.{Words}
use Rattle.inference.specs.Steps.{Scope, Step, stated_by, ended, run}
use Rattle.inference.specs.Steps.Run.{passes_unended, run_ended}
use Rattle.inference.specs.Empty.{some_empty, first_empty, empty_number, number_found}
use Rattle.inference.specs.Empty.Laws.{none_empty, last_first, number_found_lem}
use Rattle.inference.specs.Lawful.{numbered_clauses, Unended}
use Rattle.inference.specs.Lawful.Laws.{numbered_step, numbered_length}
use Rattle.checker.specs.Verdict.{conclusion, concluded, conclude}

-- The last clause, and those before it.
record LastClause (known : List Words) : Type 0 where
  pub front : List Words
  pub last : Words
  pub joined : known ≡ front ++ (last ∷ [])
  pub none_before : some_empty front ≡ false

last_clause : (s : Step) (steps : List Step) (known : List Words) → Unended known (s ∷ steps) → LastClause (numbered_clauses known (s ∷ steps))
last_clause s [] known u = record { front = known; last = stated_by s; joined = refl; none_before = none_empty known u.0 }
last_clause s (t ∷ steps) known u = rw (← numbered_step known s (t ∷ steps)) (last_clause t steps (known ++ (stated_by s ∷ [])) u.1)

pub conclusion_first :
    (strict : Bool) (steps : List Step) (known : List Words) → (strict ≡ true → Unended known steps)
    → conclusion strict (length known) (numbered_clauses known steps) ≡ first_empty 1 (numbered_clauses known steps)
conclusion_first false steps known u = refl
conclusion_first true [] known u = rw (le-ltb (length known) (length (numbered_clauses known [])) (omega (arith, numbered_length known [])))
conclusion_first true (s ∷ steps) known u =
    let c = last_clause s steps known (u refl) in
    rw (lt-ltb (length known) (length (numbered_clauses known (s ∷ steps))) (omega (arith, numbered_length known (s ∷ steps))), c.joined) (last_first c.front c.last c.none_before)

pub run_conclusion :
    (rules : Rules) (family : Family) (S : Scope) (room : ℕ) (known : List Words) (ws : Words) (final : List Words) → run rules family S room known zero ws ≡ ended final
    → conclusion rules.strict (length known) final ≡ first_empty 1 final
run_conclusion rules family S room known ws final h =
    let t = run_ended rules family S room known ws final h in
    rw (← t.2) (conclusion_first rules.strict t.0 known (passes_unended rules family S room t.0 known ws [] t.1))

-- The verdict from the first empty clause's number, as the code keeps it.
pub concluded_run :
    (rules : Rules) (family : Family) (S : Scope) (room : ℕ) (start : List Words) (ws : Words) (known : List Words) (inputs numbered : ℕ) (empty : Option ClauseNumber) → length start ≡ inputs
    → run rules family S room start zero ws ≡ ended known
    → length known ≡ numbered
    → empty ≡ empty_number (first_empty 1 known)
    → concluded inputs numbered (number_found empty) ≡ conclude rules inputs (run rules family S room start zero ws)
concluded_run rules family S room start ws known inputs numbered empty i h l e =
    let found : number_found empty ≡ conclusion rules.strict inputs known =
    ap number_found e ∙ number_found_lem known ∙ sym (ap (λ (k : ℕ). conclusion rules.strict k known) (sym i) ∙ run_conclusion rules family S room start ws known h) in
    ap₂ (concluded inputs) (sym l) found ∙ ap (conclude rules inputs) (sym h)
