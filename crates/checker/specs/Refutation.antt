-- What a refutation is (wish 2; 01, "Steps"), and 01's bounds and room for one. Nothing here speaks of tests or of their order: that
-- the checker accepts exactly the refutations is in Verdict/Exact.antt. Lawful steps are in `inference`.
pub mod FirstEmptyClause
pub mod Ending
pub mod Laws
pub mod Examples
use Rattle.std.specs.Prelude.{ℕ, suc, ◌≤◌, ◌<◌, ◌≡◌, length, ℤ}
use Rattle.std.proofs.Math.Option.{some}
use mathlib.Core.List.{List, [], ◌∷◌, Memᴰ}
use Rattle.std.proofs.Math.ListN.{get_elem?}
use Rattle.formula.specs.Bounds.{proof_bound}
use Rattle.formula.specs.Decode.{clauses_of, formula_of}
use Rattle.formula.specs.Tables.{Admitted}
use Rattle.dependency.specs.Scratch.{scratch_bound}
use Rattle.inference.specs.declared.read.Family.{Family}
use Rattle.inference.specs.Rules.{Rules}
use Rattle.inference.specs.Words.{Words}
use Rattle.inference.specs.Steps.{Step, stated_by}
use Rattle.inference.specs.Lawful.{step_words, numbered_clauses, LawfulSteps, OfFamily, Unended, Allowed}

-- The last of some steps.
abbrev pub last_step : Step → List Step → Step
last_step s [] = s
last_step s (t ∷ steps) = last_step t steps

-- The last clause is empty, or without steps some input clause.
abbrev pub EndsEmpty : List Words → List Step → Type 0
EndsEmpty known [] = Memᴰ [] known
EndsEmpty known (s ∷ steps) = stated_by (last_step s steps) ≡ []

-- The words are steps of one family written one after the other, each lawful over the clauses numbered before it, none of which is empty; and the last clause, or
-- without steps some input clause, is empty (02, P10). Dependencies are those of the formula that the tables denote.
pub record Refutation (prefix clauses words : List ℤ) : Type 0 where
  pub steps : List Step
  pub written : words ≡ step_words steps
  pub lawful : LawfulSteps (formula_of prefix clauses) (clauses_of clauses) steps
  pub family : Family
  pub of_family : OfFamily family steps
  pub unended : Unended (clauses_of clauses) steps
  pub ends_empty : EndsEmpty (clauses_of clauses) steps

-- The first empty clause stands at this place, from 0 on; its number is one more.
pub record FirstEmpty (known : List Words) (place : ℕ) : Type 0 where
  pub empty : get_elem? known place ≡ some []
  pub earlier : (k : ℕ) → k < place → get_elem? known k ≡ some [] → ⊥

-- The proof is within 01's bounds and room: at most 1,048,576 step words, scratch of 8,200 bytes, and a clause offset for every
-- numbered clause, whatever steps the words are written from (for a refutation that is no more than one for each of its own:
-- `refutation_within` of Laws). `scratch` and `offsets` are the lengths of what is lent.
pub record Within (clauses words : List ℤ) (scratch offsets : ℕ) : Type 0 where
  pub sized : length words ≤ proof_bound
  pub scratch_fits : scratch_bound ≤ scratch
  pub offsets_fit : (steps : List Step) → words ≡ step_words steps → length (numbered_clauses (clauses_of clauses) steps) ≤ offsets

-- What an accepted verdict says, by whichever rules: admitted tables, bounds and room, lawful steps that may stand where they do, and an empty clause;
-- `empty` is the first empty clause's number, `count` the number of steps.
pub record Accepting (rules : Rules) (prefix clauses words : List ℤ) (scratch offsets empty count : ℕ) : Type 0 where
  pub admitted : Admitted prefix clauses
  pub sized : length words ≤ proof_bound
  pub scratch_fits : rules.scratch ≤ scratch
  pub steps : List Step
  pub written : words ≡ step_words steps
  pub lawful : LawfulSteps (formula_of prefix clauses) (clauses_of clauses) steps
  pub family : Family
  pub of_family : OfFamily family steps
  pub allowed : Allowed rules (clauses_of clauses) steps
  pub offsets_fit : length (numbered_clauses (clauses_of clauses) steps) ≤ offsets
  pub place : ℕ
  pub place_numbered : empty ≡ suc place
  pub first_empty_lem : FirstEmpty (numbered_clauses (clauses_of clauses) steps) place
  pub counted : count ≡ length steps
