-- Wish 2 as its sentence: within 01's bounds and room, on tables that 01 admits, the verdict is accepted exactly when the step
-- words are a refutation, whose last clause, or without steps some input clause, is empty; its two numbers are then those of the refutation
-- (that the first is C + steps is in Ending.antt); and refused as blocked only where a path of each
-- sign exists. Definitions: Refutation.antt. Assumes nothing.
use Rattle.std.specs.Prelude.{Err}
use Rattle.checker.specs.Verdict.{accept}
use Rattle.std.specs.Prelude.{ℕ, suc, ◌≡◌, refl, ◌↔◌, List, length, ℤ}
use Rattle.std.proofs.Common.{sym, ◌∙◌}
use Rattle.formula.specs.Decode.{clauses_of, formula_of}
use Rattle.formula.specs.Refusal.{refusal}
use Rattle.formula.specs.declared.refusal.Blocker.{Blocker}
use Rattle.formula.specs.declared.refusal.Reason.TheVariants.{Blocked}
use Rattle.formula.specs.Tables.{Admitted}
use Rattle.inference.specs.Rules.{plain_rules}
use Rattle.inference.specs.Lawful.{numbered_clauses, RunBlocked, BlockerEntry}
use Rattle.checker.specs.Refutation.{Refutation, FirstEmpty, Within}
use Rattle.checker.specs.Refutation.Ending.{ends_some, accepting_refutation}
use Rattle.checker.specs.Refutation.FirstEmptyClause.{empty_first}
use Rattle.checker.specs.Verdict.{verdict_of, IsAccepted}
use Rattle.checker.specs.Verdict.Accuracy.{numbers_same, accepted_refutation, refutation_accepted, blocked_depends, blocked_entry}

-- After lawful steps stands a reduction whose clause holds an existential that depends, and what blocks is named.
pub refused_blocked_depends :
    (prefix clauses words : List ℤ) (scratch offsets place : ℕ) (x : Blocker) → verdict_of plain_rules prefix clauses words scratch offsets ≡ Err (refusal (Blocked x) place)
    → RunBlocked plain_rules (formula_of prefix clauses) (clauses_of clauses) words place x
refused_blocked_depends prefix clauses words scratch offsets place x = blocked_depends plain_rules prefix clauses words scratch offsets x place

-- What blocks is an entry of the prefix: its three words are the variable, 1 and the block.
pub refused_blocked_entry :
    (prefix clauses words : List ℤ) (scratch offsets place : ℕ) (x : Blocker) → verdict_of plain_rules prefix clauses words scratch offsets ≡ Err (refusal (Blocked x) place)
    → BlockerEntry prefix x
refused_blocked_entry prefix clauses words scratch offsets place x = blocked_entry plain_rules prefix clauses words scratch offsets x place

module _ (prefix clauses words : List ℤ) (scratch offsets : ℕ) (admitted : Admitted prefix clauses) (within : Within clauses words scratch offsets) where
  refuted :
      (r : Refutation prefix clauses words) (place : ℕ) → FirstEmpty (numbered_clauses (clauses_of clauses) r.steps) place
      → verdict_of plain_rules prefix clauses words scratch offsets ≡ accept (record { 0 = suc place }) (length r.steps)
  refuted r place f =
      refutation_accepted plain_rules prefix clauses words scratch offsets (suc place) (length r.steps)
      (record {
        admitted = admitted;
        sized = within.sized;
        scratch_fits = within.scratch_fits;
        steps = r.steps;
        written = r.written;
        lawful = r.lawful;
        family = r.family;
        of_family = r.of_family;
        allowed = λ q. r.unended;
        offsets_fit = within.offsets_fit r.steps r.written;
        place = place;
        place_numbered = refl;
        first_empty_lem = f;
        counted = refl;
      })

  pub accepted_exactly : IsAccepted (verdict_of plain_rules prefix clauses words scratch offsets) ↔ Refutation prefix clauses words
  accepted_exactly = (
    λ a. accepting_refutation prefix clauses words scratch offsets a.empty a.count (accepted_refutation plain_rules prefix clauses words scratch offsets a.empty a.count a.accepted),
    λ r. let f = empty_first (numbered_clauses (clauses_of clauses) r.steps) (ends_some r.steps (clauses_of clauses) r.ends_empty) in
        record { empty = suc f.0; count = length r.steps; accepted = refuted r f.0 f.1 },
  )

  -- The number of steps, and the number of the first empty clause.
  pub accepted_numbers :
      (empty count : ℕ) → verdict_of plain_rules prefix clauses words scratch offsets ≡ accept (record { 0 = empty }) count
      → (r : Refutation prefix clauses words)
      → (count ≡ length r.steps) × ((place : ℕ) × (empty ≡ suc place) × FirstEmpty (numbered_clauses (clauses_of clauses) r.steps) place)
  accepted_numbers empty count h r =
      let f = empty_first (numbered_clauses (clauses_of clauses) r.steps) (ends_some r.steps (clauses_of clauses) r.ends_empty) in
      let same = numbers_same empty count (suc f.0) (length r.steps) (sym h ∙ refuted r f.0 f.1) in
      (same.1, (f.0, same.0, f.1))
