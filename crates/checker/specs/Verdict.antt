-- The verdict on a proof (01, "What the checker says no with", order "A proof"): tables, 2 on step words, 3 for scratch and
-- clause offsets, the steps, 19. `verdict_of plain_rules` is what `check_proof` answers, `verdict_of small_rules` what `check_proof_small` does,
-- Checked what each promises. That the two agree where both have room is in Verdict/Sizes.antt, what 02's P10 changed in Verdict/Ending.antt.
pub mod Examples
pub mod Conclusion
pub mod Accuracy
pub mod Exact
pub mod Ending
pub mod Parts
pub mod Sizes
use Rattle.checker.specs.declared.verdict.Accepted.{Accepted}
use Rattle.std.specs.Prelude.{ℕ, zero, suc, ◌-◌, ◌≡◌, Bool, true, false, cond, List, length, replicate, leb, ltb, ℤ, Result, Ok, Err}
use Rattle.std.proofs.Math.Option.{Option, none, some}
use Rattle.formula.specs.Bounds.{proof_bound}
use Rattle.formula.specs.Decode.{formula_of, clauses_of}
use Rattle.formula.specs.Tables.{zeros, tables_refusal}
use Rattle.formula.specs.Refusal.{refusal, require, unless}
use Rattle.qbf.specs.Play.{Lost}
use Rattle.formula.specs.declared.literal.ClauseNumber.{ClauseNumber}
use Rattle.formula.specs.declared.refusal.Refusal.{Refusal}
use Rattle.formula.specs.declared.refusal.Reason.TheVariants.{Oversized, NoRoom, NoConclusion}
use Rattle.inference.specs.Rules.{Rules}
use Rattle.inference.specs.Words.{Words}
use Rattle.inference.specs.Empty.{first_empty, last_empty}
use Rattle.inference.specs.Steps.{Scope, family_of, Outcome, ended, refused, run}
use Rattle.inference.specs.Scope.{scope_of}

-- Accepted, with the first empty clause's number and the number of steps; or the refusal.
abbrev pub Verdict : Type 0
Verdict = Result Accepted Refusal

abbrev pub accept : ClauseNumber → ℕ → Verdict
accept empty steps = Ok (record { empty = empty; steps = steps })

-- The number of the empty clause that a run concludes with; `inputs` of the numbered clauses are input clauses. By strict rules (02, P10) it is the last
-- clause, or without steps the first empty input clause; by others the first empty one of all.
abbrev pub conclusion : Bool → ℕ → List Words → Option ℕ
conclusion true inputs known = cond (ltb inputs (length known)) (last_empty 1 known) (first_empty 1 known)
conclusion false inputs known = first_empty 1 known

-- With so many numbered clauses, of which `inputs` are input clauses.
abbrev pub concluded : ℕ → ℕ → Option ℕ → Verdict
concluded inputs numbered none = Err (refusal NoConclusion numbered)
concluded inputs numbered (some n) = accept (record { 0 = n }) (numbered - inputs)

abbrev pub conclude : Rules → ℕ → Outcome → Verdict
conclude rules inputs (ended known) = concluded inputs (length known) (conclusion rules.strict inputs known)
conclude rules inputs (refused r) = Err r

abbrev pub if_admitted : Option Refusal → Verdict → Verdict
if_admitted r later = unless Err r later

-- After the tables, by what steps know; `scratch` and `room` are the lengths of the scratch and of the clause offsets.
abbrev pub scope_verdict : Rules → Scope → List ℤ → List ℤ → ℕ → ℕ → Verdict
scope_verdict rules S clauses steps scratch room =
    require (leb (length steps) proof_bound)
    (Err (refusal Oversized 0))
    (require (leb rules.scratch scratch)
    (Err (refusal NoRoom 0))
    (require (leb (zeros clauses) room)
    (Err (refusal NoRoom (suc room)))
    (conclude rules (zeros clauses) (run rules (family_of steps) S room (clauses_of clauses) zero steps))))

unfoldable pub sized_verdict : Rules → List ℤ → List ℤ → List ℤ → ℕ → ℕ → Verdict
sized_verdict rules prefix clauses steps scratch room = scope_verdict rules (scope_of prefix clauses) clauses steps scratch room

unfoldable pub verdict_of : Rules → List ℤ → List ℤ → List ℤ → ℕ → ℕ → Verdict
verdict_of rules prefix clauses steps scratch room = if_admitted (tables_refusal prefix clauses) (sized_verdict rules prefix clauses steps scratch room)

-- What a check of a proof promises: the verdict, scratch and clause offsets of whatever length wholly 0, and that an accepted proof makes the
-- game lost.
pub record Checked (rules : Rules) (prefix clauses steps : List ℤ) (scratch offsets : List ℕ) (r : Verdict) (scratch' offsets' : List ℕ) : Type 0 where
  pub verdict : r ≡ verdict_of rules prefix clauses steps (length scratch) (length offsets)
  pub scratch_cleared : scratch' ≡ replicate (length scratch) 0
  pub offsets_cleared : offsets' ≡ replicate (length offsets) 0
  pub lost : (empty : ClauseNumber) (count : ℕ) → r ≡ accept empty count → Lost (formula_of prefix clauses)

-- The verdict is accepted, with some numbers.
pub record IsAccepted (v : Verdict) : Type 0 where
  pub empty : ℕ
  pub count : ℕ
  pub accepted : v ≡ accept (record { 0 = empty }) count
