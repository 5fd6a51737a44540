-- How a file is settled, by the test on its length: too long, or as it is read. Assumes nothing.
use Rattle.std.specs.Prelude.{Some, None, Result, Ok, Err}
use Rattle.formula.specs.declared.read.Filled.{Filled}
use Rattle.std.specs.Prelude.{ℕ, ◌-◌, ◌≤◌, Bool, true, false, List, take, replicate, leb, ℤ, pos}
use Rattle.std.proofs.Math.Path.{◌≡◌, refl}
use Rattle.std.proofs.Common.{ap, ◌∙◌, arith, length-append}
use Rattle.std.proofs.Math.ListN.{length}
use Rattle.std.proofs.Math.Seq.{take-append_seam}
use Rattle.formula.specs.Refusal.{refusal}
use Rattle.formula.proofs.Theorems.Tables.Laws.{admitted_count}
use Rattle.formula.specs.Text.{Reading, read, refused, reading, read_answer, prefix_read, clauses_read, padded, ReadPost}
use Rattle.formula.proofs.Theorems.Text.Admits.{read_admitted}
use Rattle.formula.specs.declared.refusal.Refusal.{Refusal}
use Rattle.formula.specs.declared.refusal.Reason.TheVariants.{Oversized}
use Rattle.prooffile.specs.File.{ProofReading, proof_reading, proof_answer, step_table, ProofRead}
use Rattle.prooffile.specs.File.{read as readSteps, refused as refusedFile}
use Rattle.report.specs.Line.{settled}
use Rattle.report.specs.Settle.{file_fit, tables_read, FormulaSettled, steps_read, ProofSettled}
use Rattle.report.specs.Check.{settled_proof}
use Rattle.report.specs.declared.settle.FileLength.{FileLength}

-- What the test on a length answered.
pub fit_within : (b : Bool) (n : ℕ) (l : FileLength) → file_fit b n ≡ Some l → b ≡ true
fit_within true n l e = refl
fit_within false n l e = let z : ◌≡◌ {A = ℕ} 0 1 = cc in absurd (omega arith)

pub fit_oversized : (b : Bool) (n : ℕ) → file_fit b n ≡ None → b ≡ false
fit_oversized true n e = let z : ◌≡◌ {A = ℕ} 0 1 = cc in absurd (omega arith)
fit_oversized false n e = refl

-- A table padded with zeros holds its words in its used part, and they are within it.
pub padded_used : (room : ℕ) (words : List ℤ) → take (length words) (padded room words) ≡ words
padded_used room words = take-append_seam words (replicate (room - length words) (pos 0))

pub padded_within : (room : ℕ) (words : List ℤ) → length words ≤ length (padded room words)
padded_within room words = simp length-append (omega arith)

filled_same : (f g : Filled) → ◌≡◌ {A = Result Filled Refusal} (Ok f) (Ok g) → f ≡ g
filled_same f g h = cc

-- The file is too long for `bound`, or is read.
module _ (bound : ℕ) (file : List ℕ) where
  pub formula_oversized : (prefixRoom clauseRoom : ℕ) (prefix clauses : List ℤ) → leb (length file) bound ≡ false → FormulaSettled bound file prefixRoom clauseRoom prefix clauses (Err (refusal Oversized 0))
  unfolding settled
  formula_oversized prefixRoom clauseRoom prefix clauses e =
      record {
        settles = rw e;
        within = λ f h. let z : ◌≡◌ {A = ℕ} 0 1 = cc in absurd (omega arith);
      }

  pub formula_read_lem :
      (before-prefix before-clauses prefix clauses : List ℤ) (answer : Result Filled Refusal)
      → leb (length file) bound ≡ true → ReadPost file before-prefix before-clauses prefix clauses answer
      → FormulaSettled bound file (length before-prefix) (length before-clauses) prefix clauses answer
  unfolding settled
  formula_read_lem p₀ c₀ prefix clauses answer e post =
      go (reading file (length p₀) (length c₀)) refl post.answers post.fills_prefix post.fills_clauses
    where
      go : (r : Reading) → reading file (length p₀) (length c₀) ≡ r → answer ≡ read_answer r → prefix ≡ padded (length p₀) (prefix_read r) → clauses ≡ padded (length c₀) (clauses_read r)
          → FormulaSettled bound file (length p₀) (length c₀) prefix clauses answer
      go (read ps cs n) q a f g =
          rw (a, f, g)
          (record {
            settles = rw (e, q, padded_used (length p₀) ps, padded_used (length c₀) cs);
            within = λ f h.
                let l = read_admitted file (length p₀) (length c₀) ps cs n q in
                rw (← filled_same (record { prefix_used = length ps; clauses_used = length cs; clauses = n }) f h)
                (padded_within (length p₀) ps, padded_within (length c₀) cs, omega (arith, l.counted, admitted_count ps cs l.admitted));
          })
      go (refused r) q a f g =
          rw a
          (record {
            settles = rw (e, q);
            within = λ f h. let z : ◌≡◌ {A = ℕ} 0 1 = cc in absurd (omega arith);
          })

  pub proof_oversized : (count room : ℕ) (steps : List ℤ) → leb (length file) bound ≡ false → ProofSettled bound file count room steps (Err (refusal Oversized 0))
  unfolding settled_proof
  proof_oversized count room steps e =
      record {
        settles = rw e;
        within = λ n f. let z : ◌≡◌ {A = ℕ} 0 1 = cc in absurd (omega arith);
      }

  pub proof_read :
      (count : ℕ) (before steps : List ℤ) (answer : Result ℕ Refusal)
      → leb (length file) bound ≡ true → ProofRead file count before steps answer → ProofSettled bound file count (length before) steps answer
  unfolding settled_proof
  proof_read count before steps answer e post = go (proof_reading file count (length before)) refl post.answer post.steps
    where
      go : (r : ProofReading) → proof_reading file count (length before) ≡ r → answer ≡ proof_answer r → steps ≡ step_table r (length before) → ProofSettled bound file count (length before) steps answer
      go (readSteps ws) q a f =
          rw (a, f)
          (record {
            settles = rw (e, q, padded_used (length before) ws);
            within = λ n h. let x : n ≡ length ws = cc in rw x (padded_within (length before) ws);
          })
      go (refusedFile r) q a f =
          rw a
          (record {
            settles = rw (e, q);
            within = λ n h. let z : ◌≡◌ {A = ℕ} 0 1 = cc in absurd (omega arith);
          })

-- Read off one answer.
module _ {bound : ℕ} {file : List ℕ} {prefixRoom clauseRoom : ℕ} {prefix clauses : List ℤ} {answer : Result Filled Refusal} (s : FormulaSettled bound file prefixRoom clauseRoom prefix clauses answer) where
  pub formula_settled_read : {f : Filled} → answer ≡ Ok f → settled bound file prefixRoom clauseRoom ≡ read (take f.prefix_used prefix) (take f.clauses_used clauses) f.clauses
  formula_settled_read e = s.settles ∙ ap (λ a. tables_read a prefix clauses) e

  pub formula_settled_refused : {r : Refusal} → answer ≡ Err r → settled bound file prefixRoom clauseRoom ≡ refused r
  formula_settled_refused e = s.settles ∙ ap (λ a. tables_read a prefix clauses) e

module _ {bound : ℕ} {file : List ℕ} {count room : ℕ} {steps : List ℤ} {answer : Result ℕ Refusal} (s : ProofSettled bound file count room steps answer) where
  pub proof_settled_read : {n : ℕ} → answer ≡ Ok n → settled_proof bound file count room ≡ readSteps (take n steps)
  proof_settled_read e = s.settles ∙ ap (λ a. steps_read a steps) e

  pub proof_settled_refused : {r : Refusal} → answer ≡ Err r → settled_proof bound file count room ≡ refusedFile r
  proof_settled_refused e = s.settles ∙ ap (λ a. steps_read a steps) e
