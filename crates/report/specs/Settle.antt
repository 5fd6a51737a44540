-- What the two files are settled as, read off the tables that were filled from them: the contracts of `settle_formula` and
-- `settle_proof`. Laws are in Settle/Laws.antt.
pub mod Laws
use Rattle.std.specs.Prelude.{Option, Some, None, Result, Ok, Err}
use Rattle.formula.specs.declared.refusal.Refusal.{Refusal}
use Rattle.formula.specs.declared.read.Filled.{Filled}
use Rattle.report.specs.declared.settle.FileLength.{FileLength}
use Rattle.std.specs.Prelude.{ℕ, ◌≤◌, ◌≡◌, Bool, true, false, List, length, take, ℤ}
use Rattle.formula.specs.Bounds.{count_bound}
use Rattle.formula.specs.Text.{Reading, read, refused}
use Rattle.prooffile.specs.File.{ProofReading}
use Rattle.prooffile.specs.File.{read as readSteps, refused as refusedFile}
use Rattle.report.specs.Line.{settled}
use Rattle.report.specs.Check.{settled_proof}

abbrev pub file_fit : Bool → ℕ → Option FileLength
file_fit true n = Some (record { 0 = n })
file_fit false n = None

-- What the answer and the tables tell of the formula's file: the words of the used parts, and C.
abbrev pub tables_read : Result Filled Refusal → (prefix clauses : List ℤ) → Reading
tables_read (Ok f) prefix clauses = read (take f.prefix_used prefix) (take f.clauses_used clauses) f.clauses
tables_read (Err r) prefix clauses = refused r

-- What `settle_formula` promises.
pub record FormulaSettled (bound : ℕ) (file : List ℕ) (prefixRoom clauseRoom : ℕ) (prefix clauses : List ℤ) (answer : Result Filled Refusal) : Type 0 where
  pub settles : settled bound file prefixRoom clauseRoom ≡ tables_read answer prefix clauses
  pub within : (f : Filled) → answer ≡ Ok f → (f.prefix_used ≤ length prefix) × (f.clauses_used ≤ length clauses) × (f.clauses ≤ count_bound)

abbrev pub steps_read : Result ℕ Refusal → List ℤ → ProofReading
steps_read (Ok n) steps = readSteps (take n steps)
steps_read (Err r) steps = refusedFile r

-- What `settle_proof` promises.
pub record ProofSettled (bound : ℕ) (file : List ℕ) (count room : ℕ) (steps : List ℤ) (answer : Result ℕ Refusal) : Type 0 where
  pub settles : settled_proof bound file count room ≡ steps_read answer steps
  pub within : (n : ℕ) → answer ≡ Ok n → n ≤ length steps
