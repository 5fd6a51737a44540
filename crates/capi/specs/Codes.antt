-- What a C function tells of an answer: a code, 0 or the refusal's number of 01, and the five numbers put into `out`. An answer
-- tells up to three numbers; a refusal tells its place, line and column, and 17 the variable and the block of what blocks.
-- A number that is not used is 0. What a function promises is `Tells`: what the entry promises of its answer, and the answer told.
use Rattle.std.specs.Prelude.{Result, Ok, Err, ⊤}
use Rattle.formula.specs.declared.read.Filled.{Filled}
use Rattle.formula.specs.declared.tables.Counts.{Counts}
use Rattle.bits.specs.Flags.{flag}
use Rattle.checker.specs.Verdict.{Verdict}
use Rattle.std.specs.Prelude.{ℕ, ◌≡◌, Bool, List, [], ◌∷◌}
use Rattle.formula.specs.Refusal.{numbers, number}
use Rattle.formula.specs.declared.refusal.Numbers.{Numbers}
use Rattle.formula.specs.declared.refusal.Numbers.TheVariants.{Alone, Blocked}
use Rattle.formula.specs.declared.refusal.Refusal.{Refusal}

pub record Code : Type 0 where
  pub code : ℕ
  pub numbers : List ℕ

abbrev pub accepted : ℕ → ℕ → ℕ → Code
accepted a b c = record { code = 0; numbers = a ∷ b ∷ c ∷ 0 ∷ 0 ∷ [] }

-- The variable and the block of what blocks.
abbrev pub blocking : Numbers → List ℕ
blocking (Alone n) = 0 ∷ 0 ∷ []
blocking (Blocked b) = b.variable.0 ∷ b.block ∷ []

abbrev pub refused : Refusal → Code
refused r = record { code = number r.reason; numbers = r.place ∷ r.line ∷ r.column ∷ blocking (numbers r.reason) }

-- A code is told: it is returned, and its numbers are left in `out`.
pub record Told (told : Code) (returned : ℕ) (out : List ℕ) : Type 0 where
  pub returns_code : returned ≡ told.code
  pub fills_out : out ≡ told.numbers

-- The entry gave an answer that keeps its promise, and that is told.
pub record Tells {A : Type 0} (code_of : A → Code) (Promised : A → Type 0) (returned : ℕ) (out : List ℕ) : Type 0 where
  pub answer : A
  pub promised : Promised answer
  pub told : Told (code_of answer) returned out

-- The variables and the clauses.
abbrev pub tables_code : Result Counts Refusal → Code
tables_code (Ok c) = accepted c.variables c.clauses 0
tables_code (Err r) = refused r

-- The words used of the prefix table and of the clause table, and C.
abbrev pub read_code : Result Filled Refusal → Code
read_code (Ok f) = accepted f.prefix_used f.clauses_used f.clauses
read_code (Err r) = refused r

-- The bytes used.
abbrev pub write_code : Result ℕ Refusal → Code
write_code (Ok used) = accepted used 0 0
write_code (Err r) = refused r

abbrev pub row_code : Result ⊤ Refusal → Code
row_code (Ok u) = accepted 0 0 0
row_code (Err r) = refused r

-- The step words.
abbrev pub proof_code : Result ℕ Refusal → Code
proof_code (Ok words) = accepted words 0 0
proof_code (Err r) = refused r

-- The number of the first empty clause, and the steps.
abbrev pub verdict_code : Verdict → Code
verdict_code (Ok a) = accepted a.empty.0 a.steps 0
verdict_code (Err r) = refused r

-- 1 for true, 0 for false.
abbrev pub evaluation_code : Result Bool Refusal → Code
evaluation_code (Ok value) = accepted (flag value) 0 0
evaluation_code (Err r) = refused r
