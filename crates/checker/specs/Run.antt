-- What the run over the steps answers.
pub mod Laws
use Rattle.std.specs.Prelude.{Result, Err, Ok}
use Rattle.formula.specs.declared.refusal.Refusal.{Refusal}
use Rattle.checker.specs.declared.run.Ended.{Ended}
use Rattle.std.specs.Prelude.{ℕ, zero, suc, ◌+◌, ◌-◌, ◌≤◌, ◌<◌, ◌≡◌, Bool, List, length, get_or, drop, ℤ}
use Rattle.std.proofs.Math.Option.{Option, none, some}
use Rattle.formula.specs.Decode.{clauses_of}
use Rattle.inference.specs.Rules.{ending, plain_rules}
use Rattle.inference.specs.Words.{Words}
use Rattle.inference.specs.Steps.{Step, family_of, stated_by, size_of, read_step, Outcome, ended, refused, run}
use Rattle.inference.specs.Empty.{first_empty, empty_number}
use Rattle.inference.specs.Scope.{scope_of}
use Rattle.inference.specs.Numbered.{stored_at, stored}
use Rattle.checker.specs.Step.{Ready}

-- The run's answer with the offsets it leaves.
abbrev pub outcome_of : ℕ → Words → Words → List ℕ → Result Ended Refusal → Outcome
outcome_of inputs clauses steps offsets (Ok e) = ended (stored inputs clauses steps offsets e.numbered)
outcome_of inputs clauses steps offsets (Err r) = refused r

abbrev pub count_of : Result Ended Refusal → ℕ
count_of (Ok e) = e.numbered
count_of (Err r) = 0

-- No numbered clause is lost.
abbrev pub Grown : ℕ → Result Ended Refusal → Type 0
Grown inputs (Ok e) = inputs ≤ e.numbered
Grown inputs (Err r) = Unit {0}

-- The first empty clause's number is told, if one is empty.
abbrev pub EmptyTold : ℕ → Words → Words → List ℕ → Result Ended Refusal → Type 0
EmptyTold inputs clauses steps offsets (Ok e) = e.empty ≡ empty_number (first_empty 1 (stored inputs clauses steps offsets e.numbered))
EmptyTold inputs clauses steps offsets (Err r) = Unit {0}

-- How many words the step has that was read, none where there is no step.
abbrev pub size_read : Option Step → ℕ
size_read none = 0
size_read (some s) = size_of s

-- Where the step with so many steps before it begins: the first at 0, every other right behind the one before it.
unfoldable pub step_place : Words → ℕ → ℕ
step_place steps zero = 0
step_place steps (suc n) = step_place steps n + size_read (read_step (family_of steps) (drop (step_place steps n) steps))

-- The step with `before` steps before it has its first word at a place, and states the clause.
pub record StepStands (steps : Words) (before at : ℕ) (C : Words) : Type 0 where
  pub place : at ≡ step_place steps before
  pub step : Step
  pub was_read : read_step (family_of steps) (drop at steps) ≡ some step
  pub states : stated_by step ≡ C

-- Where the words of the first `numbered` clauses stand: those of the input clauses in the clause table, as it has them; those of
-- every later one in the step words, as the statement of the step of that number, whose first word stands at the clause's offset.
pub record Placed (clauses steps : Words) (inputs : ℕ) (offsets : List ℕ) (numbered : ℕ) : Type 0 where
  pub input_clauses : stored inputs clauses steps offsets inputs ≡ clauses_of clauses
  pub derived : (k : ℕ) → inputs ≤ k → k < numbered → StepStands steps (k - inputs) (get_or offsets k 0) (stored_at inputs clauses steps offsets k)

-- `scratch` and `offsets` are as the run leaves them: the scratch is ready for another run. A strict run refuses steps after an empty clause.
pub record RunDone (strict : Bool) (prefix clauses steps : List ℤ) (inputs : ℕ) (r : Result Ended Refusal) (scratch offsets : List ℕ) : Type 0 where
  pub outcome : run (ending strict plain_rules) (family_of steps) (scope_of prefix clauses) (length offsets) (clauses_of clauses) zero steps ≡ outcome_of inputs clauses steps offsets r
  pub counted : count_of r ≤ length offsets
  pub grown : Grown inputs r
  pub empty_told : EmptyTold inputs clauses steps offsets r
  pub placed : Placed clauses steps inputs offsets (count_of r)
  pub ready : Ready prefix scratch
