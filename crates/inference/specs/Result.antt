-- Judgements of the code against the reasons of Steps.antt.
use Rattle.formula.specs.Refusal.{passes}
use Rattle.std.specs.Prelude.{Result, ⊤}
use Rattle.std.specs.Prelude.{ℕ, ◌≡◌, Bool, not, ◌&&◌, List, [], ℤ, set}
use Rattle.std.proofs.Math.Option.{Option, none}
use Rattle.formula.specs.declared.refusal.Reason.{Reason}
use Rattle.formula.specs.declared.refusal.Reason.TheVariants.{Tautology, Misstated}
use Rattle.inference.specs.declared.read.Family.{Family}
use Rattle.inference.specs.declared.read.Family.TheVariants.{Ordinary, LongDistance}
use Rattle.inference.specs.Words.{Words}
use Rattle.inference.specs.Steps.{opposed, demand, judge_statement}
use Rattle.inference.specs.Marks.{slot_at, clean}

-- Whether opposite literals forbid the resolution: the result tells, or, long-distance, what was found of the antecedents.
abbrev pub unresolvable_in : Family → Bool → Words → Bool
unresolvable_in Ordinary crossed R = opposed [] R
unresolvable_in LongDistance crossed R = crossed

abbrev pub result_reason : Bool → Words → Words → Option Reason
result_reason wrong R L = demand (not wrong) Tautology (judge_statement R L)

-- The marks with one taken away, long-distance.
abbrev pub unmarked_in : Family → ℤ → List ℕ → List ℕ
unmarked_in Ordinary x marks = marks
unmarked_in LongDistance x marks = set marks (slot_at x) 0

-- From what was found of opposite literals, and what ticking and wiping told.
abbrev pub decided : Bool → Bool → Bool → Result ⊤ Reason
decided met ticked unstated = passes (demand (not met) Tautology (demand (ticked && not unstated) Misstated none))

pub record JudgedClean (reason : Option Reason) (r : Result ⊤ Reason) (marks : List ℕ) : Type 0 where
  pub answer : r ≡ passes reason
  pub wiped : marks ≡ clean
