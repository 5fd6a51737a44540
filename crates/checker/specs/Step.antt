-- What the parts of a step's check answer, and the scratch they work in: the marks of a step, the row that was made last, which variables are
-- existential. That the parts make up the judgement of inference/specs/Steps.antt is in Step/Laws.antt.
pub mod Laws
use Rattle.std.specs.Prelude.{Option as Optional, Some, None, Result, Ok, Err, ⊤}
use Rattle.formula.specs.declared.literal.Variable.{Variable}
use Rattle.checker.specs.declared.step.StepTaken.{StepTaken}
use Rattle.formula.specs.Refusal.{passes}
use Rattle.std.specs.Prelude.{ℕ, ◌+◌, ◌≡◌, Bool, not, ◌&&◌, List, length, take, drop, ℤ, pos, neg_ℤ, nat_abs}
use Rattle.std.proofs.Math.Option.{Option, none, some}
use Rattle.bits.specs.Flags.{flags}
use Rattle.dependency.specs.Row.{row_of}
use Rattle.dependency.specs.Scratch.{row_at, later, small_bound, row_in}
use Rattle.formula.specs.Decode.{formula_of}
use Rattle.formula.specs.Word.{word_of}
use Rattle.formula.specs.Bounds.{variable_bound, in_range, variable_fit}
use Rattle.formula.specs.declared.refusal.Reason.{Reason}
use Rattle.formula.specs.declared.refusal.Reason.TheVariants.{NotEarlier, WrongPivot, Blocked}
use Rattle.inference.specs.declared.read.Family.{Family}
use Rattle.inference.specs.declared.read.StepKind.{StepKind}
use Rattle.inference.specs.declared.read.StepKind.TheVariants.{Resolution, Reduction}
use Rattle.inference.specs.declared.read.StepRead.{StepRead}
use Rattle.inference.specs.Words.{Words, holds}
use Rattle.inference.specs.Steps.{Scope, stated_by, size_of, resolvent, unresolvable, reduct, blocked, blocker_of, demand, judge_statement, Judged, right, wrong}
use Rattle.inference.specs.Empty.{is_empty}
use Rattle.inference.specs.Read.{fields_of}
use Rattle.inference.specs.Marks.{marks_in, clean}
use Rattle.inference.specs.Existentials.{existentials_of, existential_of}
use Rattle.inference.specs.Result.{result_reason}

-- The marks, before the row; the existentials, right behind it.
abbrev pub marks_of : List ℕ → List ℕ
marks_of scratch = marks_in (take row_at scratch)

abbrev pub existentials_in : List ℕ → List ℕ
existentials_in scratch = flags (take 128 (drop later scratch))

-- The scratch is whole and its marks are clean.
pub record Clean (scratch : List ℕ) : Type 0 where
  pub size : length scratch ≡ small_bound
  pub marks : marks_of scratch ≡ clean

-- The scratch with the existentials of a prefix.
pub record Ready (prefix : List ℤ) (scratch : List ℕ) : Type 0 where
  pub size : length scratch ≡ small_bound
  pub marks : marks_of scratch ≡ clean
  pub existentials : existentials_in scratch ≡ existentials_of prefix

-- The same with the row of u.
pub record RowReady (prefix clauses : List ℤ) (u : ℕ) (scratch : List ℕ) : Type 0 where
  pub row : row_in scratch ≡ row_of (formula_of prefix clauses) u
  pub ready : Ready prefix scratch

-- The row of the variable `kept` stands there; where there is none, any row (02, P4). A clause of contracts and no type of the two: while a row is made, and
-- while marks stand, it does not hold of them.
pub record KeptReady (prefix clauses : List ℤ) (kept : Optional Variable) (scratch : List ℕ) : Type 0 where
  pub row : (v : Variable) → kept ≡ Some v → row_in scratch ≡ row_of (formula_of prefix clauses) v.0
  pub ready : Ready prefix scratch

-- The variable of a word that is a literal.
abbrev pub literal_variable : ℤ → Optional Variable
literal_variable w = variable_fit (in_range (nat_abs w) variable_bound) (nat_abs w)

-- The variable whose row stands in the scratch after a right step: a reduction's own, a resolution leaves what stood there.
abbrev pub kept_by : StepKind → StepRead → Optional Variable → Optional Variable
kept_by Resolution step kept = kept
kept_by Reduction step kept = literal_variable step.pivot

abbrev pub kept_after : StepRead → Optional Variable → Optional Variable
kept_after step kept = kept_by step.kind step kept

-- The pivot stands in both clauses, no opposite literals forbid it, then the result; `may` tells which variables may be merged.
abbrev pub pivot_reason : Family → (ℕ → Bool) → ℤ → Words → Words → Words → Option Reason
pivot_reason f may e C D L = demand (holds e C && holds (neg_ℤ e) D) WrongPivot (result_reason (unresolvable f may e C D) (resolvent e C D) L)

abbrev pub resolving_reason : Family → (ℕ → ℕ → Bool) → Optional Variable → Words → Words → Words → Option Reason
resolving_reason f mergeable None C D L = some WrongPivot
resolving_reason f mergeable (Some v) C D L = pivot_reason f (mergeable v.0) (pos v.0) C D L

-- With antecedents that may be missing; `existentials` are the flags in the scratch.
abbrev pub resolution_reason : Family → (ℕ → ℕ → Bool) → List ℕ → ℤ → Words → Option Words → Option Words → Option Reason
resolution_reason f mergeable existentials e L none D = some NotEarlier
resolution_reason f mergeable existentials e L (some C) none = some NotEarlier
resolution_reason f mergeable existentials e L (some C) (some D) = resolving_reason f mergeable (existential_of existentials (word_of e)) C D L

-- No variable of the clause depends on u, then the result.
abbrev pub free_reason : Family → Scope → ℕ → ℤ → Words → Words → Option Reason
free_reason f S u a C L = demand (not (blocked S u C)) (Blocked (blocker_of S u C)) (judge_statement (reduct f a C) L)

-- An answer that leaves the marks clean, and the row and the existentials as they were.
pub record Answers (reason : Option Reason) (r : Result ⊤ Reason) (scratch scratch' : List ℕ) : Type 0 where
  pub answer : r ≡ passes reason
  pub size : length scratch' ≡ length scratch
  pub marks : marks_of scratch' ≡ clean
  pub kept : take 256 (drop row_at scratch') ≡ take 256 (drop row_at scratch)

-- After a wrong step no row is kept.
abbrev pub kept_if : Result ⊤ Reason → Optional Variable → Optional Variable
kept_if (Ok tt) kept = kept
kept_if (Err r) kept = None

-- An answer that leaves the scratch ready; if the step is right, the row of `kept` stands there.
pub record JudgedReady (prefix clauses : List ℤ) (kept : Optional Variable) (reason : Option Reason) (r : Result ⊤ Reason) (scratch' : List ℕ) : Type 0 where
  pub answer : r ≡ passes reason
  pub ready : KeptReady prefix clauses (kept_if r kept) scratch'

-- The step's answer: where the next step begins, whose row is kept then, and whether the step's clause is empty; `kept` is the variable of the
-- row before the step.
abbrev pub step_answer : ℕ → Optional Variable → Judged → Result StepTaken Reason
step_answer at kept (right s) = Ok (record { next = at + size_of s; kept = kept_after (fields_of at s) kept; empty = is_empty (stated_by s) })
step_answer at kept (wrong r) = Err r

abbrev pub kept_in : Result StepTaken Reason → Optional Variable
kept_in (Ok t) = t.kept
kept_in (Err r) = None

pub record StepChecked (prefix clauses : List ℤ) (at : ℕ) (kept : Optional Variable) (j : Judged) (r : Result StepTaken Reason) (scratch' : List ℕ) : Type 0 where
  pub answer : r ≡ step_answer at kept j
  pub ready : KeptReady prefix clauses (kept_in r) scratch'
