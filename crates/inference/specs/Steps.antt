-- Steps (01, "Steps", and the order of refusals "For steps"): what the words of a step say, what is wrong with a step after
-- given numbered clauses, and the run down the words. What steps know of the formula is a Scope; a proof is of one family of steps, and whether a step
-- may follow an empty clause is the rules'.
pub mod Written
pub mod Run
use Rattle.std.specs.Prelude.{ℕ, zero, suc, ◌+◌, Bool, true, false, not, cond, ◌&&◌, ◌||◌, List, [], ◌∷◌, ◌++◌, length, ltb, ℤ, pos, negsuc, neg_ℤ, nat_abs}
use Rattle.std.proofs.Math.Option.{Option, none, some}
use Rattle.std.proofs.Math.ListN.{get_elem?}
use Rattle.formula.specs.Refusal.{refusal, require, no_blocker}
use Rattle.formula.specs.Free.{occurs}
use Rattle.formula.specs.declared.refusal.Blocker.{Blocker}
use Rattle.formula.specs.declared.refusal.Reason.{Reason}
use Rattle.formula.specs.declared.refusal.Refusal.{Refusal}
use Rattle.formula.specs.declared.refusal.Reason.TheVariants.{NoRoom, BrokenStep, NotEarlier, WrongPivot, Tautology, Blocked, Misstated, Afterword}
use Rattle.formula.specs.Decode.{first_clause}
use Rattle.inference.specs.declared.read.Family.{Family}
use Rattle.inference.specs.declared.read.Family.TheVariants.{Ordinary, LongDistance}
use Rattle.inference.specs.Rules.{Rules}
use Rattle.inference.specs.Words.{Words, same_word, holds, without, closes}
use Rattle.inference.specs.Empty.{some_empty}

-- The variables that are existential and universal; which universal stands right of which variable: mergeable e v; which existential depends on which
-- universal: dependent u e; each variable of the prefix with its block, from the left.
pub record Scope : Type 0 where
  pub existential : ℕ → Bool
  pub universal : ℕ → Bool
  pub mergeable : ℕ → ℕ → Bool
  pub dependent : ℕ → ℕ → Bool
  pub blocks : List Blocker

-- `1 i j e L.. 0` and `2 i a L.. 0`, or of the long-distance family (02, P14) `3 i j e L.. 0` and `4 i a L.. 0`.
pub data Step : Type 0 where
  resolution : Family → ℤ → ℤ → ℤ → Words → Step
  reduction : Family → ℤ → ℤ → Words → Step

abbrev pub family_in : Step → Family
family_in (resolution f i j e L) = f
family_in (reduction f i a L) = f

abbrev pub stated_by : Step → Words
stated_by (resolution f i j e L) = L
stated_by (reduction f i a L) = L

-- How many words a step has.
abbrev pub size_of : Step → ℕ
size_of (resolution f i j e L) = 5 + length L
size_of (reduction f i a L) = 4 + length L

-- What a step of a family does: its first word tells.
pub data Kind : Type 0 where
  resolves reduces other : Kind

-- The kind words of a family.
abbrev pub resolution_word : Family → ℤ
resolution_word Ordinary = pos 1
resolution_word LongDistance = pos 3

abbrev pub reduction_word : Family → ℤ
reduction_word Ordinary = pos 2
reduction_word LongDistance = pos 4

-- By whether a word is that of each kind.
abbrev pub kind_by : Bool → Bool → Kind
kind_by true reducing = resolves
kind_by false true = reduces
kind_by false false = other

-- What a step of a family is that begins with this word.
abbrev pub kind_of : Family → ℤ → Kind
kind_of f w = kind_by (same_word w (resolution_word f)) (same_word w (reduction_word f))

-- The family of a proof is that of its first step's kind: by what its first word is in the long-distance family. Where it is no kind at all,
-- the step is broken in either.
abbrev pub family_by : Kind → Family
family_by resolves = LongDistance
family_by reduces = LongDistance
family_by other = Ordinary

unfoldable pub family_of : Words → Family
family_of [] = Ordinary
family_of (w ∷ ws) = family_by (kind_of LongDistance w)

-- A step whose L is closed by a 0.
abbrev pub if_closed : Bool → Step → Option Step
if_closed true s = some s
if_closed false s = none

-- Fields stand by place, 0 or not: the closing 0 is looked for from the first word of L on.
abbrev pub read_fields : Family → Kind → Words → Option Step
read_fields f resolves [] = none
read_fields f resolves (i ∷ []) = none
read_fields f resolves (i ∷ j ∷ []) = none
read_fields f resolves (i ∷ j ∷ e ∷ ws) = if_closed (closes ws) (resolution f i j e (first_clause ws))
read_fields f reduces [] = none
read_fields f reduces (i ∷ []) = none
read_fields f reduces (i ∷ a ∷ ws) = if_closed (closes ws) (reduction f i a (first_clause ws))
read_fields f other ws = none

-- The step of a family that stands first in the words, if one does.
unfoldable pub read_step : Family → Words → Option Step
read_step f [] = none
read_step f (w ∷ ws) = read_fields f (kind_of f w) ws

-- The numbered clause of an antecedent: it is one from 1 to the last.
abbrev pub antecedent : List Words → ℤ → Option Words
antecedent known (pos zero) = none
antecedent known (pos (suc n)) = get_elem? known n
antecedent known (negsuc n) = none

-- The result of a resolution, as a list that may hold a literal twice.
abbrev pub resolvent : ℤ → Words → Words → Words
resolvent e C D = without e C ++ without (neg_ℤ e) D

-- Both signs of a variable stand among `seen` and the words, at least one of them among the words.
unfoldable pub opposed : Words → Words → Bool
opposed seen [] = false
opposed seen (x ∷ R) = holds (neg_ℤ x) seen || opposed (x ∷ seen) R

-- Some word of D has its opposite in C, and its variable may not be merged.
unfoldable pub crosses : (ℕ → Bool) → Words → Words → Bool
crosses may C [] = false
crosses may C (x ∷ D) = (holds (neg_ℤ x) C && not (may (nat_abs x))) || crosses may C D

-- Opposite literals that a resolution may not have: in its result; or, long-distance, one in each antecedent apart from the pivot, of a variable
-- that is not a universal right of the pivot (02, P14). A pair that one antecedent holds whole, the other neither sign, is let be.
unfoldable pub unresolvable : Family → (ℕ → Bool) → ℤ → Words → Words → Bool
unresolvable Ordinary may e C D = opposed [] (resolvent e C D)
unresolvable LongDistance may e C D = crosses may (without e C) (without (neg_ℤ e) D)

-- The result of a reduction: without the literal, or, long-distance, without both signs.
abbrev pub reduct : Family → ℤ → Words → Words
reduct Ordinary a C = without a C
reduct LongDistance a C = without (neg_ℤ a) (without a C)

-- Each word of L is in the result and is not stated before.
unfoldable pub lists : Words → Words → Words → Bool
lists R seen [] = true
lists R seen (x ∷ L) = holds x R && not (holds x seen) && lists R (x ∷ seen) L

-- Each word of the result is in L.
unfoldable pub covers : Words → Words → Bool
covers L [] = true
covers L (x ∷ R) = holds x L && covers L R

-- L states the result, in any order, no literal twice.
unfoldable pub states : Words → Words → Bool
states R L = lists R [] L && covers L R

abbrev pub positive_existential : Scope → ℤ → Bool
positive_existential S (pos v) = S.existential v
positive_existential S (negsuc n) = false

-- Some literal's variable depends on u: it is an existential one.
unfoldable pub blocked : Scope → ℕ → Words → Bool
blocked S u [] = false
blocked S u (x ∷ C) = S.dependent u (nat_abs x) || blocked S u C

-- The first whose variable passes a test.
unfoldable pub leftmost : (ℕ → Bool) → List Blocker → Blocker
leftmost test [] = no_blocker
leftmost test (b ∷ bs) = cond (test b.variable.0) b (leftmost test bs)

-- What blocks a clause (02, P6): of its variables that depend on u the one leftmost in the prefix, with its block.
unfoldable pub blocker_of : Scope → ℕ → Words → Blocker
blocker_of S u C = leftmost (λ v. S.dependent u v && occurs v C) S.blocks

-- The reason if the test fails, what comes later if it holds.
abbrev pub demand : Bool → Reason → Option Reason → Option Reason
demand b r later = require b (some r) later

abbrev pub judge_statement : Words → Words → Option Reason
judge_statement R L = demand (states R L) Misstated none

unfoldable pub judge_resolution : Family → Scope → ℤ → Words → Option Words → Option Words → Option Reason
judge_resolution f S e L none D = some NotEarlier
judge_resolution f S e L (some C) none = some NotEarlier
judge_resolution f S e L (some C) (some D) =
    demand (positive_existential S e && holds e C && holds (neg_ℤ e) D)
    WrongPivot
    (demand (not (unresolvable f (S.mergeable (nat_abs e)) e C D)) Tautology (judge_statement (resolvent e C D) L))

unfoldable pub judge_reduction : Family → Scope → ℤ → Words → Option Words → Option Reason
judge_reduction f S a L none = some NotEarlier
judge_reduction f S a L (some C) =
    demand (S.universal (nat_abs a) && holds a C)
    WrongPivot
    (demand (not (blocked S (nat_abs a) C)) (Blocked (blocker_of S (nat_abs a) C)) (judge_statement (reduct f a C) L))

-- What is wrong with a step after the numbered clauses: nothing, or the first reason in 01's order.
abbrev pub judge : Scope → List Words → Step → Option Reason
judge S known (resolution f i j e L) = judge_resolution f S e L (antecedent known i) (antecedent known j)
judge S known (reduction f i a L) = judge_reduction f S a L (antecedent known i)

-- The first step of the words: right, or wrong for a reason.
pub data Judged : Type 0 where
  right : Step → Judged
  wrong : Reason → Judged

abbrev pub judged_as : Step → Option Reason → Judged
judged_as s none = right s
judged_as s (some r) = wrong r

abbrev pub judge_read : Scope → ℕ → List Words → Option Step → Judged
judge_read S room known none = wrong BrokenStep
judge_read S room known (some s) = require (ltb (length known) room) (wrong NoRoom) (judged_as s (judge S known s))

-- `room` is how many numbered clauses the clause offsets have a word for. Whether a step may stand here, after an empty clause (02, P10), comes ahead of
-- all that is wrong with it, its reading too.
unfoldable pub judge_first : Rules → Family → Scope → ℕ → List Words → Words → Judged
judge_first rules f S room known ws = require (not (rules.strict && some_empty known)) (wrong Afterword) (judge_read S room known (read_step f ws))

-- The run ends with all numbered clauses, or is refused.
pub data Outcome : Type 0 where
  ended : List Words → Outcome
  refused : Refusal → Outcome

-- A wrong step is refused at its own clause number; `next` goes on after a right one.
abbrev pub turn : List Words → Judged → (Step → Outcome) → Outcome
turn known (right s) next = next s
turn known (wrong r) next = refused (refusal r (suc (length known)))

abbrev pub less_one : ℕ → ℕ
less_one zero = zero
less_one (suc n) = n

-- The words from here on, the first `skip` of which belong to a step that was judged.
unfoldable pub run : Rules → Family → Scope → ℕ → List Words → ℕ → Words → Outcome
run rules f S room known skip [] = ended known
run rules f S room known (suc skip) (w ∷ ws) = run rules f S room known skip ws
run rules f S room known zero (w ∷ ws) =
    turn known (judge_first rules f S room known (w ∷ ws)) (λ s. run rules f S room (known ++ (stated_by s ∷ [])) (less_one (size_of s)) ws)
