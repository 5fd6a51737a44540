-- Lawful steps (01, "Steps"; 000, section 3) on membership and on dependence, with no order of tests: a true statement of a
-- result, a resolution, a reduction, and where a reduction is blocked; then steps one after the other: their words, the clauses they
-- number, that each is lawful, that none stands after an empty clause, and that one is blocked.
-- Steps.antt has the tests; what a refutation is stands in the checker.
pub mod Laws
use Rattle.std.specs.Prelude.{ℕ, suc, ◌+◌, ◌*◌, ◌<◌, ◌≡◌, ◌⊎◌, ◌≢◌, true, length, get_or, ℤ, pos, neg_ℤ, nat_abs}
use mathlib.Core.List.{List, [], ◌∷◌, ◌++◌, map, Memᴰ}
use Rattle.std.proofs.Math.Option.{some}
use Rattle.std.proofs.Math.ListN.{get_elem?}
use Rattle.qbf.specs.Formula.{Formula, Existential, Universal, UniversalRightOf}
use Rattle.qbf.specs.Dependency.{Depends}
use Rattle.formula.specs.Prefix.{with_blocks, entry_count}
use Rattle.formula.specs.declared.refusal.Blocker.{Blocker}
use Rattle.inference.specs.declared.read.Family.{Family}
use Rattle.inference.specs.declared.read.Family.TheVariants.{Ordinary, LongDistance}
use Rattle.inference.specs.Rules.{Rules}
use Rattle.inference.specs.Words.{Words, AllWords}
use Rattle.inference.specs.Steps.{Step, resolution, reduction, family_in, stated_by, resolution_word, reduction_word}

-- No literal stands twice.
abbrev pub Once : Words → Type 0
Once [] = Unit {0}
Once (x ∷ L) = (Memᴰ x L → ⊥) × Once L

-- L states the result, in any order, no literal twice.
pub record States (result : ℤ → Type 0) (L : Words) : Type 0 where
  pub all : (x : ℤ) → result x → Memᴰ x L
  pub only : (x : ℤ) → Memᴰ x L → result x
  pub once : Once L

-- The word i is the number of the clause C, from 1 to the last numbered one.
pub record Numbered (known : List Words) (i : ℤ) (C : Words) : Type 0 where
  pub place : ℕ
  pub is : i ≡ pos (suc place)
  pub stands : get_elem? known place ≡ some C

-- C without e joined with D without −e; C without a, or, long-distance, without both signs of its variable.
abbrev pub Resolvent : Words → Words → ℤ → ℤ → Type 0
Resolvent C D e x = (Memᴰ x C × (x ≢ e)) ⊎ (Memᴰ x D × (x ≢ neg_ℤ e))

abbrev pub Reduct : Family → Words → ℤ → ℤ → Type 0
Reduct Ordinary C a x = Memᴰ x C × (x ≢ a)
Reduct LongDistance C a x = Memᴰ x C × (nat_abs x ≢ nat_abs a)

-- The result does not hold both signs of a variable; or, long-distance, what one antecedent holds and the other opposes, apart from the pivot, is of a
-- universal right of the pivot (02, P14). Apart from the pivot: no antecedent holds both of the pivot's signs (`clause_one_sign` of Derived/Laws.antt).
abbrev pub Resolvable : Formula → Family → Words → Words → ℤ → Type 0
Resolvable F Ordinary C D e = (x : ℤ) → Resolvent C D e x → Resolvent C D e (neg_ℤ x) → ⊥
Resolvable F LongDistance C D e =
    (x : ℤ) → Memᴰ x C → x ≢ e → Memᴰ (neg_ℤ x) D → UniversalRightOf F.prefix (nat_abs e) (nat_abs x)

-- e is a positive existential variable, clause i holds e, clause j holds −e, and they may be resolved.
pub record LawfulResolution (F : Formula) (known : List Words) (f : Family) (i j e : ℤ) (L : Words) : Type 0 where
  pub left : Words
  pub right : Words
  pub left_numbered : Numbered known i left
  pub right_numbered : Numbered known j right
  pub variable : ℕ
  pub positive : e ≡ pos variable
  pub existential : Existential F.prefix variable
  pub in_left : Memᴰ e left
  pub in_right : Memᴰ (neg_ℤ e) right
  pub resolvable : Resolvable F f left right e
  pub states : States (Resolvent left right e) L

-- a is a universal literal of clause i, and no existential of clause i depends on its variable.
pub record LawfulReduction (F : Formula) (known : List Words) (f : Family) (i a : ℤ) (L : Words) : Type 0 where
  pub clause : Words
  pub numbered : Numbered known i clause
  pub universal : Universal F.prefix (nat_abs a)
  pub in_clause : Memᴰ a clause
  pub independent : (x : ℤ) → Memᴰ x clause → Existential F.prefix (nat_abs x) → Depends F (nat_abs a) (nat_abs x) → ⊥
  pub states : States (Reduct f clause a) L

abbrev pub Lawful : Formula → List Words → Step → Type 0
Lawful F known (resolution f i j e L) = LawfulResolution F known f i j e L
Lawful F known (reduction f i a L) = LawfulReduction F known f i a L

-- Where a reduction is blocked: a is a universal literal of the clause, and an existential of the clause depends on its variable. What blocks
-- (02, P6) is such an existential with the block of its entry, and none of the clause's dependents stands left of it in the prefix.
pub record Blocks (F : Formula) (known : List Words) (i a : ℤ) (b : Blocker) : Type 0 where
  pub clause : Words
  pub numbered : Numbered known i clause
  pub universal : Universal F.prefix (nat_abs a)
  pub reduced : Memᴰ a clause
  pub literal : ℤ
  pub in_clause : Memᴰ literal clause
  pub existential : Existential F.prefix (nat_abs literal)
  pub depends : Depends F (nat_abs a) (nat_abs literal)
  pub named : nat_abs literal ≡ b.variable.0
  pub left : List Blocker
  pub right : List Blocker
  pub stands : with_blocks F.prefix ≡ left ++ (b ∷ right)
  pub leftmost : (c : Blocker) → Memᴰ c left → (x : ℤ) → Memᴰ x clause → nat_abs x ≡ c.variable.0 → Depends F (nat_abs a) (nat_abs x) → ⊥

abbrev pub BlockedStep : Formula → List Words → Step → Blocker → Type 0
BlockedStep F known (resolution f i j e L) b = ⊥
BlockedStep F known (reduction f i a L) b = Blocks F known i a b

-- The words of a step.
abbrev pub words_of : Step → Words
words_of (resolution f i j e L) = resolution_word f ∷ i ∷ j ∷ e ∷ (L ++ pos 0 ∷ [])
words_of (reduction f i a L) = reduction_word f ∷ i ∷ a ∷ (L ++ pos 0 ∷ [])

-- Steps written one after the other.
unfoldable pub step_words : List Step → Words
step_words [] = []
step_words (s ∷ steps) = words_of s ++ step_words steps

-- The numbered clauses once the steps stand after those numbered before: each step adds the result it states.
abbrev pub numbered_clauses : List Words → List Step → List Words
numbered_clauses known steps = known ++ map stated_by steps

-- Each step is lawful over the clauses numbered before it; `known` are those before the first step.
abbrev pub LawfulSteps : Formula → List Words → List Step → Type 0
LawfulSteps F known [] = Unit {0}
LawfulSteps F known (s ∷ steps) = Lawful F known s × LawfulSteps F (known ++ (stated_by s ∷ [])) steps

-- All steps are of the family f.
abbrev pub OfFamily : Family → List Step → Type 0
OfFamily f [] = Unit {0}
OfFamily f (s ∷ steps) = (family_in s ≡ f) × OfFamily f steps

-- No step stands after an empty clause (02, P10).
abbrev pub Unended : List Words → List Step → Type 0
Unended known [] = Unit {0}
Unended known (s ∷ steps) = (Memᴰ [] known → ⊥) × Unended (known ++ (stated_by s ∷ [])) steps

-- Each step may stand where it does.
abbrev pub Allowed : Rules → List Words → List Step → Type 0
Allowed rules known steps = rules.strict ≡ true → Unended known steps

-- After lawful steps stands a blocked one of their family, where a step may stand; `place` is the number its clause would have, b what blocks.
pub record RunBlocked (rules : Rules) (F : Formula) (known : List Words) (ws : Words) (place : ℕ) (b : Blocker) : Type 0 where
  pub steps : List Step
  pub lawful : LawfulSteps F known steps
  pub blocked : Step
  pub family : Family
  pub of_family : OfFamily family steps
  pub blocked_family : family_in blocked ≡ family
  pub allowed : Allowed rules known steps
  pub blocked_allowed : Allowed rules (numbered_clauses known steps) (blocked ∷ [])
  pub rest : Words
  pub stands : ws ≡ step_words steps ++ (words_of blocked ++ rest)
  pub blocks : BlockedStep F (numbered_clauses known steps) blocked b
  pub own_number : place ≡ suc (length (numbered_clauses known steps))

-- What blocks, in the words of the prefix: an entry's variable, 1 for existential, and its block.
pub record BlockerEntry (prefix : List ℤ) (b : Blocker) : Type 0 where
  pub place : ℕ
  pub within : place < entry_count prefix
  pub variable_word_lem : get_or prefix (3 * place) (pos 0) ≡ pos b.variable.0
  pub quantifier_word_lem : get_or prefix (3 * place + 1) (pos 0) ≡ pos 1
  pub block_word_lem : get_or prefix (3 * place + 2) (pos 0) ≡ pos b.block

-- No clause holds the word 0.
abbrev pub NoZeros : List Words → Type 0
NoZeros known = AllWords (λ x. x ≢ pos 0) known
