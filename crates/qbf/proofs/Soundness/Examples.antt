-- 001's refutation as a derivation: it is valid, derives the empty clause over a proper formula, and so shows by `soundness`
-- that the formula is lost. Two resolutions need reductions that only the dependency scheme allows.
use Rattle.std.specs.Prelude.{ℕ, ◌≡◌, refl, ◌≢◌, Bool, true, false}
use Rattle.std.proofs.Common.{sym, ap, ◌∙◌, subst, inl, inr, true≢false, arith}
use mathlib.Core.List.Memᴰ
use mathlib.Core.List.{List, [], ◌∷◌, Memᴰ}
use Rattle.qbf.specs.Literal.{Literal, literal, Clause, same}
use Rattle.qbf.specs.Formula.{Distinct, Proper, variables, listed, after, existentials}
use Rattle.qbf.specs.Play.{Lost}
use Rattle.std.proofs.Math.Decide.{ℕ_discrete}
use Rattle.qbf.specs.Path.{holds, together, joined, literals, reach}
use Rattle.qbf.specs.Dependency.{Depends, depends, member, pair}
use Rattle.qbf.proofs.Dependency.Laws.{depends_false, member_complete}
use Rattle.qbf.specs.Derivation.{Derivation, leaf, resolve, reduce, Concludes, Valid, Empty, MergesRight}
use Rattle.qbf.proofs.Examples.{two_reductions, two_reductions_independent}
use Rattle.qbf.proofs.Soundness.{soundness}

abbrev p : ℕ → Literal
p v = literal v true

abbrev n : ℕ → Literal
n v = literal v false

-- The premises of a resolution, by the sign of the pivot that each holds.
abbrev premises : Derivation → Derivation → Bool → Derivation
premises positive negative true = positive
premises positive negative false = negative

abbrev three : Derivation
three = reduce (leaf (p 2 ∷ p 3 ∷ [])) 2

abbrev four : Derivation
four = reduce (leaf (n 2 ∷ p 4 ∷ [])) 2

abbrev one : Derivation
one = resolve (premises four (leaf (n 4 ∷ p 1 ∷ []))) 4

abbrev not_one : Derivation
not_one = resolve (premises three (leaf (n 1 ∷ n 3 ∷ []))) 3

abbrev pub refutation : Derivation
refutation = resolve (premises one not_one) 1

-- One of two literals, and not of the variable of the first, or not the first itself.
second : {a b l : Literal} → Memᴰ l (a ∷ b ∷ []) → (l ≡ a → ⊥) → l ≡ b
second m not_first = elim (Memᴰ.cases_cons m) [ inl e ↦ absurd (not_first e) | inr k ↦ Memᴰ.eq_of_singleton k ]

first : {a b l : Literal} → Memᴰ l (a ∷ b ∷ []) → (l ≡ b → ⊥) → l ≡ a
first m not-second = elim (Memᴰ.cases_cons m) [ inl e ↦ e | inr k ↦ absurd (not-second (Memᴰ.eq_of_singleton k)) ]

-- What each derives: one literal.
three_only : (l : Literal) → Concludes three l → l ≡ p 3
three_only l c = second c.0 (λ e. c.1 (ap (λ (k : Literal). k.variable) e))

four_only : (l : Literal) → Concludes four l → l ≡ p 4
four_only l c = second c.0 (λ e. c.1 (ap (λ (k : Literal). k.variable) e))

one_only : (l : Literal) → Concludes one l → l ≡ p 1
one_only l (true, c, d) = absurd (d (four_only l c))
one_only l (false, c, d) = second c d

not_one_only : (l : Literal) → Concludes not_one l → l ≡ n 1
not_one_only l (true, c, d) = absurd (d (three_only l c))
not_one_only l (false, c, d) = first c d

pub refutation_empty : Empty refutation
refutation_empty l (true, c, d) = d (one_only l c)
refutation_empty l (false, c, d) = d (not_one_only l c)

-- A premise that holds its pivot literal alone merges nothing.
merges_nothing : (x : ℕ) (P N : Literal → Type 0) → ((l : Literal) → P l → l ≡ p x) → MergesRight two_reductions x P N
merges_nothing x P N only l c d e = absurd (d (only l c))

-- Neither literal of a two-literal clause depends on 2.
both_independent : (a b : Literal) → (Depends two_reductions 2 a.variable → ⊥) → (Depends two_reductions 2 b.variable → ⊥) → (e : Literal) → Memᴰ e (a ∷ b ∷ []) → Depends two_reductions 2 e.variable → ⊥
both_independent a b free-a free-b e m d =
    elim (Memᴰ.cases_cons m) [
      | inl q ↦ free-a (subst (λ (l : Literal). Depends two_reductions 2 l.variable) q d)
      | inr k ↦ free-b (subst (λ (l : Literal). Depends two_reductions 2 l.variable) (Memᴰ.eq_of_singleton k) d)
    ]

two_independent : Depends two_reductions 2 2 → ⊥
unfolding depends member pair reach joined together holds literals existentials after same ℕ_discrete
two_independent = depends_false two_reductions 2 2 refl

-- What holds of both signs.
both_signs : (P : Bool → Type 0) → P true → P false → (b : Bool) → P b
both_signs P t f true = t
both_signs P t f false = f

three_valid : Valid two_reductions three
three_valid = (
  Memᴰ.head refl,
  Memᴰ.tail (Memᴰ.head refl),
  λ e m x. both_independent (p 2) (p 3) two_independent (depends_false two_reductions 2 3 two_reductions_independent.0) e m,
)

four_valid : Valid two_reductions four
four_valid = (
  Memᴰ.tail (Memᴰ.head refl),
  Memᴰ.tail (Memᴰ.head refl),
  λ e m x. both_independent (n 2) (p 4) two_independent (depends_false two_reductions 2 4 two_reductions_independent.1) e m,
)

one_valid : Valid two_reductions one
one_valid = (
  both_signs _ four_valid (Memᴰ.tail (Memᴰ.tail (Memᴰ.head refl))),
  Memᴰ.tail (Memᴰ.tail (Memᴰ.tail (Memᴰ.head refl))),
  both_signs _ (Memᴰ.tail (Memᴰ.head refl), λ e. omega arith) (Memᴰ.head refl),
  merges_nothing 4 (Concludes four) (Concludes (leaf (n 4 ∷ p 1 ∷ []))) four_only,
)

not_one_valid : Valid two_reductions not_one
not_one_valid = (
  both_signs _ three_valid (Memᴰ.tail (Memᴰ.tail (Memᴰ.tail (Memᴰ.head refl)))),
  Memᴰ.tail (Memᴰ.tail (Memᴰ.head refl)),
  both_signs _ (Memᴰ.tail (Memᴰ.head refl), λ e. omega arith) (Memᴰ.tail (Memᴰ.head refl)),
  merges_nothing 3 (Concludes three) (Concludes (leaf (n 1 ∷ n 3 ∷ []))) three_only,
)

-- Literals of different variables differ.
differ : (a b : Literal) → (a.variable ≡ b.variable → ⊥) → a ≢ b
differ a b h e = h (ap (λ (l : Literal). l.variable) e)

pub refutation_valid : Valid two_reductions refutation
refutation_valid = (
  both_signs _ one_valid not_one_valid,
  Memᴰ.head refl,
  both_signs _
      (false, Memᴰ.tail (Memᴰ.head refl), differ (p 1) (n 4) (λ e. omega arith))
      (false, Memᴰ.head refl, differ (n 1) (n 3) (λ e. omega arith)),
  merges_nothing 1 (Concludes one) (Concludes not_one) one_only,
)

-- The formula is proper: each of its clauses has two literals, of different variables that the prefix lists.
pair_distinct : (a b : ℕ) → (a ≡ b → ⊥) → Distinct (a ∷ b ∷ [])
pair_distinct a b h = (λ m. h (Memᴰ.eq_of_singleton m), (λ m. Memᴰ.not-nil m, tt))

record ProperPair (C : Clause) : Type 0 where
  distinct : Distinct (variables C)
  bound : (l : Literal) → Memᴰ l C → Memᴰ l.variable (listed two_reductions.prefix)

proper_pair : (a b : Literal) → (a.variable ≡ b.variable → ⊥) → Memᴰ a.variable (listed two_reductions.prefix) → Memᴰ b.variable (listed two_reductions.prefix) → ProperPair (a ∷ b ∷ [])
proper_pair a b h in-a in_b =
    record {
      distinct = pair_distinct a.variable b.variable h;
      bound = λ l m.
          elim (Memᴰ.cases_cons m) [
            | inl q ↦ subst (λ (k : Literal). Memᴰ k.variable (listed two_reductions.prefix)) (sym q) in-a
            | inr k ↦ subst (λ (k : Literal). Memᴰ k.variable (listed two_reductions.prefix)) (sym (Memᴰ.eq_of_singleton k)) in_b
          ];
    }

lists_one : Memᴰ 1 (listed two_reductions.prefix)
lists_one = Memᴰ.head refl

lists_two : Memᴰ 2 (listed two_reductions.prefix)
lists_two = Memᴰ.tail (Memᴰ.head refl)

lists_three : Memᴰ 3 (listed two_reductions.prefix)
lists_three = Memᴰ.tail (Memᴰ.tail (Memᴰ.head refl))

lists_four : Memᴰ 4 (listed two_reductions.prefix)
lists_four = Memᴰ.tail (Memᴰ.tail (Memᴰ.tail (Memᴰ.head refl)))

each_in : {A : Type 0} {P : A → Type 0} (x : A) (xs : List A) → P x → ((y : A) → Memᴰ y xs → P y) → (y : A) → Memᴰ y (x ∷ xs) → P y
each_in {A} {P} x xs at_x at-xs y m = elim (Memᴰ.cases_cons m) [ inl q ↦ subst P (sym q) at_x | inr k ↦ at-xs y k ]

each_proper : (C : Clause) → Memᴰ C two_reductions.matrix → ProperPair C
each_proper =
    each_in _ _ (proper_pair (p 2) (p 3) (λ e. omega arith) lists_two lists_three)
    (each_in _ _ (proper_pair (n 2) (p 4) (λ e. omega arith) lists_two lists_four)
    (each_in _ _ (proper_pair (n 4) (p 1) (λ e. omega arith) lists_four lists_one)
    (each_in _ _ (proper_pair (n 1) (n 3) (λ e. omega arith) lists_one lists_three) (λ C m. absurd (Memᴰ.not-nil m)))))

pub two_reductions_proper : Proper two_reductions
unfolding member ℕ_discrete
two_reductions_proper =
    record {
      prefix_distinct = (absent 1 _ refl, (absent 2 _ refl, (absent 3 _ refl, (absent 4 _ refl, tt))));
      clause_distinct = λ C m. (each_proper C m).distinct;
      clause_bound = λ C m. (each_proper C m).bound;
    }
  where
    absent : (x : ℕ) (xs : List ℕ) → member x xs ≡ false → Memᴰ x xs → ⊥
    absent x xs e m = true≢false (sym (member_complete x xs m) ∙ e)

-- So the formula is lost, by its refutation.
pub lost_by_refutation : Lost two_reductions
lost_by_refutation = soundness two_reductions two_reductions_proper refutation refutation_valid refutation_empty
