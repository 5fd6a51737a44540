-- Restriction keeps a derivation valid at the next position: by induction on the derivation, the answer is Top, and then
-- the literal occurs and is concluded if existential, or a derivation that is valid and concludes nothing more.
use Rattle.std.specs.Prelude.{ℕ, ◌≡◌, refl, ◌≢◌, ◌⊎◌, Bool, not}
use Rattle.std.proofs.Common.{sym, ap, ◌∙◌, subst, inl, inr}
use Rattle.std.proofs.Math.Bool.{true, false}
use mathlib.Core.List.Memᴰ
use mathlib.Core.List.{◌∷◌, Memᴰ}
use Rattle.std.proofs.Math.Decide.{ℕ_discrete}
use Rattle.qbf.specs.Literal.{Literal, literal, neg, Clause, same}
use Rattle.qbf.specs.Formula.{Formula, Quantifier, entry, Prefix, listed, Distinct, Existential, Universal}
use Rattle.qbf.specs.Formula.Laws.{same_or_opposite, sign_not_other, quantifiers_exclusive}
use Rattle.qbf.specs.Play.{Values, assign, true_literal}
use Rattle.qbf.proofs.Play.Laws.{opposite_false, other_keeps}
use Rattle.qbf.specs.Derivation.{Derivation, leaf, resolve, reduce}
use Rattle.qbf.specs.Restriction.{Unset, ConcludesAt, ValidAt, Occurs, in_list?, Restricted, top, tree, HoldsAt, premises, restrict_leaf, resolve_trees, restrict_resolve, restrict_reduce, restrict}

-- What is concluded at a position is still to be set.
pub concluded_unset : (rest : Prefix) (t : Derivation) (l : Literal) → ConcludesAt rest t l → Unset rest l.variable
concluded_unset rest (leaf C) l c = c.1
concluded_unset rest (resolve t x) l c = concluded_unset rest (t c.0) l c.1
concluded_unset rest (reduce t u) l c = concluded_unset rest t l c.0

-- What an answer to restricting t by k owes: `before` is the position's entries, `rest` those left after it, τ the values then.
abbrev pub Kept : Formula → Prefix → Prefix → Values → Literal → Derivation → Restricted → Type 0
Kept F before rest τ k t top = Occurs t k × (Existential F.prefix k.variable → ConcludesAt before t k)
Kept F before rest τ k t (tree s) = ValidAt F rest τ s × ((l : Literal) → ConcludesAt rest s l → ConcludesAt before t l)

module _ (F : Formula) (distinct : Distinct (listed F.prefix)) (rest : Prefix) (k : Literal) (q : Quantifier) (fresh : Unset rest k.variable → ⊥) (τ : Values) where
  abbrev before : Prefix
  before = entry k.variable q ∷ rest

  abbrev next : Values
  next = assign τ k.variable k.sign

  -- A literal of a clause without k, to be set or false before, is so after.
  still_settled :
      (l : Literal) → l ≢ k → Unset before l.variable ⊎ (true_literal τ l ≡ false) →
      Unset rest l.variable ⊎ (true_literal next l ≡ false)
  still_settled l other given = go (ℕ_discrete k.variable l.variable) given
    where
      go :
          Dec (k.variable ≡ l.variable) → Unset before l.variable ⊎ (true_literal τ l ≡ false) →
          Unset rest l.variable ⊎ (true_literal next l ≡ false)
      go (yes e) g =
          elim (same_or_opposite l k (sym e)) [
            | inl p ↦ absurd (other p)
            | inr p ↦ inr (ap (true_literal next) p ∙ opposite_false τ k)
          ]
      go (no n) (inl m) = elim (Memᴰ.cases_cons m) [ inl p ↦ absurd (n (sym p)) | inr m' ↦ inl m' ]
      go (no n) (inr f) = inr (other_keeps τ k.variable k.sign l n ∙ f)

  leaf_kept :
      (C : Clause) → ValidAt F before τ (leaf C) → (d : Dec (Memᴰ k C)) →
      Kept F before rest next k (leaf C) (restrict_leaf k C d)
  unfolding restrict_leaf
  leaf_kept C v (yes m) = (m, λ _. (m, Memᴰ.head refl))
  leaf_kept C v (no n) =
      ((v.0, λ l m. still_settled l (λ e. n (Memᴰ.cast (sym e) m)) (v.1 l m)), λ l c. (c.0, Memᴰ.tail c.1))

  module _ (t : Bool → Derivation) (x : ℕ) where
    -- A premise that lost its pivot literal.
    premise_kept :
        (b : Bool) (r : Restricted) → Kept F before rest next k (t b) r → (HoldsAt rest r (literal x b) → ⊥) →
        Kept F before rest next k (resolve t x) r
    premise_kept b top kept n = absurd (n tt)
    premise_kept b (tree s) kept n = (kept.0, λ l c. (b, kept.1 l c, λ e. n (subst (ConcludesAt rest s) e c)))

    -- One premise is Top, and neither lost its pivot literal: k is concluded, through this premise or the other.
    top_concludes :
        (b : Bool) → ConcludesAt before (t b) k → (r : Restricted) → Kept F before rest next k (t (not b)) r →
        HoldsAt rest r (literal x (not b)) → Existential F.prefix k.variable → ConcludesAt before (resolve t x) k
    top_concludes b c r kept holds e = go (same k (literal x b)) r kept holds
      where
        go :
            Dec (k ≡ literal x b) → (r : Restricted) → Kept F before rest next k (t (not b)) r →
            HoldsAt rest r (literal x (not b)) → ConcludesAt before (resolve t x) k
        go (no n) r kept holds = (b, c, n)
        go (yes p) top kept holds = (not b, kept.1 e, λ p'. sign_not_other b (ap (λ (l : Literal). l.sign) (sym p ∙ p')))
        go (yes p) (tree s) kept holds =
            absurd (fresh (Memᴰ.cast (ap (λ (l : Literal). l.variable) p) (concluded_unset rest s (literal x (not b)) holds)))

    module _ (valid : ValidAt F before τ (resolve t x)) where
      trees_kept :
          (r₁ r₀ : Restricted) → Kept F before rest next k (t true) r₁ → Kept F before rest next k (t false) r₀ →
          HoldsAt rest r₁ (literal x true) → HoldsAt rest r₀ (literal x false) →
          Kept F before rest next k (resolve t x) (resolve_trees r₁ r₀ x)
      unfolding resolve_trees
      trees_kept top r₀ k₁ k₀ h₁ h₀ = ((true, k₁.0), λ e. top_concludes true (k₁.1 e) r₀ k₀ h₀ e)
      trees_kept (tree s) top k₁ k₀ h₁ h₀ = ((false, k₀.0), λ e. top_concludes false (k₀.1 e) (tree s) k₁ h₁ e)
      trees_kept (tree s) (tree r) k₁ k₀ h₁ h₀ = (
        (
          elim [ true ↦ k₁.0 | false ↦ k₀.0 ],
          valid.1,
          elim [ true ↦ h₁ | false ↦ h₀ ],
          λ l c n c'. valid.3 l (k₁.1 l c) n (k₀.1 (neg l) c'),
        ),
        λ l c. (c.0, within l c.0 c.1, c.2),
      )
        where
          within : (l : Literal) (b : Bool) → ConcludesAt rest (premises s r b) l → ConcludesAt before (t b) l
          within l true c = k₁.1 l c
          within l false c = k₀.1 l c

      resolve_kept :
          (r : Bool → Restricted) → ((b : Bool) → Kept F before rest next k (t b) (r b)) →
          (h : Dec (HoldsAt rest (r true) (literal x true))) (g : Dec (HoldsAt rest (r false) (literal x false))) →
          Kept F before rest next k (resolve t x) (restrict_resolve rest r x h g)
      unfolding restrict_resolve
      resolve_kept r kept (no n) g = premise_kept true (r true) (kept true) n
      resolve_kept r kept (yes h) (no n) = premise_kept false (r false) (kept false) n
      resolve_kept r kept (yes h) (yes g) = trees_kept (r true) (r false) (kept true) (kept false) h g

  reduce_kept :
      (t : Derivation) (u : ℕ) → ValidAt F before τ (reduce t u) → (r : Restricted) → Kept F before rest next k t r →
      Kept F before rest next k (reduce t u) (restrict_reduce r u)
  unfolding restrict_reduce
  reduce_kept t u valid top kept =
      (kept.0, λ e. (kept.1 e, λ p. quantifiers_exclusive F.prefix distinct e (subst (Universal F.prefix) (sym p) valid.1)))
  reduce_kept t u valid (tree s) kept = ((kept.0, valid.1, λ e c. valid.2 e (kept.1 e c)), λ l c. (kept.1 l c.0, c.1))

  pub restrict_kept : (t : Derivation) → ValidAt F before τ t → Kept F before rest next k t (restrict rest k t)
  unfolding restrict
  restrict_kept (leaf C) v = leaf_kept C v (in_list? same k C)
  restrict_kept (resolve t x) v = resolve_kept t x v (λ b. restrict rest k (t b)) (λ b. restrict_kept (t b) (v.0 b)) _ _
  restrict_kept (reduce t u) v = reduce_kept t u v (restrict rest k t) (restrict_kept t v.0)
