-- At a universal's turn not both of its literals occur in a derivation that is valid there (`one_literal_occurs`).
-- Occurring literals reach every existential concluded; one that a reduction removed is blocked from the opposites; so
-- both could meet only in a merge, whose pivot would stand left of the universal and is to be set after it.
use Rattle.std.specs.Prelude.{ℕ, ◌≡◌, refl, ◌≢◌, ◌⊎◌, Bool, true, false, not}
use Rattle.std.proofs.Common.{sym, ap, ◌∙◌, subst, inl, inr}
use mathlib.Core.List.Memᴰ
use mathlib.Core.List.{◌∷◌, ◌++◌, Memᴰ}
use Rattle.std.proofs.Math.Decide.{ℕ_discrete}
use Rattle.qbf.specs.Literal.{Literal, literal, neg}
use Rattle.qbf.specs.Formula.{Formula, existential, universal, Entry, entry, Prefix, listed, Distinct, Proper, after, Existential, Universal, RightOf, existentials}
use Rattle.qbf.specs.Formula.Laws.{neg_neg, literal_not_neg, same_or_opposite, one_literal, after_member, after_entry, right_asymmetric, existential_not_universal, quantifiers_exclusive, quantifier_of_rest, existentials_member, member_existentials}
use Rattle.qbf.specs.Play.{Values}
use Rattle.qbf.specs.Path.{Path, one, more}
use Rattle.qbf.specs.Dependency.{passable, Depends}
use Rattle.qbf.specs.Derivation.{Derivation, leaf, resolve, reduce}
use Rattle.qbf.specs.Restriction.{Unset, ConcludesAt, ValidAt, Occurs}
use Rattle.qbf.proofs.Soundness.Restricting.{concluded_unset}

-- Two premises are one and the same, or one and the other.
two_premises : (P : Bool → Bool → Type 0) → ((b : Bool) → P b b) → ((b : Bool) → P b (not b)) → (b c : Bool) → P b c
two_premises P same other true true = same true
two_premises P same other true false = other true
two_premises P same other false true = other false
two_premises P same other false false = same false

concluded_occurs : (rest : Prefix) (t : Derivation) (l : Literal) → ConcludesAt rest t l → Occurs t l
concluded_occurs rest (leaf C) l c = c.0
concluded_occurs rest (resolve t x) l c = (c.0, concluded_occurs rest (t c.0) l c.1)
concluded_occurs rest (reduce t u) l c = concluded_occurs rest t l c.0

module _ (F : Formula) (proper : Proper F) (rest : Prefix) (τ : Values) where
  exclusive : {v : ℕ} → Existential F.prefix v → Universal F.prefix v → ⊥
  exclusive e a = quantifiers_exclusive F.prefix proper.prefix_distinct e a

  -- No existential has both signs in a derived clause.
  pub existential_one_sign :
      (t : Derivation) → ValidAt F rest τ t → (m : Literal) → Existential F.prefix m.variable → ConcludesAt rest t m →
      ConcludesAt rest t (neg m) → ⊥
  existential_one_sign (leaf C) v m e c c' =
      literal_not_neg m (one_literal C (proper.clause_distinct C v.0) c.0 c'.0 refl)
  existential_one_sign (resolve t x) v m e c c' =
      two_premises (λ b b'. ConcludesAt rest (t b) m → m ≢ literal x b → ConcludesAt rest (t b') (neg m) → neg m ≢ literal x b' → ⊥)
      (λ b k n k' n'. existential_one_sign (t b) (v.0 b) m e k k')
      opposed
      c.0 c'.0 c.1 c.2 c'.1 c'.2
    where
      opposed :
          (b : Bool) → ConcludesAt rest (t b) m → m ≢ literal x b → ConcludesAt rest (t (not b)) (neg m) →
          neg m ≢ literal x (not b) → ⊥
      opposed true k n k' n' = exclusive e (after_member x F.prefix (v.3 m k n k'))
      opposed false k n k' n' = exclusive e (after_member x F.prefix (v.3 (neg m) k' n' (subst (ConcludesAt rest (t false)) (sym (neg_neg m)) k)))
  existential_one_sign (reduce t u) v m e c c' = existential_one_sign t v.0 m e c.0 c'.0

  -- What a premise passes on is of another variable than the pivot.
  pivot_gone :
      (t : Bool → Derivation) (x : ℕ) → ValidAt F rest τ (resolve t x) → (b : Bool) (l : Literal) → ConcludesAt rest (t b) l →
      l ≢ literal x b → l.variable ≢ x
  pivot_gone t x v b l c n e =
      elim (same_or_opposite l (literal x b) e) [
        | inl p ↦ n p
        | inr p ↦ existential_one_sign (t b) (v.0 b) (literal x b) v.1 (v.2 b) (subst (ConcludesAt rest (t b)) p c)
      ]

  -- At the turn of the universal u: every existential still to be set stands right of it.
  module _ (u : ℕ) (is-universal : Universal F.prefix u) (inner : (v : ℕ) → Unset rest v → Existential F.prefix v → Memᴰ v (passable F u)) where
    abbrev Reaches : Literal → Literal → Type 0
    Reaches a m = Path F.matrix (passable F u) a m

    across : {a : Literal} (x : ℕ) (b : Bool) → Reaches a (literal x b) → Reaches a (neg (literal x (not b)))
    across {a} x b p = subst (Reaches a) (sym (neg_neg (literal x b))) p

    -- A path to the opposite of an existential concluded goes on to every other literal concluded.
    reaches_on :
        (a : Literal) (t : Derivation) → ValidAt F rest τ t → (l m : Literal) → ConcludesAt rest t l → ConcludesAt rest t m →
        l.variable ≢ m.variable → Existential F.prefix l.variable → Reaches a (neg l) → Reaches a m
    reaches_on a (leaf C) v l m c c' d e p =
        more p (inner l.variable c.1 e) (record { clause = C; input = v.0; left = Memᴰ.cast (neg_neg l) c.0; right = c'.0; differ = d })
    reaches_on a (resolve t x) v l m c c' d e p =
        two_premises (λ b b'. ConcludesAt rest (t b) l → l ≢ literal x b → ConcludesAt rest (t b') m → m ≢ literal x b' → Reaches a m)
        (λ b k n k' n'. reaches_on a (t b) (v.0 b) l m k k' d e p)
        (
        λ b k n k' n'. reaches_on a (t (not b)) (v.0 (not b)) (literal x (not b)) m (v.2 (not b)) k' (λ q. pivot_gone t x v (not b) m k' n' (sym q)) v.1
        (across x b (reaches_on a (t b) (v.0 b) l (literal x b) k (v.2 b) (pivot_gone t x v b l k n) e p))
        )
        c.0 c'.0 c.1 c.2 c'.1 c'.2
    reaches_on a (reduce t w) v l m c c' d e p = reaches_on a t v.0 l m c.0 c'.0 d e p

    -- A literal of u that occurs reaches every existential concluded.
    occurring_reaches :
        (s : Bool) (t : Derivation) → ValidAt F rest τ t → Occurs t (literal u s) → (m : Literal) → ConcludesAt rest t m →
        Existential F.prefix m.variable → Reaches (literal u s) m
    occurring_reaches s (leaf C) v o m c e =
        one (record { clause = C; input = v.0; left = o; right = c.0; differ = λ p. exclusive e (subst (Universal F.prefix) p is-universal) })
    occurring_reaches s (resolve t x) v o m c e =
        two_premises (λ b b'. Occurs (t b) (literal u s) → ConcludesAt rest (t b') m → m ≢ literal x b' → Reaches (literal u s) m)
        (λ b o' k n. occurring_reaches s (t b) (v.0 b) o' m k e)
        (
        λ b o' k n. reaches_on (literal u s) (t (not b)) (v.0 (not b)) (literal x (not b)) m (v.2 (not b)) k (λ q. pivot_gone t x v (not b) m k n (sym q)) v.1
        (across x b (occurring_reaches s (t b) (v.0 b) o' (literal x b) (v.2 b) v.1))
        )
        o.0 c.0 o.1 c.1 c.2
    occurring_reaches s (reduce t w) v o m c e = occurring_reaches s t v.0 o m c.0 e

    -- A reduction removed the literal.
    abbrev Gone : Derivation → Literal → Type 0
    Gone (leaf C) a = ⊥
    Gone (resolve t x) a = (b : Bool) × Gone (t b) a
    Gone (reduce t w) a = Gone t a ⊎ ((a.variable ≡ w) × ConcludesAt rest t a)

    dependent :
        (s : Bool) (m : Literal) → Memᴰ m.variable (passable F u) → Reaches (literal u s) m →
        Reaches (literal u (not s)) (neg m) → Depends F u m.variable
    dependent true m r p p' = record { right = r; to_sign = m.sign; from_positive = p; from_negative = p' }
    dependent false m r p p' =
        record { right = r; to_sign = not m.sign; from_positive = p'; from_negative = subst (Reaches (literal u false)) (sym (neg_neg m)) p }

    -- Where a reduction removed a literal of u, its opposite reaches the opposite of no existential concluded.
    gone_blocks :
        (s : Bool) (t : Derivation) → ValidAt F rest τ t → Gone t (literal u s) → (m : Literal) → ConcludesAt rest t m →
        Existential F.prefix m.variable → Reaches (literal u (not s)) (neg m) → ⊥
    gone_blocks s (leaf C) v g m c e p = g
    gone_blocks s (resolve t x) v g m c e p =
        two_premises (λ b b'. Gone (t b) (literal u s) → ConcludesAt rest (t b') m → m ≢ literal x b' → ⊥)
        (λ b g' k n. gone_blocks s (t b) (v.0 b) g' m k e p)
        (
        λ b g' k n. gone_blocks s (t b) (v.0 b) g' (literal x b) (v.2 b) v.1
        (reaches_on (literal u (not s)) (t (not b)) (v.0 (not b)) m (literal x (not b)) k (v.2 (not b)) (pivot_gone t x v (not b) m k n) e p)
        )
        g.0 c.0 g.1 c.1 c.2
    gone_blocks s (reduce t w) v g m c e p =
        elim g [
          | inl g' ↦ gone_blocks s t v.0 g' m c.0 e p
          | inr h ↦ v.2 m c.0 e (subst (λ (y : ℕ). Depends F y m.variable) h.0 (at_reduction h.1))
        ]
      where
        at_reduction : ConcludesAt rest t (literal u s) → Depends F u m.variable
        at_reduction k =
            dependent s m
            (inner m.variable (concluded_unset rest t m c.0) e)
            (occurring_reaches s t v.0 (concluded_occurs rest t (literal u s) k) m c.0 e)
            p

    pivot_other : (t : Bool → Derivation) (x : ℕ) → ValidAt F rest τ (resolve t x) → (s b : Bool) → literal u s ≢ literal x b
    pivot_other t x v s b e = exclusive v.1 (subst (Universal F.prefix) (ap (λ (l : Literal). l.variable) e) is-universal)

    concluded_or_gone :
        Unset rest u → (s : Bool) (t : Derivation) → ValidAt F rest τ t → Occurs t (literal u s) →
        ConcludesAt rest t (literal u s) ⊎ Gone t (literal u s)
    concluded_or_gone turn s (leaf C) v o = inl (o, turn)
    concluded_or_gone turn s (resolve t x) v o =
        elim (concluded_or_gone turn s (t o.0) (v.0 o.0) o.1) [
          | inl c ↦ inl (o.0, c, pivot_other t x v s o.0)
          | inr g ↦ inr (o.0, g)
        ]
    concluded_or_gone turn s (reduce t w) v o = go (ℕ_discrete u w) (concluded_or_gone turn s t v.0 o)
      where
        go :
            Dec (u ≡ w) → ConcludesAt rest t (literal u s) ⊎ Gone t (literal u s) →
            ConcludesAt rest (reduce t w) (literal u s) ⊎ Gone (reduce t w) (literal u s)
        go (yes e) (inl c) = inr (inr (e, c))
        go (no n) (inl c) = inl (c, n)
        go d (inr g) = inr (inl g)

    -- The literals of u meet in no resolution: neither is removed, so they would be merged, with the pivot left of u.
    meets_not :
        Unset rest u → (t : Bool → Derivation) (x : ℕ) → ValidAt F rest τ (resolve t x) → (s : Bool) →
        Occurs (t true) (literal u s) → Occurs (t false) (literal u (not s)) → ⊥
    meets_not turn t x v s o o' =
        merged (concluded_or_gone turn s (t true) (v.0 true) o) (concluded_or_gone turn (not s) (t false) (v.0 false) o')
      where
        to_pivot : Reaches (literal u s) (literal x true)
        to_pivot = occurring_reaches s (t true) (v.0 true) o (literal x true) (v.2 true) v.1

        to_opposite : Reaches (literal u (not s)) (literal x false)
        to_opposite = occurring_reaches (not s) (t false) (v.0 false) o' (literal x false) (v.2 false) v.1

        pivot_right : RightOf F.prefix u x
        pivot_right =
            Memᴰ.map (λ (y : Entry). y.variable) (existentials_member (after u F.prefix) (inner x (concluded_unset rest (t true) (literal x true) (v.2 true)) v.1))

        merged :
            ConcludesAt rest (t true) (literal u s) ⊎ Gone (t true) (literal u s) →
            ConcludesAt rest (t false) (literal u (not s)) ⊎ Gone (t false) (literal u (not s)) → ⊥
        merged (inr g) k = gone_blocks s (t true) (v.0 true) g (literal x true) (v.2 true) v.1 to_opposite
        merged (inl c) (inr g) =
            gone_blocks (not s) (t false) (v.0 false) g (literal x false) (v.2 false) v.1
            (subst (λ (a : Literal). Reaches a (literal x true)) (sym (neg_neg (literal u s))) to_pivot)
        merged (inl c) (inl c') =
            right_asymmetric F.prefix proper.prefix_distinct u x pivot_right (Memᴰ.map (λ (y : Entry). y.variable) (v.3 (literal u s) c (pivot_other t x v s true) c'))

    not_both_occur :
        Unset rest u → (t : Derivation) → ValidAt F rest τ t → Occurs t (literal u true) → Occurs t (literal u false) → ⊥
    not_both_occur turn (leaf C) v o o' =
        literal_not_neg (literal u true) (one_literal C (proper.clause_distinct C v.0) o o' refl)
    not_both_occur turn (resolve t x) v o o' =
        two_premises (λ b b'. Occurs (t b) (literal u true) → Occurs (t b') (literal u false) → ⊥)
        (λ b k k'. not_both_occur turn (t b) (v.0 b) k k')
        opposed
        o.0 o'.0 o.1 o'.1
      where
        opposed : (b : Bool) → Occurs (t b) (literal u true) → Occurs (t (not b)) (literal u false) → ⊥
        opposed true k k' = meets_not turn t x v true k k'
        opposed false k k' = meets_not turn t x v false k' k
    not_both_occur turn (reduce t w) v o o' = not_both_occur turn t v.0 o o'

-- The entries that follow the universal whose turn it is are those right of it.
pub passable_at_turn :
    (F : Formula) → Proper F → (done rest : Prefix) (u : ℕ) → F.prefix ≡ done ++ entry u universal ∷ rest →
    passable F u ≡ existentials rest
passable_at_turn F proper done rest u at =
    ap existentials (ap (after u) at ∙ after_entry u universal done rest (subst (λ (P : Prefix). Distinct (listed P)) at proper.prefix_distinct))

inner_at_turn :
    (F : Formula) → Proper F → (done rest : Prefix) (u : ℕ) → F.prefix ≡ done ++ entry u universal ∷ rest → (v : ℕ) →
    Unset (entry u universal ∷ rest) v → Existential F.prefix v → Memᴰ v (passable F u)
inner_at_turn F proper done rest u at v l e =
    subst (Memᴰ v) (sym (passable_at_turn F proper done rest u at)) (member_existentials rest (later (Memᴰ.cases_cons here)))
  where
    here : Existential (entry u universal ∷ rest) v
    here =
        quantifier_of_rest done (entry u universal ∷ rest)
        (subst (λ (P : Prefix). Distinct (listed P)) at proper.prefix_distinct)
        (subst (λ (P : Prefix). Existential P v) at e)
        l

    later : (entry v existential ≡ entry u universal) ⊎ Existential rest v → Existential rest v
    later (inl p) = absurd (existential_not_universal (ap (λ (x : Entry). x.quantifier) p))
    later (inr m) = m

-- The move lemma: at the turn of the universal u, not both of its literals occur in a derivation valid at the position.
pub one_literal_occurs :
    (F : Formula) → Proper F → (done rest : Prefix) (u : ℕ) → F.prefix ≡ done ++ entry u universal ∷ rest →
    (τ : Values) (t : Derivation) → ValidAt F (entry u universal ∷ rest) τ t → Occurs t (literal u true) →
    Occurs t (literal u false) → ⊥
one_literal_occurs F proper done rest u at τ t v o o' =
    not_both_occur F proper (entry u universal ∷ rest) τ u
    (subst (λ (P : Prefix). Universal P u) (sym at) (Memᴰ.append_right done own))
    (inner_at_turn F proper done rest u at)
    (Memᴰ.head refl)
    t v o o'
  where
    own : Universal (entry u universal ∷ rest) u
    own = Memᴰ.head refl
