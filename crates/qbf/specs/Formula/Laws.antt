-- Laws of literals, prefixes and clauses: the opposite of an opposite, distinct lists, the entries after a variable,
-- "right of" as an order, and the two quantifiers of a prefix. Definitions: Literal, Formula.
use Rattle.std.specs.Prelude.{ℕ, ◌≡◌, refl, ◌≢◌, ◌↔◌, ◌⊎◌, Bool, true, false, not}
use Rattle.std.proofs.Common.{sym, ap, ◌∙◌, subst, inl, inr, true≢false}
use Rattle.std.proofs.Math.Logic.{Dec-prop}
use mathlib.Core.HLevel.{hedberg}
use Rattle.std.proofs.Math.Bool.{not-not}
use Rattle.std.proofs.lemmas.Bool.{false≢true}
use mathlib.Core.List.{List, [], ◌∷◌, ◌++◌, map, Memᴰ}
use Rattle.std.proofs.Math.Decide.{ℕ_discrete}
use Rattle.qbf.specs.Literal.{Literal, literal, neg, Clause}
use Rattle.qbf.specs.Formula.{Quantifier, existential, universal, Entry, entry, Prefix, listed, variables, Distinct, after, Existential, Universal, RightOf, existentials}

-- Literals.
pub neg_neg : (l : Literal) → neg (neg l) ≡ l
neg_neg l = ap (literal l.variable) (not-not l.sign)

pub sign_not_other : (b : Bool) → b ≢ not b
sign_not_other true = true≢false
sign_not_other false = false≢true

pub literal_not_neg : (l : Literal) → l ≢ neg l
literal_not_neg l e = sign_not_other l.sign (ap (λ (m : Literal). m.sign) e)

-- Two literals of one variable are the same or opposite.
pub same_or_opposite : (l m : Literal) → l.variable ≡ m.variable → (l ≡ m) ⊎ (l ≡ neg m)
same_or_opposite l m e = go l.sign m.sign refl refl
  where
    pair : {s : Bool} → l.sign ≡ s → l ≡ literal m.variable s
    pair p i = literal (e i) (p i)

    go : (s r : Bool) → l.sign ≡ s → m.sign ≡ r → (l ≡ m) ⊎ (l ≡ neg m)
    go true true p q = inl (pair (p ∙ sym q))
    go false false p q = inl (pair (p ∙ sym q))
    go true false p q = inr (pair (p ∙ sym (ap not q)))
    go false true p q = inr (pair (p ∙ sym (ap not q)))

-- Distinct lists: what a list of distinct images has but once.
pub distinct_images :
    {A : Type 0} (f : A → ℕ) (xs : List A) → Distinct (map f xs) → {a b : A} → Memᴰ a xs → Memᴰ b xs → f a ≡ f b → a ≡ b
distinct_images f [] d m n e = absurd (mathlib.Core.List.Memᴰ.not-nil m)
distinct_images {A} f (x ∷ xs) d {a} {b} m n e =
    go (mathlib.Core.List.Memᴰ.cases_cons m) (mathlib.Core.List.Memᴰ.cases_cons n) (λ m' n'. distinct_images f xs d.1 m' n' e)
  where
    go : (a ≡ x) ⊎ Memᴰ a xs → (b ≡ x) ⊎ Memᴰ b xs → (Memᴰ a xs → Memᴰ b xs → a ≡ b) → a ≡ b
    go (inl p) (inl q) later = p ∙ sym q
    go (inl p) (inr n') later = absurd (d.0 (mathlib.Core.List.Memᴰ.cast (sym (ap f p) ∙ e) (mathlib.Core.List.Memᴰ.map f n')))
    go (inr m') (inl q) later = absurd (d.0 (mathlib.Core.List.Memᴰ.cast (sym (ap f q) ∙ sym e) (mathlib.Core.List.Memᴰ.map f m')))
    go (inr m') (inr n') later = later m' n'

pub one_entry :
    (P : Prefix) → Distinct (listed P) → {a b : Entry} → Memᴰ a P → Memᴰ b P → a.variable ≡ b.variable → a ≡ b
one_entry P d m n e = distinct_images (λ (x : Entry). x.variable) P d m n e

pub one_literal :
    (C : Clause) → Distinct (variables C) → {l m : Literal} → Memᴰ l C → Memᴰ m C → l.variable ≡ m.variable → l ≡ m
one_literal C d m n e = distinct_images (λ (l : Literal). l.variable) C d m n e

-- The part of a distinct prefix that follows some entries.
pub distinct_rest : (done rest : Prefix) → Distinct (listed (done ++ rest)) → Distinct (listed rest)
distinct_rest [] rest d = d
distinct_rest (x ∷ done) rest d = distinct_rest done rest d.1

-- The entries after a variable.
decided : {A : Type 0} → IsProp A → (d : Dec A) (a : A) → d ≡ yes a
decided isprop d a = Dec-prop isprop d (yes a)

refuted : {A : Type 0} → (d : Dec A) (n : A → ⊥) → d ≡ no n
refuted d n = Dec-prop (λ a b. absurd (n a)) d (no n)

pub after_own : (v : ℕ) (x : Entry) (xs : Prefix) → x.variable ≡ v → after v (x ∷ xs) ≡ xs
unfolding after
after_own v x xs e = rw (decided (hedberg ℕ_discrete _ _) (ℕ_discrete x.variable v) e) refl

pub after_other : (v : ℕ) (x : Entry) (xs : Prefix) → x.variable ≢ v → after v (x ∷ xs) ≡ after v xs
unfolding after
after_other v x xs n = rw (refuted (ℕ_discrete x.variable v) n) refl

-- What stands right of a variable stands in the prefix.
pub after_member : (v : ℕ) (P : Prefix) {x : Entry} → Memᴰ x (after v P) → Memᴰ x P
unfolding after
after_member v [] m = m
after_member v (y ∷ P) {x} m = go (ℕ_discrete y.variable v) (λ k. after_member v P k)
  where
    go : Dec (y.variable ≡ v) → (Memᴰ x (after v P) → Memᴰ x P) → Memᴰ x (y ∷ P)
    go (yes e) later = mathlib.Core.List.Memᴰ.tail (subst (λ (Q : Prefix). Memᴰ x Q) (after_own v y P e) m)
    go (no n) later = mathlib.Core.List.Memᴰ.tail (later (subst (λ (Q : Prefix). Memᴰ x Q) (after_other v y P n) m))

pub after_within : (v : ℕ) (P : Prefix) {w : ℕ} → RightOf P v w → Memᴰ w (listed P)
after_within v P m =
    let k = mathlib.Core.List.Memᴰ.of_map (λ (y : Entry). y.variable) (after v P) m in
    mathlib.Core.List.Memᴰ.cast (sym k.2) (mathlib.Core.List.Memᴰ.map (λ (y : Entry). y.variable) (after_member v P k.1))

-- After the variable whose turn it is stand the entries that are left.
pub after_entry :
    (v : ℕ) (q : Quantifier) (done rest : Prefix) → Distinct (listed (done ++ entry v q ∷ rest)) →
    after v (done ++ entry v q ∷ rest) ≡ rest
after_entry v q [] rest d = after_own v (entry v q) rest refl
after_entry v q (x ∷ done) rest d = after_other v x (done ++ entry v q ∷ rest) earlier ∙ after_entry v q done rest d.1
  where
    earlier : x.variable ≢ v
    earlier e =
        let own : Memᴰ (entry v q) (entry v q ∷ rest) = mathlib.Core.List.Memᴰ.head refl in
        d.0 (mathlib.Core.List.Memᴰ.cast e (mathlib.Core.List.Memᴰ.map (λ (y : Entry). y.variable) (mathlib.Core.List.Memᴰ.append_right done own)))

-- Of two variables each right of the other the prefix lists one twice.
pub right_asymmetric : (P : Prefix) → Distinct (listed P) → (u v : ℕ) → RightOf P u v → RightOf P v u → ⊥
unfolding after
right_asymmetric [] d u v m n = mathlib.Core.List.Memᴰ.not-nil m
right_asymmetric (x ∷ xs) d u v m n =
    go (ℕ_discrete x.variable u) (ℕ_discrete x.variable v) (λ m' n'. right_asymmetric xs d.1 u v m' n')
  where
    within : (w y : ℕ) → RightOf (x ∷ xs) w y → Memᴰ y (listed xs)
    within w y k = inside (ℕ_discrete x.variable w)
      where
        inside : Dec (x.variable ≡ w) → Memᴰ y (listed xs)
        inside (yes e) = subst (λ (Q : Prefix). Memᴰ y (listed Q)) (after_own w x xs e) k
        inside (no e) = after_within w xs (subst (λ (Q : Prefix). Memᴰ y (listed Q)) (after_other w x xs e) k)

    go : Dec (x.variable ≡ u) → Dec (x.variable ≡ v) → (RightOf xs u v → RightOf xs v u → ⊥) → ⊥
    go (yes e) f later = d.0 (mathlib.Core.List.Memᴰ.cast e (within v u n))
    go (no e) (yes f) later = d.0 (mathlib.Core.List.Memᴰ.cast f (within u v m))
    go (no e) (no f) later =
        later (subst (λ (Q : Prefix). Memᴰ v (listed Q)) (after_other u x xs e) m) (subst (λ (Q : Prefix). Memᴰ u (listed Q)) (after_other v x xs f) n)

-- The quantifiers.
is_existential : Quantifier → Type 0
is_existential existential = Unit {0}
is_existential universal = ⊥

pub existential_not_universal : existential ≢ universal
unfolding is_existential
existential_not_universal e = subst is_existential e tt

pub quantifiers_exclusive : (P : Prefix) → Distinct (listed P) → {v : ℕ} → Existential P v → Universal P v → ⊥
quantifiers_exclusive P d m n = existential_not_universal (ap (λ (x : Entry). x.quantifier) (one_entry P d m n refl))

-- A variable left to be set has the quantifier there that it has in the whole prefix.
pub quantifier_of_rest :
    (done rest : Prefix) → Distinct (listed (done ++ rest)) → {v : ℕ} {q : Quantifier} → Memᴰ (entry v q) (done ++ rest) →
    Memᴰ v (listed rest) → Memᴰ (entry v q) rest
quantifier_of_rest done rest d {v} {q} m n =
    let r = mathlib.Core.List.Memᴰ.of_map (λ (x : Entry). x.variable) rest n in
    mathlib.Core.List.Memᴰ.cast (one_entry (done ++ rest) d m (mathlib.Core.List.Memᴰ.append_right done r.1) (sym r.2)) r.1

pub existentials_member : (P : Prefix) {e : ℕ} → Memᴰ e (existentials P) → Existential P e
unfolding existentials
existentials_member [] m = absurd (mathlib.Core.List.Memᴰ.not-nil m)
existentials_member (x ∷ xs) {e} m = go x.variable x.quantifier (λ m'. existentials_member xs m') m
  where
    go :
        (v : ℕ) (q : Quantifier) → (Memᴰ e (existentials xs) → Existential xs e) →
        Memᴰ e (existentials (entry v q ∷ xs)) → Existential (entry v q ∷ xs) e
    go v existential later n =
        elim (mathlib.Core.List.Memᴰ.cases_cons n) [ inl p ↦ mathlib.Core.List.Memᴰ.head (ap (λ (w : ℕ). entry w existential) p) | inr n' ↦ mathlib.Core.List.Memᴰ.tail (later n') ]
    go v universal later n = mathlib.Core.List.Memᴰ.tail (later n)

pub member_existentials : (P : Prefix) {e : ℕ} → Existential P e → Memᴰ e (existentials P)
unfolding existentials
member_existentials [] m = absurd (mathlib.Core.List.Memᴰ.not-nil m)
member_existentials (x ∷ xs) {e} m = go x.variable x.quantifier (λ m'. member_existentials xs m') (mathlib.Core.List.Memᴰ.cases_cons m)
  where
    go :
        (v : ℕ) (q : Quantifier) → (Existential xs e → Memᴰ e (existentials xs)) →
        (entry e existential ≡ entry v q) ⊎ Existential xs e → Memᴰ e (existentials (entry v q ∷ xs))
    go v existential later (inl p) = mathlib.Core.List.Memᴰ.head (ap (λ (y : Entry). y.variable) p)
    go v existential later (inr n) = mathlib.Core.List.Memᴰ.tail (later n)
    go v universal later (inl p) = absurd (existential_not_universal (ap (λ (y : Entry). y.quantifier) p))
    go v universal later (inr n) = later n

pub existentials_iff : (P : Prefix) {e : ℕ} → Memᴰ e (existentials P) ↔ Existential P e
existentials_iff P = (existentials_member P, member_existentials P)
