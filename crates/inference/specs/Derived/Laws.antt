-- A lawful step makes a derivation of its clause from those of its antecedents, so every numbered clause has one, and an empty clause
-- makes the game lost. Definitions: Derived. Assumes nothing.
use Rattle.std.specs.Prelude.{ℕ, ◌≡◌, refl, ◌⊎◌, ◌≢◌, Bool, true, false, ℤ, pos, neg_ℤ, nat_abs}
use Rattle.std.proofs.Common.{ap, sym, ◌∙◌, subst, inl, inr, arith}
use mathlib.Core.List.Memᴰ
use mathlib.Core.List.{List, [], ◌∷◌, ◌++◌, append-nil, Memᴰ}
use Rattle.qbf.specs.Literal.{Literal, literal, neg}
use Rattle.qbf.specs.Formula.{Formula, Existential, UniversalRightOf, Proper}
use Rattle.qbf.specs.Dependency.{Depends}
use Rattle.qbf.specs.Derivation.{Derivation, resolve, reduce, Concludes, Valid}
use Rattle.qbf.specs.Play.{Lost}
use Rattle.qbf.proofs.Soundness.{derived_one_sign, soundness}
use Rattle.formula.specs.Decode.{literal_of}
use Rattle.formula.specs.Decode.Laws.{magnitude_same, literal_variable, literal_negated, literal_injective}
use Rattle.inference.specs.declared.read.Family.{Family}
use Rattle.inference.specs.declared.read.Family.TheVariants.{Ordinary, LongDistance}
use Rattle.inference.specs.Words.{Words}
use Rattle.inference.specs.Words.Laws.{opposite_injective}
use Rattle.inference.specs.Steps.{Step, resolution, reduction, family_in, stated_by}
use Rattle.inference.specs.Lawful.{Resolvent, Reduct, Resolvable, LawfulResolution, LawfulReduction, Lawful, numbered_clauses, LawfulSteps, OfFamily}
use Rattle.inference.specs.Lawful.Laws.{numbered_member, reduct_member, numbered_step}
use Rattle.inference.specs.Derived.{Derived, AllDerived, premise}

-- What may be resolved, of the words of a literal that one antecedent holds and the other opposes.
merges :
    (F : Formula) (f : Family) (C D : Words) (e : ℤ) → Resolvable F f C D e
    → (x : ℤ) → Memᴰ x C → x ≢ e → Memᴰ (neg_ℤ x) D
    → UniversalRightOf F.prefix (nat_abs e) (nat_abs x)
merges F Ordinary C D e u x m n k = absurd (u x (inl (m, n)) (inr (k, λ q. n (opposite_injective x e q))))
merges F LongDistance C D e u x m n k = u x m n k

one_signed : (F : Formula) (f : Family) (C D : Words) (e : ℤ) → Resolvable F f C D e → f ≡ Ordinary → (x : ℤ) → Resolvent C D e x → Resolvent C D e (neg_ℤ x) → ⊥
one_signed F Ordinary C D e u q x r s = u x r s
one_signed F LongDistance C D e u q x r s = let z : ◌≡◌ {A = ℕ} 0 1 = cc in absurd (omega arith)

-- What is left of a reduced clause is of another variable: an ordinary clause holds one sign of it. And what is of another variable is left.
other_variable :
    (f : Family) (C : Words) (a : ℤ) → (f ≡ Ordinary → Memᴰ (neg_ℤ a) C → ⊥) → (x : ℤ) → Reduct f C a x → nat_abs x ≡ nat_abs a → ⊥
other_variable Ordinary C a one x r e = go (magnitude_same x a e)
  where
    go : (x ≡ a) ⊎ (x ≡ neg_ℤ a) → ⊥
    go (inl q) = r.1 q
    go (inr q) = one refl (Memᴰ.cast (sym q) r.0)
other_variable LongDistance C a one x r e = r.1 e

left_over : (f : Family) (C : Words) (a x : ℤ) → Memᴰ x C → nat_abs x ≢ nat_abs a → Reduct f C a x
left_over Ordinary C a x m n = (m, λ q. n (ap nat_abs q))
left_over LongDistance C a x m n = (m, n)

module _ (F : Formula) (f : Family) (known : List Words) where
  -- A lawful resolution, from derivations of its antecedents.
  pub resolution_derived :
      (i j e : ℤ) (L : Words) (l : LawfulResolution F known f i j e L) (s t : Derivation)
      → Derived F f l.left s → Derived F f l.right t
      → Derived F f L (resolve (premise s t) l.variable)
  resolution_derived i j e L l s t left right =
      record {
        valid = (both_valid, l.existential, pivots, apart);
        concluded = λ x m. concluded x (l.states.only x m);
        conclusion = conclusion;
        nonzero = λ x m. nonzero x (l.states.only x m);
        one_sign = λ q x m k. one_signed F f l.left l.right e l.resolvable q x (l.states.only x m) (l.states.only (neg_ℤ x) k);
      }
    where
      -- the pivot's literals as words
      positive : literal_of e ≡ literal l.variable true
      positive = ap literal_of l.positive

      negative : literal_of (neg_ℤ e) ≡ literal l.variable false
      negative = literal_negated e (left.nonzero e l.in_left) ∙ ap neg positive

      both_valid : (b : Bool) → Valid F (premise s t b)
      both_valid true = left.valid
      both_valid false = right.valid

      pivots : (b : Bool) → Concludes (premise s t b) (literal l.variable b)
      pivots true = subst (Concludes s) positive (left.concluded e l.in_left)
      pivots false = subst (Concludes t) negative (right.concluded (neg_ℤ e) l.in_right)

      apart_words :
          (m : Literal) → m ≢ literal l.variable true
          → (x : ℤ) × Memᴰ x l.left × (literal_of x ≡ m)
          → (y : ℤ) × Memᴰ y l.right × (literal_of y ≡ neg m)
          → UniversalRightOf F.prefix l.variable m.variable
      apart_words m n x y =
          let z : x.0 ≢ pos 0 = left.nonzero x.0 x.1 in
          let differs : x.0 ≢ e = λ q. n (sym x.2 ∙ ap literal_of q ∙ positive) in
          let opposite : y.0 ≡ neg_ℤ x.0 =
          literal_injective y.0 (neg_ℤ x.0) (y.2 ∙ ap neg (sym x.2) ∙ sym (literal_negated x.0 z)) in
          let own : nat_abs x.0 ≡ m.variable = sym (literal_variable x.0) ∙ ap (λ (k : Literal). k.variable) x.2 in
          let pivot : nat_abs e ≡ l.variable = ap nat_abs l.positive in
          rw (← own, ← pivot) (merges F f l.left l.right e l.resolvable x.0 x.1 differs (Memᴰ.cast (sym opposite) y.1))

      apart :
          (m : Literal) → Concludes s m → m ≢ literal l.variable true → Concludes t (neg m)
          → UniversalRightOf F.prefix l.variable m.variable
      apart m c n d = apart_words m n (left.conclusion m c) (right.conclusion (neg m) d)

      concluded : (x : ℤ) → Resolvent l.left l.right e x → Concludes (resolve (premise s t) l.variable) (literal_of x)
      concluded x (inl r) = (true, left.concluded x r.0, λ q. r.1 (literal_injective x e (q ∙ sym positive)))
      concluded x (inr r) = (false, right.concluded x r.0, λ q. r.1 (literal_injective x (neg_ℤ e) (q ∙ sym negative)))

      conclusion : (m : Literal) → Concludes (resolve (premise s t) l.variable) m → (x : ℤ) × Memᴰ x L × (literal_of x ≡ m)
      conclusion m c = go c.0 c.1 c.2
        where
          go : (b : Bool) → Concludes (premise s t b) m → m ≢ literal l.variable b → (x : ℤ) × Memᴰ x L × (literal_of x ≡ m)
          go true d n =
              let x = left.conclusion m d in
              (x.0, l.states.all x.0 (inl (x.1, λ q. n (sym x.2 ∙ ap literal_of q ∙ positive))), x.2)
          go false d n =
              let x = right.conclusion m d in
              (x.0, l.states.all x.0 (inr (x.1, λ q. n (sym x.2 ∙ ap literal_of q ∙ negative))), x.2)

      nonzero : (x : ℤ) → Resolvent l.left l.right e x → x ≢ pos 0
      nonzero x (inl r) = left.nonzero x r.0
      nonzero x (inr r) = right.nonzero x r.0

  -- A lawful reduction, from a derivation of its antecedent.
  pub reduction_derived :
      (i a : ℤ) (L : Words) (l : LawfulReduction F known f i a L) (d : Derivation)
      → Derived F f l.clause d
      → Derived F f L (reduce d (nat_abs a))
  reduction_derived i a L l d premises =
      record {
        valid = (premises.valid, l.universal, independent);
        concluded = λ x m. let r = l.states.only x m in (premises.concluded x (member x r), λ q. other_variable f l.clause a (λ g. premises.one_sign g a l.in_clause) x r (sym (literal_variable x) ∙ q));
        conclusion = λ m c. conclusion m (premises.conclusion m c.0) c.1;
        nonzero = λ x m. premises.nonzero x (member x (l.states.only x m));
        one_sign = λ q x m k. premises.one_sign q x (member x (l.states.only x m)) (member (neg_ℤ x) (l.states.only (neg_ℤ x) k));
      }
    where
      member : (x : ℤ) → Reduct f l.clause a x → Memᴰ x l.clause
      member x r = reduct_member f l.clause a x r

      independent :
          (m : Literal) → Concludes d m → Existential F.prefix m.variable → Depends F (nat_abs a) m.variable → ⊥
      independent m c q k =
          let x = premises.conclusion m c in
          let v : nat_abs x.0 ≡ m.variable = sym (literal_variable x.0) ∙ ap (λ (k : Literal). k.variable) x.2 in
          l.independent x.0 x.1 (subst (Existential F.prefix) (sym v) q) (subst (Depends F (nat_abs a)) (sym v) k)

      conclusion : (m : Literal) → (x : ℤ) × Memᴰ x l.clause × (literal_of x ≡ m) → m.variable ≢ nat_abs a → (x : ℤ) × Memᴰ x L × (literal_of x ≡ m)
      conclusion m x n =
          (x.0, l.states.all x.0 (left_over f l.clause a x.0 x.1 (λ q. n (sym (ap (λ (k : Literal). k.variable) x.2) ∙ literal_variable x.0 ∙ q))), x.2)

  -- A lawful step of the family states a derived clause.
  pub lawful_derived : AllDerived F f known → (s : Step) → family_in s ≡ f → Lawful F known s → (d : Derivation) × Derived F f (stated_by s) d
  lawful_derived all (resolution g i j e L) q l =
      let k : LawfulResolution F known f i j e L = rw q at l in
      let left = all k.left (numbered_member known i k.left k.left_numbered) in
      let right = all k.right (numbered_member known j k.right k.right_numbered) in
      (resolve (premise left.0 right.0) k.variable, resolution_derived i j e L k left.0 right.0 left.1 right.1)
  lawful_derived all (reduction g i a L) q l =
      let k : LawfulReduction F known f i a L = rw q at l in
      let d = all k.clause (numbered_member known i k.clause k.numbered) in
      (reduce d.0 (nat_abs a), reduction_derived i a L k d.0 d.1)

  pub derived_snoc : AllDerived F f known → (L : Words) (d : Derivation) → Derived F f L d → AllDerived F f (known ++ (L ∷ []))
  derived_snoc all L d h C m = go (Memᴰ.append_cases known m)
    where
      go : Memᴰ C known ⊎ Memᴰ C (L ∷ []) → (d : Derivation) × Derived F f C d
      go (inl i) = all C i
      go (inr i) = (d, subst (λ (D : Words). Derived F f D d) (sym (Memᴰ.eq_of_singleton i)) h)

-- After lawful steps of one family every numbered clause is derived.
pub lawful_steps_derived :
    (F : Formula) (f : Family) (known : List Words) (steps : List Step) → OfFamily f steps → LawfulSteps F known steps → AllDerived F f known
    → AllDerived F f (numbered_clauses known steps)
lawful_steps_derived F f known [] o l all = rw (append-nil known) all
lawful_steps_derived F f known (s ∷ steps) o l all =
    let d = lawful_derived F f known all s o.0 l.0 in
    rw (← numbered_step known s steps) (lawful_steps_derived F f (known ++ (stated_by s ∷ [])) steps o.1 l.1 (derived_snoc F f known all (stated_by s) d.0 d.1))

-- A derived empty clause: the game is lost.
pub derived_lost : (F : Formula) → Proper F → (f : Family) (d : Derivation) → Derived F f [] d → Lost F
derived_lost F proper f d h = soundness F proper d h.valid (λ l c. let x = h.conclusion l c in Memᴰ.not-nil x.1)

-- No derived clause holds both signs of an existential, long-distance neither: so none holds its pivot's opposite.
pub clause_one_sign :
    (F : Formula) → Proper F → (f : Family) (C : Words) (d : Derivation) → Derived F f C d
    → (x : ℤ) → Existential F.prefix (nat_abs x) → Memᴰ x C → Memᴰ (neg_ℤ x) C → ⊥
clause_one_sign F proper f C d r x e m k =
    derived_one_sign F proper d r.valid (literal_of x) (subst (Existential F.prefix) (sym (literal_variable x)) e)
    (r.concluded x m)
    (subst (Concludes d) (literal_negated x (r.nonzero x m)) (r.concluded (neg_ℤ x) k))
