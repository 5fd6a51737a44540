-- Soundness of Q(D)-resolution, ordinary and long-distance: a proper formula with a derivation of the empty clause is lost.
-- The proof plays the game: `refutation_begins`, a turn of each player, `refutation_ends`. At every position the derivation,
-- restricted by the values set so far one at a time, refutes the position.
pub mod Restricting
pub mod MoveLemma
pub mod Merges
pub mod Examples
use Rattle.std.specs.Prelude.{ℕ, ◌≡◌, refl, Bool, true, false, [], ◌∷◌, ◌++◌}
use Rattle.std.proofs.Common.{sym, ap, ap₂, ◌∙◌, subst, inl, inr, append_assoc}
use Rattle.std.proofs.Math.Bool.{or-true, decide}
use mathlib.Core.List.Memᴰ
use Rattle.qbf.specs.Literal.{Literal, literal, neg, Matrix}
use Rattle.qbf.specs.Formula.{Formula, Quantifier, existential, universal, entry, Prefix, listed, Distinct, Proper, Existential}
use Rattle.qbf.specs.Formula.Laws.{distinct_rest}
use Rattle.qbf.specs.Play.{Values, assign, turn, lost, Lost}
use Rattle.qbf.proofs.Play.Laws.{unsatisfied, falsified_by}
use Rattle.qbf.specs.Derivation.{Derivation, leaf, resolve, reduce, Concludes, Valid, Empty}
use Rattle.qbf.specs.Restriction.{Unset, ValidAt, RefutesAt, Occurs, occurs?, Restricted, top, tree, restrict, Refuted, move, FalseClause}
use Rattle.qbf.specs.Restriction.Laws.{begin_concludes, concludes_only}
use Rattle.qbf.proofs.Soundness.Restricting.{Kept, restrict_kept}
use Rattle.qbf.proofs.Soundness.MoveLemma.{existential_one_sign, one_literal_occurs}

-- With every entry to be set, a valid derivation is valid at the position.
module _ (F : Formula) (proper : Proper F) where
  begin_valid : (τ : Values) (t : Derivation) → Valid F t → ValidAt F F.prefix τ t
  begin_valid τ (leaf C) v = (v, λ l m. inl (proper.clause_bound C v l m))
  begin_valid τ (resolve t x) v = (
    λ b. begin_valid τ (t b) (v.0 b),
    v.1,
    λ b. begin_concludes F proper (t b) (v.0 b) (literal x b) (v.2 b),
    λ l c n c'. v.3 l (concludes_only F.prefix (t true) l c) n (concludes_only F.prefix (t false) (neg l) c'),
  )
  begin_valid τ (reduce t u) v = (begin_valid τ t v.0, v.1, λ e c. v.2 e (concludes_only F.prefix t e c))

  -- No derived clause holds both signs of an existential.
  pub derived_one_sign : (t : Derivation) → Valid F t → (m : Literal) → Existential F.prefix m.variable → Concludes t m → Concludes t (neg m) → ⊥
  derived_one_sign t v m e c c' =
      let τ : Values = λ x. false in
      existential_one_sign F proper F.prefix τ t (begin_valid τ t v) m e (begin_concludes F proper t v m c) (begin_concludes F proper t v (neg m) c')

  -- A refutation of the formula refutes the first position, whatever the values before.
  pub refutation_begins : (τ : Values) (t : Derivation) → Valid F t → Empty t → RefutesAt F F.prefix τ t
  refutation_begins τ t v empty = record { valid = begin_valid τ t v; empty = λ l c. empty l (concludes_only F.prefix t l c) }

module _ (F : Formula) (proper : Proper F) where
  -- Whatever is not Top refutes the next position.
  refuted_unless_top :
      (done rest : Prefix) (k : Literal) (q : Quantifier) → F.prefix ≡ done ++ entry k.variable q ∷ rest →
      (τ : Values) (t : Derivation) → RefutesAt F (entry k.variable q ∷ rest) τ t →
      (Kept F (entry k.variable q ∷ rest) rest (assign τ k.variable k.sign) k t top → ⊥) →
      Refuted F rest (assign τ k.variable k.sign) (restrict rest k t)
  refuted_unless_top done rest k q at τ t refutes not_top =
      go (restrict rest k t) refl (restrict_kept F proper.prefix_distinct rest k q fresh τ t refutes.valid)
    where
      fresh : Unset rest k.variable → ⊥
      fresh =
          (distinct_rest done (entry k.variable q ∷ rest) (subst (λ (P : Prefix). Distinct (listed P)) at proper.prefix_distinct)).0

      go :
          (r : Restricted) → restrict rest k t ≡ r →
          Kept F (entry k.variable q ∷ rest) rest (assign τ k.variable k.sign) k t r →
          Refuted F rest (assign τ k.variable k.sign) (restrict rest k t)
      go top e kept = absurd (not_top kept)
      go (tree s) e kept =
          record { derivation = s; restricted = e; refutes = record { valid = kept.0; empty = λ l c. refutes.empty l (kept.1 l c) } }

  -- The existential's turn: either value.
  pub existential_turn :
      (done rest : Prefix) (x : ℕ) → F.prefix ≡ done ++ entry x existential ∷ rest → (τ : Values) (t : Derivation) →
      RefutesAt F (entry x existential ∷ rest) τ t → (b : Bool) → Refuted F rest (assign τ x b) (restrict rest (literal x b) t)
  existential_turn done rest x at τ t refutes b =
      refuted_unless_top done rest (literal x b) existential at τ t refutes (λ h. refutes.empty (literal x b) (h.1 is_existential_lem))
    where
      own : Existential (entry x existential ∷ rest) x
      own = Memᴰ.head refl

      is_existential_lem : Existential F.prefix x
      is_existential_lem = subst (λ (P : Prefix). Existential P x) (sym at) (Memᴰ.append_right done own)

  -- The move makes a literal true that does not occur.
  pub moved_literal_absent :
      (done rest : Prefix) (u : ℕ) → F.prefix ≡ done ++ entry u universal ∷ rest → (τ : Values) (t : Derivation) →
      ValidAt F (entry u universal ∷ rest) τ t → Occurs t (literal u (move t u)) → ⊥
  unfolding move decide
  moved_literal_absent done rest u at τ t v o = go (occurs? t (literal u false)) o
    where
      go : (d : Dec (Occurs t (literal u false))) → Occurs t (literal u (decide d)) → ⊥
      go (yes negative) positive = one_literal_occurs F proper done rest u at τ t v positive negative
      go (no absent) negative = absent negative

  -- The universal's turn: its move.
  pub universal_turn :
      (done rest : Prefix) (u : ℕ) → F.prefix ≡ done ++ entry u universal ∷ rest →
      (τ : Values) (t : Derivation) → RefutesAt F (entry u universal ∷ rest) τ t →
      Refuted F rest (assign τ u (move t u)) (restrict rest (literal u (move t u)) t)
  universal_turn done rest u at τ t refutes =
      refuted_unless_top done rest (literal u (move t u)) universal at τ t refutes (λ h. moved_literal_absent done rest u at τ t refutes.valid h.0)

-- With no entry left, every leaf of a valid derivation is false.
pub refutation_ends : (F : Formula) (τ : Values) (t : Derivation) → ValidAt F [] τ t → FalseClause F τ
refutation_ends F τ (leaf C) v =
    record { clause = C; input = v.0; false_there = unsatisfied τ C (λ l m. elim (v.1 l m) [ inl n ↦ absurd (Memᴰ.not-nil n) | inr f ↦ f ]) }
refutation_ends F τ (resolve t x) v = refutation_ends F τ (t true) (v.0 true)
refutation_ends F τ (reduce t u) v = refutation_ends F τ t v.0

-- The existential loses where both values lead to lost positions; where one does, the universal takes it.
pub existential_lost :
    (x : ℕ) (rest : Prefix) (τ : Values) (M : Matrix) → ((b : Bool) → lost rest (assign τ x b) M ≡ true) →
    lost (entry x existential ∷ rest) τ M ≡ true
unfolding lost
existential_lost x rest τ M h = ap₂ (turn existential) (h false) (h true)

pub universal_lost :
    (u : ℕ) (rest : Prefix) (τ : Values) (M : Matrix) (b : Bool) → lost rest (assign τ u b) M ≡ true →
    lost (entry u universal ∷ rest) τ M ≡ true
unfolding lost
universal_lost u rest τ M false e = ap (λ (zero-lost : Bool). turn universal zero-lost (lost rest (assign τ u true) M)) e
universal_lost u rest τ M true e =
    ap (turn universal (lost rest (assign τ u false) M)) e ∙ or-true (lost rest (assign τ u false) M)

-- A refuted position is lost.
pub refuted_position_lost :
    (F : Formula) → Proper F → (done rest : Prefix) → F.prefix ≡ done ++ rest → (τ : Values) (t : Derivation) →
    RefutesAt F rest τ t → lost rest τ F.matrix ≡ true
unfolding lost
refuted_position_lost F proper done [] at τ t refutes =
    let c = refutation_ends F τ t refutes.valid in
    falsified_by τ F.matrix c.clause c.input c.false_there
refuted_position_lost F proper done (x ∷ rest) at τ t refutes =
    go x.variable x.quantifier at refutes (λ σ s. refuted_position_lost F proper (done ++ x ∷ []) rest (at ∙ sym (append_assoc done (x ∷ []) rest)) σ s)
  where
    go :
        (v : ℕ) (q : Quantifier) → F.prefix ≡ done ++ entry v q ∷ rest → RefutesAt F (entry v q ∷ rest) τ t →
        ((σ : Values) (s : Derivation) → RefutesAt F rest σ s → lost rest σ F.matrix ≡ true) →
        lost (entry v q ∷ rest) τ F.matrix ≡ true
    go v existential at refutes later =
        existential_lost v rest τ F.matrix
        (
        λ b.
        let r = existential_turn F proper done rest v at τ t refutes b in
        later (assign τ v b) r.derivation r.refutes
        )
    go v universal at refutes later =
        let r = universal_turn F proper done rest v at τ t refutes in
        universal_lost v rest τ F.matrix (move t v) (later (assign τ v (move t v)) r.derivation r.refutes)

-- A proper formula that has a valid derivation of the empty clause is lost.
pub soundness : (F : Formula) → Proper F → (t : Derivation) → Valid F t → Empty t → Lost F
soundness F proper t valid empty τ =
    refuted_position_lost F proper [] F.prefix refl τ t (refutation_begins F proper τ t valid empty)
