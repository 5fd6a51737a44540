-- The tests of a step against the law: where a scope decides what it is asked of a formula, a step is judged
-- right exactly when it is lawful, and blocked only where an existential of the clause depends, the leftmost one being named. Assumes nothing.
use Rattle.std.specs.Prelude.{ℕ, ◌⊎◌, ◌≢◌, Bool, not, ◌&&◌, ℤ, negsuc, neg_ℤ, nat_abs}
use Rattle.std.proofs.Math.Path.{◌≡◌, refl, sym}
use Rattle.std.proofs.Common.{◌∙◌, subst, inl, inr}
use Rattle.std.proofs.Math.Bool.{true, false, false≢true}
use Rattle.std.proofs.Math.Option.{Option, none, some}
use mathlib.Core.List.Memᴰ
use mathlib.Core.List.{List, [], Memᴰ}
use native.Mathlib.Omega.{arith}
use Rattle.std.proofs.lemmas.Bool.{not-true}
use Rattle.std.proofs.Math.IntN.{pos, neg_ℤ-neg_ℤ}
use Rattle.qbf.specs.Connectives.{and_both, both_and}
use Rattle.qbf.specs.Formula.{Formula, existential, entry, Existential, Universal, UniversalRightOf}
use Rattle.qbf.specs.Dependency.{Depends}
use Rattle.formula.specs.declared.refusal.Reason.{Reason}
use Rattle.formula.specs.declared.refusal.Reason.TheVariants.{WrongPivot, Tautology, Blocked, Misstated}
use Rattle.formula.specs.declared.refusal.Blocker.{Blocker}
use Rattle.formula.specs.Refusal.Laws.{require_none}
use Rattle.formula.specs.Free.{occurs}
use Rattle.formula.proofs.Theorems.Free.Laws.{occurs_found, occurs_member}
use Rattle.formula.specs.Prefix.{with_blocks}
use Rattle.formula.specs.Prefix.Laws.{blocks_listed}
use Rattle.formula.specs.Decode.Laws.{magnitude_negated}
use Rattle.inference.specs.declared.read.Family.{Family}
use Rattle.inference.specs.declared.read.Family.TheVariants.{Ordinary, LongDistance}
use Rattle.inference.specs.Words.{Words, holds, without}
use Rattle.inference.specs.Words.Laws.{opposite_injective, not_true_false, holds_sound, holds_complete, without_member, member_without}
use Rattle.inference.specs.Steps.{Scope, Step, resolution, reduction, antecedent, resolvent, opposed, states, positive_existential, blocked, blocker_of, demand, judge_statement, crosses, unresolvable, reduct, judge_resolution, judge_reduction, judge}
use Rattle.inference.proofs.Theorems.Steps.Tests.{opposed_found, unopposed, states_sound, states_complete, in_resolvent, resolvent_in, crosses_found, uncrossed, reduct_sound, reduct_complete, blocked_found, unblocked, Leftmost, leftmost_found}
use Rattle.inference.specs.Lawful.{Numbered, Resolvent, Reduct, Resolvable, LawfulResolution, LawfulReduction, Lawful, Blocks, BlockedStep, NoZeros}
use Rattle.inference.specs.Lawful.Laws.{numbered_member, antecedent_numbered, numbered_antecedent}

-- The tests of a scope decide what they ask of a formula, and its blocks are the prefix's.
pub record Decides (S : Scope) (F : Formula) : Type 0 where
  pub existential_sound : (v : ℕ) → S.existential v ≡ true → Existential F.prefix v
  pub existential_complete : (v : ℕ) → Existential F.prefix v → S.existential v ≡ true
  pub universal_sound : (v : ℕ) → S.universal v ≡ true → Universal F.prefix v
  pub universal_complete : (v : ℕ) → Universal F.prefix v → S.universal v ≡ true
  pub mergeable_sound : (e v : ℕ) → S.mergeable e v ≡ true → UniversalRightOf F.prefix e v
  pub mergeable_complete : (e v : ℕ) → UniversalRightOf F.prefix e v → S.mergeable e v ≡ true
  pub dependent_sound : (u e : ℕ) → S.dependent u e ≡ true → Existential F.prefix e × Depends F u e
  pub dependent_complete : (u e : ℕ) → Depends F u e → S.dependent u e ≡ true
  pub blocks_of : S.blocks ≡ with_blocks F.prefix

no_reason : {r : Reason} {A : Type 0} → ◌≡◌ {A = Option Reason} (some r) none → A
no_reason e = let z : ◌≡◌ {A = ℕ} 0 1 = cc in absurd (omega arith)

statement_blocked : (R L : Words) (b : Blocker) → judge_statement R L ≡ some (Blocked b) → ⊥
statement_blocked R L b h = go (states R L) h
  where
    go : (t : Bool) → demand t Misstated none ≡ some (Blocked b) → ⊥
    go true e = let z : ◌≡◌ {A = ℕ} 0 1 = cc in omega arith
    go false e = let z : ◌≡◌ {A = ℕ} 0 1 = cc in omega arith

module _ (S : Scope) (F : Formula) (D : Decides S F) where
  pivot_sound : (e : ℤ) → positive_existential S e ≡ true → (v : ℕ) × (e ≡ pos v) × Existential F.prefix v
  pivot_sound (pos v) h = (v, refl, D.existential_sound v h)
  pivot_sound (negsuc n) h = absurd (false≢true h)

  module _ (known : List Words) (nonzero : NoZeros known) where
    -- The test of opposite literals is false exactly where the antecedents may be resolved.
    resolvable_sound :
        (f : Family) (e : ℤ) (C E : Words) → ((x : ℤ) → Resolvent C E e x → x ≢ pos 0) → unresolvable f (S.mergeable (nat_abs e)) e C E ≡ false → Resolvable F f C E e
    unfolding unresolvable
    resolvable_sound Ordinary e C E z h = λ x r s. unopposed [] (resolvent e C E) h x (z x r) (resolvent_in e C E x r) (inr (resolvent_in e C E (neg_ℤ x) s))
    resolvable_sound LongDistance e C E z h = λ x m n k.
        let t = uncrossed (S.mergeable (nat_abs e)) (without e C) (without (neg_ℤ e) E) h (neg_ℤ x) (member_without (neg_ℤ x) (neg_ℤ e) E k (λ q. n (opposite_injective x e q))) (rw (neg_ℤ-neg_ℤ x) (member_without x e C m n)) in
        D.mergeable_sound (nat_abs e) (nat_abs x) (rw (magnitude_negated x) at t)

    resolvable_complete : (f : Family) (e : ℤ) (C E : Words) → Resolvable F f C E e → unresolvable f (S.mergeable (nat_abs e)) e C E ≡ false
    unfolding unresolvable
    resolvable_complete Ordinary e C E u = not_true_false (opposed [] (resolvent e C E)) (λ h. let t = opposed_found [] (resolvent e C E) h in apart t.0 t.1 t.2)
      where
        apart : (x : ℤ) → Memᴰ x (resolvent e C E) → Memᴰ (neg_ℤ x) [] ⊎ Memᴰ (neg_ℤ x) (resolvent e C E) → ⊥
        apart x m (inl k) = Memᴰ.not-nil k
        apart x m (inr k) = u x (in_resolvent e C E x m) (in_resolvent e C E (neg_ℤ x) k)
    resolvable_complete LongDistance e C E u = not_true_false (crosses (S.mergeable (nat_abs e)) (without e C) (without (neg_ℤ e) E)) (λ h. go (crosses_found (S.mergeable (nat_abs e)) (without e C) (without (neg_ℤ e) E) h))
      where
        go : (x : ℤ) × Memᴰ x (without (neg_ℤ e) E) × Memᴰ (neg_ℤ x) (without e C) × (S.mergeable (nat_abs e) (nat_abs x) ≡ false) → ⊥
        go t =
            let x = t.0 in
            let in_right = without_member x (neg_ℤ e) E t.1 in
            let in_left = without_member (neg_ℤ x) e C t.2 in
            let w = u (neg_ℤ x) in_left.0 in_left.1 (rw (neg_ℤ-neg_ℤ x) in_right.0) in
            false≢true (sym t.3 ∙ (rw (magnitude_negated x) at (D.mergeable_complete (nat_abs e) (nat_abs (neg_ℤ x)) w)))

    resolution_sound :
        (f : Family) (i j e : ℤ) (L : Words) (C E : Words) → Numbered known i C → Numbered known j E
        → judge_resolution f S e L (some C) (some E) ≡ none
        → LawfulResolution F known f i j e L
    unfolding judge_resolution
    resolution_sound f i j e L C E n m h =
        let pivots = require_none (positive_existential S e && holds e C && holds (neg_ℤ e) E) WrongPivot _ h in
        let both = and_both (positive_existential S e && holds e C) (holds (neg_ℤ e) E) pivots.0 in
        let first = and_both (positive_existential S e) (holds e C) both.0 in
        let v = pivot_sound e first.0 in
        let signs = require_none (not (unresolvable f (S.mergeable (nat_abs e)) e C E)) Tautology _ pivots.1 in
        let stated = require_none (states (resolvent e C E) L) Misstated none signs.1 in
        record {
          left = C;
          right = E;
          left_numbered = n;
          right_numbered = m;
          variable = v.0;
          positive = v.1;
          existential = v.2;
          in_left = holds_sound e C first.1;
          in_right = holds_sound (neg_ℤ e) E both.1;
          resolvable = resolvable_sound f e C E result_nonzero (not-true (unresolvable f (S.mergeable (nat_abs e)) e C E) signs.0);
          states = states_sound (resolvent e C E) (Resolvent C E e) (resolvent_in e C E) (in_resolvent e C E) L stated.0;
        }
      where
        result_nonzero : (x : ℤ) → Resolvent C E e x → x ≢ pos 0
        result_nonzero x (inl r) = nonzero C (numbered_member known i C n) x r.0
        result_nonzero x (inr r) = nonzero E (numbered_member known j E m) x r.0

    reduction_sound :
        (f : Family) (i a : ℤ) (L : Words) (C : Words) → Numbered known i C
        → judge_reduction f S a L (some C) ≡ none
        → LawfulReduction F known f i a L
    unfolding judge_reduction
    reduction_sound f i a L C n h =
        let pivots = require_none (S.universal (nat_abs a) && holds a C) WrongPivot _ h in
        let both = and_both (S.universal (nat_abs a)) (holds a C) pivots.0 in
        let free = require_none (not (blocked S (nat_abs a) C)) (Blocked (blocker_of S (nat_abs a) C)) _ pivots.1 in
        let stated = require_none (states (reduct f a C) L) Misstated none free.1 in
        record {
          clause = C;
          numbered = n;
          universal = D.universal_sound (nat_abs a) both.0;
          in_clause = holds_sound a C both.1;
          independent = λ x m q d. false≢true (sym (unblocked S (nat_abs a) C (not-true (blocked S (nat_abs a) C) free.0) x m) ∙ D.dependent_complete (nat_abs a) (nat_abs x) d);
          states = states_sound (reduct f a C) (Reduct f C a) (reduct_complete f a C) (reduct_sound f a C) L stated.0;
        }

    -- A right step is lawful.
    pub judge_lawful : (s : Step) → judge S known s ≡ none → Lawful F known s
    unfolding judge_resolution judge_reduction
    judge_lawful (resolution f i j e L) h = go (antecedent known i) (antecedent known j) refl refl h
      where
        go :
            (A B : Option Words) → antecedent known i ≡ A → antecedent known j ≡ B
            → judge_resolution f S e L A B ≡ none
            → LawfulResolution F known f i j e L
        go none B p q k = no_reason k
        go (some C) none p q k = no_reason k
        go (some C) (some E) p q k = resolution_sound f i j e L C E (antecedent_numbered known i C p) (antecedent_numbered known j E q) k
    judge_lawful (reduction f i a L) h = go (antecedent known i) refl h
      where
        go : (A : Option Words) → antecedent known i ≡ A → judge_reduction f S a L A ≡ none → LawfulReduction F known f i a L
        go none p k = no_reason k
        go (some C) p k = reduction_sound f i a L C (antecedent_numbered known i C p) k

    -- A lawful step is right.
    pub lawful_judge : (s : Step) → Lawful F known s → judge S known s ≡ none
    unfolding judge_resolution judge_reduction
    lawful_judge (resolution f i j e L) l =
        rw (numbered_antecedent known i l.left l.left_numbered, numbered_antecedent known j l.right l.right_numbered, pivot, signs, stated)
      where
        pivot : (positive_existential S e && holds e l.left && holds (neg_ℤ e) l.right) ≡ true
        pivot =
            both_and
            (positive_existential S e && holds e l.left)
            (holds (neg_ℤ e) l.right)
            (both_and (positive_existential S e) (holds e l.left) (rw l.positive (D.existential_complete l.variable l.existential)) (holds_complete e l.left l.in_left))
            (holds_complete (neg_ℤ e) l.right l.in_right)

        signs : unresolvable f (S.mergeable (nat_abs e)) e l.left l.right ≡ false
        signs = resolvable_complete f e l.left l.right l.resolvable

        stated : states (resolvent e l.left l.right) L ≡ true
        stated = states_complete (resolvent e l.left l.right) (Resolvent l.left l.right e) (resolvent_in e l.left l.right) (in_resolvent e l.left l.right) L l.states
    lawful_judge (reduction f i a L) l = rw (numbered_antecedent known i l.clause l.numbered, pivot, free, stated)
      where
        pivot : (S.universal (nat_abs a) && holds a l.clause) ≡ true
        pivot =
            both_and
            (S.universal (nat_abs a))
            (holds a l.clause)
            (D.universal_complete (nat_abs a) l.universal)
            (holds_complete a l.clause l.in_clause)

        depends_not : (x : ℤ) → Memᴰ x l.clause → S.dependent (nat_abs a) (nat_abs x) ≡ true → ⊥
        depends_not x m h = let d = D.dependent_sound (nat_abs a) (nat_abs x) h in l.independent x m d.0 d.1

        free : blocked S (nat_abs a) l.clause ≡ false
        free =
            not_true_false (blocked S (nat_abs a) l.clause)
            (λ h. let t = blocked_found S (nat_abs a) l.clause h in depends_not t.0 t.1 t.2)

        stated : states (reduct f a l.clause) L ≡ true
        stated = states_complete (reduct f a l.clause) (Reduct f l.clause a) (reduct_complete f a l.clause) (reduct_sound f a l.clause) L l.states

  -- What blocks a clause that is blocked.
  module _ (u : ℕ) (C : Words) (h : blocked S u C ≡ true) where
    blocks : ℕ → Bool
    blocks v = S.dependent u v && occurs v C

    found_leftmost : Leftmost blocks S.blocks (blocker_of S u C)
    unfolding blocker_of blocks
    found_leftmost =
        let t = blocked_found S u C h in
        let d = D.dependent_sound u (nat_abs t.0) t.2 in
        let c = blocks_listed 0 0 F.prefix (entry (nat_abs t.0) existential) d.0 in
        leftmost_found blocks S.blocks c.0 (subst (Memᴰ c.0) (sym D.blocks_of) c.1)
        (rw c.2 (both_and (S.dependent u (nat_abs t.0)) (occurs (nat_abs t.0) C) t.2 (occurs_member C t.0 t.1)))

    pub blocked_names : (known : List Words) (i a : ℤ) → nat_abs a ≡ u → Numbered known i C → Universal F.prefix (nat_abs a) → Memᴰ a C → Blocks F known i a (blocker_of S u C)
    unfolding blocks
    blocked_names known i a own n q r =
        let l = found_leftmost in
        let both = and_both (S.dependent u (blocker_of S u C).variable.0) (occurs (blocker_of S u C).variable.0 C) l.passes in
        let x = occurs_found (blocker_of S u C).variable.0 C both.1 in
        let d = D.dependent_sound u (blocker_of S u C).variable.0 both.0 in
        record {
          clause = C;
          numbered = n;
          universal = q;
          reduced = r;
          literal = x.0;
          in_clause = x.1;
          existential = rw x.2 d.0;
          depends = rw (own, x.2) d.1;
          named = x.2;
          left = l.left;
          right = l.right;
          stands = sym D.blocks_of ∙ l.stands;
          leftmost = λ c m y k e p. false≢true (sym (l.fails_left c m) ∙ both_and (S.dependent u c.variable.0) (occurs c.variable.0 C) (D.dependent_complete u c.variable.0 (rw (← own, ← e) p)) (rw (← e) (occurs_member C y k)));
        }

  -- Blocked only where an existential of the clause depends on the reduced variable.
  pub judge_blocked : (known : List Words) (s : Step) (b : Blocker) → judge S known s ≡ some (Blocked b) → BlockedStep F known s b
  unfolding judge_resolution judge_reduction
  judge_blocked known (resolution f i j e L) b h = go (antecedent known i) (antecedent known j) h
    where
      tests : (C E : Words) (p q : Bool) → demand p WrongPivot (demand q Tautology (judge_statement (resolvent e C E) L)) ≡ some (Blocked b) → ⊥
      tests C E false q k = let z : ◌≡◌ {A = ℕ} 0 1 = cc in omega arith
      tests C E true false k = let z : ◌≡◌ {A = ℕ} 0 1 = cc in omega arith
      tests C E true true k = statement_blocked (resolvent e C E) L b k

      go : (A B : Option Words) → judge_resolution f S e L A B ≡ some (Blocked b) → ⊥
      go none B k = let z : ◌≡◌ {A = ℕ} 0 1 = cc in omega arith
      go (some C) none k = let z : ◌≡◌ {A = ℕ} 0 1 = cc in omega arith
      go (some C) (some E) k =
          tests C E (positive_existential S e && holds e C && holds (neg_ℤ e) E) (not (unresolvable f (S.mergeable (nat_abs e)) e C E)) k
  judge_blocked known (reduction f i a L) b h = go (antecedent known i) refl h
    where
      same : (c : Blocker) → ◌≡◌ {A = Option Reason} (some (Blocked c)) (some (Blocked b)) → c ≡ b
      same c e = cc

      tests :
          (C : Words) → Numbered known i C
          → (p q : Bool) → (S.universal (nat_abs a) && holds a C) ≡ p → blocked S (nat_abs a) C ≡ q
          → demand p WrongPivot (demand (not q) (Blocked (blocker_of S (nat_abs a) C)) (judge_statement (reduct f a C) L)) ≡ some (Blocked b)
          → Blocks F known i a b
      tests C n false q u e k = let z : ◌≡◌ {A = ℕ} 0 1 = cc in absurd (omega arith)
      tests C n true true u e k =
          let both = and_both (S.universal (nat_abs a)) (holds a C) u in
          subst (Blocks F known i a) (same (blocker_of S (nat_abs a) C) k)
          (blocked_names (nat_abs a) C e known i a refl n (D.universal_sound (nat_abs a) both.0) (holds_sound a C both.1))
      tests C n true false u e k = absurd (statement_blocked (reduct f a C) L b k)

      go : (A : Option Words) → antecedent known i ≡ A → judge_reduction f S a L A ≡ some (Blocked b) → Blocks F known i a b
      go none p k = let z : ◌≡◌ {A = ℕ} 0 1 = cc in absurd (omega arith)
      go (some C) p k = tests C (antecedent_numbered known i C p) (S.universal (nat_abs a) && holds a C) (blocked S (nat_abs a) C) refl refl k
