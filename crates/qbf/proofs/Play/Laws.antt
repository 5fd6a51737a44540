-- Laws of play: values after a variable is set, clauses and matrices that are false, that the values before the first move do not
-- matter, and that a position, and the game, is won exactly when it is not lost. Definitions: Play.
use Rattle.std.specs.Prelude.{ℕ, ◌≡◌, refl, ◌≢◌, ◌⊎◌, ◌↔◌, Bool, true, false, not, ◌&&◌, ◌||◌}
use Rattle.std.proofs.Common.{sym, ap, ap₂, ◌∙◌, subst, inl, inr, eq-eqb, ne_eqb}
use Rattle.std.specs.Bool.{beq}
use Rattle.std.proofs.Math.Bool.{or-true, and-false}
use Rattle.std.proofs.lemmas.Bool.{false≢true}
use mathlib.Core.List.Memᴰ
use mathlib.Core.List.{[], ◌∷◌, Memᴰ}
use Rattle.std.proofs.Math.Decide.{ℕ_discrete}
use Rattle.qbf.specs.Literal.{Literal, neg, Clause, Matrix}
use Rattle.qbf.specs.Formula.{Formula, Quantifier, existential, universal, Entry, Prefix, listed, Proper}
use Rattle.qbf.specs.Connectives.{or_either, or_left, or_right}
use Rattle.qbf.specs.Play.{Values, assign, true_literal, satisfied, falsified, turn, lost, Lost, TrueClause, WonTurn, WonAt, Won}

pub assign_own : (τ : Values) (v : ℕ) (b : Bool) → assign τ v b v ≡ b
assign_own τ v b = rw (eq-eqb v v refl) refl

pub assign_other : (τ : Values) (v : ℕ) (b : Bool) (w : ℕ) → v ≢ w → assign τ v b w ≡ τ w
assign_other τ v b w n = rw (ne_eqb v w n) refl

differs_not : (b : Bool) → beq b (not b) ≡ false
differs_not true = refl
differs_not false = refl

-- The opposite of the literal made true is false; literals of other variables keep their value.
pub opposite_false : (τ : Values) (k : Literal) → true_literal (assign τ k.variable k.sign) (neg k) ≡ false
opposite_false τ k = ap (λ (b : Bool). beq b (not k.sign)) (assign_own τ k.variable k.sign) ∙ differs_not k.sign

pub other_keeps : (τ : Values) (v : ℕ) (b : Bool) (l : Literal) → v ≢ l.variable → true_literal (assign τ v b) l ≡ true_literal τ l
other_keeps τ v b l n = ap (λ (c : Bool). beq c l.sign) (assign_other τ v b l.variable n)

-- A clause all of whose literals are false, and a matrix that holds such a clause.
pub unsatisfied : (τ : Values) (C : Clause) → ((l : Literal) → Memᴰ l C → true_literal τ l ≡ false) → satisfied τ C ≡ false
unfolding satisfied
unsatisfied τ [] h = refl
unsatisfied τ (l ∷ C) h = ap₂ ◌||◌ (h l (Memᴰ.head refl)) (unsatisfied τ C (λ m i. h m (Memᴰ.tail i)))

pub falsified_by : (τ : Values) (M : Matrix) (C : Clause) → Memᴰ C M → satisfied τ C ≡ false → falsified τ M ≡ true
unfolding falsified
falsified_by τ [] C m e = absurd (Memᴰ.not-nil m)
falsified_by τ (D ∷ M) C m e =
    elim (Memᴰ.cases_cons m) [
      | inl p ↦ ap (λ (b : Bool). not b || falsified τ M) (ap (satisfied τ) (sym p) ∙ e)
      | inr n ↦ ap (λ (b : Bool). not (satisfied τ D) || b) (falsified_by τ M C n e) ∙ or-true (not (satisfied τ D))
    ]

-- Two assignments that agree on each clause variable, or leave it among the entries to be set.
Agree : Matrix → Prefix → Values → Values → Type 0
Agree M rest τ σ =
    (C : Clause) → Memᴰ C M → (l : Literal) → Memᴰ l C →
    Memᴰ l.variable (listed rest) ⊎ (τ l.variable ≡ σ l.variable)

satisfied_agree : (τ σ : Values) (C : Clause) → ((l : Literal) → Memᴰ l C → τ l.variable ≡ σ l.variable) → satisfied τ C ≡ satisfied σ C
unfolding satisfied
satisfied_agree τ σ [] h = refl
satisfied_agree τ σ (l ∷ C) h =
    ap₂ ◌||◌ (ap (λ (b : Bool). beq b l.sign) (h l (Memᴰ.head refl))) (satisfied_agree τ σ C (λ m k. h m (Memᴰ.tail k)))

falsified_agree : (τ σ : Values) (M : Matrix) → ((C : Clause) → Memᴰ C M → (l : Literal) → Memᴰ l C → τ l.variable ≡ σ l.variable) → falsified τ M ≡ falsified σ M
unfolding falsified
falsified_agree τ σ [] h = refl
falsified_agree τ σ (C ∷ M) h =
    ap₂ ◌||◌ (ap not (satisfied_agree τ σ C (h C (Memᴰ.head refl)))) (falsified_agree τ σ M (λ D m. h D (Memᴰ.tail m)))

agree_assign : (M : Matrix) (x : Entry) (rest : Prefix) (τ σ : Values) (b : Bool) → Agree M (x ∷ rest) τ σ → Agree M rest (assign τ x.variable b) (assign σ x.variable b)
unfolding Agree
agree_assign M x rest τ σ b h C m l k = go (ℕ_discrete x.variable l.variable) (h C m l k)
  where
    v : ℕ
    v = x.variable

    go : Dec (v ≡ l.variable) → Memᴰ l.variable (listed (x ∷ rest)) ⊎ (τ l.variable ≡ σ l.variable) → Memᴰ l.variable (listed rest) ⊎ (assign τ v b l.variable ≡ assign σ v b l.variable)
    go (yes e) g = inr (subst (λ (w : ℕ). assign τ v b w ≡ assign σ v b w) e (assign_own τ v b ∙ sym (assign_own σ v b)))
    go (no n) (inl i) = elim (Memᴰ.cases_cons i) [ inl p ↦ absurd (n (sym p)) | inr j ↦ inl j ]
    go (no n) (inr p) = inr (assign_other τ v b l.variable n ∙ p ∙ sym (assign_other σ v b l.variable n))

lost_agree : (rest : Prefix) (τ σ : Values) (M : Matrix) → Agree M rest τ σ → lost rest τ M ≡ lost rest σ M
unfolding lost Agree
lost_agree [] τ σ M h = falsified_agree τ σ M (λ C m l k. elim (h C m l k) [ inl i ↦ absurd (Memᴰ.not-nil i) | inr p ↦ p ])
lost_agree (x ∷ rest) τ σ M h =
    ap₂ (turn x.quantifier)
    (lost_agree rest (assign τ x.variable false) (assign σ x.variable false) M (agree_assign M x rest τ σ false h))
    (lost_agree rest (assign τ x.variable true) (assign σ x.variable true) M (agree_assign M x rest τ σ true h))

-- The values before the first move do not matter.
pub lost_any_values : (F : Formula) → Proper F → (τ σ : Values) → lost F.prefix τ F.matrix ≡ lost F.prefix σ F.matrix
unfolding Agree
lost_any_values F proper τ σ = lost_agree F.prefix τ σ F.matrix (λ C m l k. inl (proper.clause_bound C m l k))

-- Won exactly when not lost: the parts, then positions, then the game.
true_found : (τ : Values) (C : Clause) → satisfied τ C ≡ true → TrueClause τ C
unfolding satisfied
true_found τ [] h = absurd (false≢true h)
true_found τ (l ∷ C) h = go (or_either (true_literal τ l) (satisfied τ C) h) (λ k. true_found τ C k)
  where
    go : (true_literal τ l ≡ true) ⊎ (satisfied τ C ≡ true) → (satisfied τ C ≡ true → TrueClause τ C) → TrueClause τ (l ∷ C)
    go (inl e) later = record { literal = l; stands = Memᴰ.head refl; is_true = e }
    go (inr k) later = let t = later k in record { literal = t.literal; stands = Memᴰ.tail t.stands; is_true = t.is_true }

found_true : (τ : Values) (C : Clause) (l : Literal) → Memᴰ l C → true_literal τ l ≡ true → satisfied τ C ≡ true
unfolding satisfied
found_true τ [] l m e = absurd (Memᴰ.not-nil m)
found_true τ (k ∷ C) l m e = go (Memᴰ.cases_cons m) (λ n. found_true τ C l n e)
  where
    go : (l ≡ k) ⊎ Memᴰ l C → (Memᴰ l C → satisfied τ C ≡ true) → (true_literal τ k || satisfied τ C) ≡ true
    go (inl p) later = or_left (true_literal τ k) (satisfied τ C) (rw p at e)
    go (inr n) later = or_right (true_literal τ k) (satisfied τ C) (later n)

all_satisfied : (τ : Values) (M : Matrix) → falsified τ M ≡ false → (C : Clause) → Memᴰ C M → satisfied τ C ≡ true
all_satisfied τ M h C m = go (satisfied τ C) refl
  where
    go : (b : Bool) → satisfied τ C ≡ b → satisfied τ C ≡ true
    go true e = e
    go false e = absurd (false≢true (sym h ∙ falsified_by τ M C m e))

satisfied_all : (τ : Values) (M : Matrix) → ((C : Clause) → Memᴰ C M → satisfied τ C ≡ true) → falsified τ M ≡ false
unfolding falsified
satisfied_all τ [] h = refl
satisfied_all τ (C ∷ M) h = ap₂ ◌||◌ (ap not (h C (Memᴰ.head refl))) (satisfied_all τ M (λ D m. h D (Memᴰ.tail m)))

-- What is so of the positions after a turn is so of the turn.
turn_won : (q : Quantifier) (W : Bool → Type 0) (l : Bool → Bool) → ((b : Bool) → W b ↔ (l b ≡ false)) → WonTurn q W ↔ (turn q (l false) (l true) ≡ false)
turn_won existential W l h = (λ w. some_value w.0 ((h w.0).0 w.1), λ e. value (l false) refl e)
  where
    some_value : (b : Bool) → l b ≡ false → (l false && l true) ≡ false
    some_value true e = ap (λ (b : Bool). l false && b) e ∙ and-false (l false)
    some_value false e = ap (λ (b : Bool). b && l true) e

    value : (a : Bool) → l false ≡ a → (a && l true) ≡ false → (b : Bool) × W b
    value true e k = (true, (h true).1 k)
    value false e k = (false, (h false).1 e)
turn_won universal W l h = (λ w. ap₂ ◌||◌ ((h false).0 (w false)) ((h true).0 (w true)), λ e b. (h b).1 (both (l false) refl e b))
  where
    both : (a : Bool) → l false ≡ a → (a || l true) ≡ false → (b : Bool) → l b ≡ false
    both true e k b = absurd (false≢true (sym k))
    both false e k true = k
    both false e k false = e

-- A position is won exactly when it is not lost: "a position not false is true" (01).
pub position_won : (rest : Prefix) (τ : Values) (M : Matrix) → WonAt rest τ M ↔ (lost rest τ M ≡ false)
unfolding lost
position_won [] τ M =
    (λ w. satisfied_all τ M (λ C m. let t = w C m in found_true τ C t.literal t.stands t.is_true), λ e C m. true_found τ C (all_satisfied τ M e C m))
position_won (x ∷ rest) τ M =
    turn_won x.quantifier (λ b. WonAt rest (assign τ x.variable b) M) (λ b. lost rest (assign τ x.variable b) M) (λ b. position_won rest (assign τ x.variable b) M)

-- A game is won exactly when it is not lost, and lost exactly when it is not won.
module _ (F : Formula) (proper : Proper F) where
  never_both : Won F → Lost F → ⊥
  never_both w l = let τ : Values = λ v. false in false≢true (sym ((position_won F.prefix τ F.matrix).0 (w τ)) ∙ l τ)

  pub won_exactly : Won F ↔ (Lost F → ⊥)
  won_exactly = (never_both, λ n τ. go n τ (lost F.prefix τ F.matrix) refl)
    where
      go : (Lost F → ⊥) → (τ : Values) (b : Bool) → lost F.prefix τ F.matrix ≡ b → WonAt F.prefix τ F.matrix
      go n τ true e = absurd (n (λ σ. lost_any_values F proper σ τ ∙ e))
      go n τ false e = (position_won F.prefix τ F.matrix).1 e

  pub lost_exactly : Lost F ↔ (Won F → ⊥)
  lost_exactly = (λ l w. never_both w l, λ n τ. go n τ (lost F.prefix τ F.matrix) refl)
    where
      go : (Won F → ⊥) → (τ : Values) (b : Bool) → lost F.prefix τ F.matrix ≡ b → lost F.prefix τ F.matrix ≡ true
      go n τ true e = e
      go n τ false e = absurd (n (λ σ. (position_won F.prefix σ F.matrix).1 (lost_any_values F proper σ τ ∙ e)))
