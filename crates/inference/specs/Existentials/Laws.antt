-- The flags of the existentials answer the test of a scope, on tables that pass the check; and what a word out of range is. Assumes nothing.
use Rattle.std.specs.Prelude.{not}
use Rattle.formula.specs.Prefix.{quantifier_of}
use Rattle.std.specs.Prelude.{Option, Some, None}
use Rattle.std.specs.Prelude.{ℕ, zero, suc, ◌-◌, ◌≤◌, ◌<◌, ◌≡◌, refl, Bool, true, false, ◌&&◌, ◌||◌, leb, length, get_or, replicate, ℤ, pos, negsuc, nat_abs}
use Rattle.std.proofs.Math.Path.{ap, sym}
use Rattle.std.proofs.Common.{◌∙◌, arith, le-leb, leb-true, leb-false, eq-eqb, ne_eqb, length-set, get_or-set_same, get_or-set_other}
use Rattle.std.proofs.Math.Logic.{dite}
use Rattle.std.proofs.lemmas.Bool.{false≢true, lt-leb}
use Rattle.std.proofs.Math.Bool.{or-true, or-false, or_assoc}
use mathlib.Core.List.Memᴰ
use mathlib.Core.List.{List, [], ◌∷◌}
use Rattle.std.proofs.Math.Decide.{ℕ_discrete, dec_lt}
use Rattle.std.proofs.Math.Dec.{eqb}
use Rattle.std.proofs.lemmas.List.{length-replicate, get_or-replicate}
use Rattle.qbf.specs.Formula.{Quantifier, existential, universal, entry, Prefix}
use Rattle.bits.specs.Flags.{flags}
use Rattle.bits.specs.Flags.Laws.{flags_zeros}
use Rattle.formula.specs.Bounds.{variable_fit, in_range}
use Rattle.formula.specs.Prefix.{prefix_of, is_quantifier, quantifies, AllRanged, Entries}
use Rattle.formula.specs.Prefix.Laws.{quantifies_sound}
use Rattle.formula.specs.Word.{word_of, variable_of, positive, negative}
use Rattle.formula.specs.Word.Laws.{variable_magnitude, variable_large}
use Rattle.formula.specs.Tables.{Admitted}
use Rattle.formula.proofs.Theorems.Tables.Laws.{admitted_entries}
use Rattle.formula.specs.declared.literal.Variable.{Variable}
use Rattle.inference.specs.Words.Laws.{not_true_false}
use Rattle.inference.specs.Steps.{positive_existential}
use Rattle.inference.specs.Scope.{scope_of}
use Rattle.inference.specs.Existentials.{put_if, quantified_entry, flags_from, quantified_flags, existentials_of, existential_of}

-- From cleared bytes.
pub from_cleared : (q : Quantifier) (P : Prefix) (bytes : List ℕ) → bytes ≡ replicate 128 0 → flags_from q (flags bytes) P ≡ quantified_flags q P
unfolding quantified_flags
from_cleared q P bytes e = ap (λ (fs : List ℕ). flags_from q fs P) (ap flags e ∙ flags_zeros 128)

-- One entry put: its own flag is 1, every other as it was.
module _ (fs : List ℕ) (size : length fs ≡ 1024) (k : ℕ) where
  put_seen : (b : Bool) (v : ℕ) → 1 ≤ v → v ≤ 1024 → eqb (get_or (put_if b v fs) k 0) 1 ≡ (eqb (get_or fs k 0) 1 || (b && eqb v (suc k)))
  put_seen false v l u = sym (or-false (eqb (get_or fs k 0) 1))
  put_seen true v l u =
      dite (ℕ_discrete v (suc k))
      (λ e. let i : v - 1 ≡ k = omega arith in rw (i, get_or-set_same fs k 1 0 (omega arith), eq-eqb v (suc k) e) (sym (or-true (eqb (get_or fs k 0) 1))))
      (λ n. rw (get_or-set_other fs (v - 1) k 1 0 (λ e. n (omega arith)), ne_eqb v (suc k) n) (sym (or-false (eqb (get_or fs k 0) 1))))

  put_size : (b : Bool) (v : ℕ) → length (put_if b v fs) ≡ 1024
  put_size true v = length-set fs (v - 1) 1 ∙ size
  put_size false v = size

module _ (q : Quantifier) where
  flag_seen :
      (fs : List ℕ) → length fs ≡ 1024 → (P : Prefix) → AllRanged P → (k : ℕ)
      → eqb (get_or (flags_from q fs P) k 0) 1 ≡ (eqb (get_or fs k 0) 1 || quantifies q P (suc k))
  unfolding flags_from quantifies
  flag_seen fs size [] r k = sym (or-false (eqb (get_or fs k 0) 1))
  flag_seen fs size (x ∷ P) r k =
      let b = r x (Memᴰ.head refl) in
      flag_seen (quantified_entry q fs x) (put_size fs size k (is_quantifier q x.quantifier) x.variable) P (λ y m. r y (Memᴰ.tail m)) k
      ∙ ap (λ (t : Bool). t || quantifies q P (suc k)) (put_seen fs size k (is_quantifier q x.quantifier) x.variable b.0 b.1)
      ∙ or_assoc (eqb (get_or fs k 0) 1) (is_quantifier q x.quantifier && eqb x.variable (suc k)) (quantifies q P (suc k))

  -- A variable's flag is 1 exactly when it is listed with the quantifier.
  pub quantified_flag : (P : Prefix) → AllRanged P → (k : ℕ) → k < 1024 → eqb (get_or (quantified_flags q P) k 0) 1 ≡ quantifies q P (suc k)
  unfolding quantified_flags
  quantified_flag P r k h =
      flag_seen (replicate 1024 0) (length-replicate {A = ℕ} 1024 0) P r k
      ∙ ap (λ (n : ℕ). eqb n 1 || quantifies q P (suc k)) (get_or-replicate {A = ℕ} 1024 k 0 0 h)

module _ (prefix : List ℤ) (entries : Entries prefix) where
  existential_flag : (k : ℕ) → k < 1024 → eqb (get_or (existentials_of prefix) k 0) 1 ≡ quantifies existential (prefix_of prefix) (suc k)
  existential_flag k h = quantified_flag existential (prefix_of prefix) entries.ranged k h

  -- A number that is listed is in range, and one out of range is not listed.
  pub listed_ranged : (q : Quantifier) (n : ℕ) → quantifies q (prefix_of prefix) n ≡ true → (1 ≤ n) × (n ≤ 1024)
  listed_ranged q n e = entries.ranged (entry n q) (quantifies_sound q (prefix_of prefix) n e)

  pub not_listed : (q : Quantifier) (n : ℕ) → (1 ≤ n → n ≤ 1024 → ⊥) → quantifies q (prefix_of prefix) n ≡ false
  not_listed q n h = not_true_false (quantifies q (prefix_of prefix) n) (λ e. let r = listed_ranged q n e in h r.0 r.1)

-- A word out of range is no universal literal; its variable is its magnitude, where it is one.
pub universal_outside : (prefix : List ℤ) → Entries prefix → (w : ℤ) → in_range (nat_abs w) 1024 ≡ false → quantifies universal (prefix_of prefix) (nat_abs w) ≡ false
universal_outside prefix entries w h = not_listed prefix entries universal (nat_abs w) (λ l u. false≢true (sym h ∙ rw (le-leb 1 (nat_abs w) l, le-leb (nat_abs w) 1024 u)))

pub variable_ranged : (w : ℤ) → in_range (variable_of (word_of w)) 1024 ≡ in_range (nat_abs w) 1024
variable_ranged w =
    dite (dec_lt 1024 (nat_abs w))
    (λ l. rw (variable_large w l, le-leb 1 (nat_abs w) (omega arith), lt-leb (nat_abs w) 1024 l))
    (λ n. ap (λ (m : ℕ). in_range m 1024) (variable_magnitude w (omega arith)))

-- The test of the scope.
pub existential_fit :
    (prefix clauses : List ℤ) → Admitted prefix clauses → (e : ℤ)
    → existential_of (existentials_of prefix) (word_of e) ≡ variable_fit (positive_existential (scope_of prefix clauses) e) (nat_abs e)
unfolding word_of
existential_fit prefix clauses a (pos zero) = rw (not_listed prefix (admitted_entries prefix clauses a) existential 0 (λ l u. omega arith))
existential_fit prefix clauses a (pos (suc n)) = go (leb (suc n) 1024) refl
  where
    go : (b : Bool) → leb (suc n) 1024 ≡ b → existential_of (existentials_of prefix) (positive b (suc n)) ≡ variable_fit (quantifies existential (prefix_of prefix) (suc n)) (suc n)
    go true e = let i : suc n - 1 ≡ n = omega arith in rw (i, existential_flag prefix (admitted_entries prefix clauses a) n (leb-true (suc n) 1024 e))
    go false e = rw (not_listed prefix (admitted_entries prefix clauses a) existential (suc n) (λ l u. let h = leb-false (suc n) 1024 e in omega arith))
existential_fit prefix clauses a (negsuc n) = go (leb (suc n) 1024)
  where
    go : (b : Bool) → existential_of (existentials_of prefix) (negative b (suc n)) ≡ None
    go true = refl
    go false = refl

-- A variable that was found, or not.
first : Option Variable → ℕ
first (Some v) = v.0
first None = 0

pub fit_found : (b : Bool) (n : ℕ) (v : Variable) → Some v ≡ variable_fit b n → (v.0 ≡ n) × (b ≡ true)
unfolding first
fit_found true n v e = (ap first e, refl)
fit_found false n v e = let z : ◌≡◌ {A = ℕ} 0 1 = cc in absurd (omega arith)

pub fit_missed : (b : Bool) (n : ℕ) → None ≡ variable_fit b n → b ≡ false
fit_missed true n e = let z : ◌≡◌ {A = ℕ} 0 1 = cc in absurd (omega arith)
fit_missed false n e = refl

pub existential_bound : (fs : List ℕ) (w : ℤ) (v : Variable) → Some v ≡ existential_of fs (word_of w) → v.0 ≤ 1024
unfolding word_of
existential_bound fs (pos zero) v e = let z : ◌≡◌ {A = ℕ} 0 1 = cc in absurd (omega arith)
existential_bound fs (pos (suc n)) v e = go (leb (suc n) 1024) refl e
  where
    go : (b : Bool) → leb (suc n) 1024 ≡ b → Some v ≡ existential_of fs (positive b (suc n)) → v.0 ≤ 1024
    go true q h = let f = (fit_found (eqb (get_or fs (suc n - 1) 0) 1) (suc n) v h).0 in let l = leb-true (suc n) 1024 q in omega arith
    go false q h = let z : ◌≡◌ {A = ℕ} 0 1 = cc in absurd (omega arith)
existential_bound fs (negsuc n) v e = go (leb (suc n) 1024) e
  where
    go : (b : Bool) → Some v ≡ existential_of fs (negative b (suc n)) → v.0 ≤ 1024
    go true h = let z : ◌≡◌ {A = ℕ} 0 1 = cc in absurd (omega arith)
    go false h = let z : ◌≡◌ {A = ℕ} 0 1 = cc in absurd (omega arith)

-- A quantifier told by whether it is the existential one, against either.
pub existential_asked : (b : Bool) → is_quantifier (quantifier_of b) existential ≡ b
existential_asked true = refl
existential_asked false = refl

pub universal_asked_lem : (b : Bool) → is_quantifier (quantifier_of b) universal ≡ not b
universal_asked_lem true = refl
universal_asked_lem false = refl
