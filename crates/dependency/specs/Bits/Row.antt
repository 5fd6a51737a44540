-- The flags that two searches leave tell which variables depend, and what is stored of them is the row of the universal. Definitions: Bits, Row, Search.
-- Assumes nothing.
use Rattle.std.specs.Prelude.{ℕ, zero, suc, ◌+◌, ◌*◌, ◌-◌, ◌/◌, ◌≤◌, ◌<◌, ◌≡◌, ◌⊎◌, Bool, not, ◌&&◌, ◌||◌, List, ◌∷◌, length, get_or, set, take, drop, eqb, ℤ}
use Rattle.std.proofs.Math.Path.{refl, ap}
use Rattle.std.proofs.Common.{sym, ◌∙◌, inl, inr, arith, eqb-true, eq-eqb, length-drop, ext_get_or, get_or-set_same, get_or-set_other, get_or-take, get_or-drop, length-take-le}
use Rattle.std.proofs.Math.Logic.{dite}
use Rattle.std.proofs.Math.Bool.{true, false}
use Rattle.std.proofs.lemmas.Bool.{false≢true}
use Rattle.std.proofs.Math.Decide.{ℕ_discrete}
use Rattle.bits.specs.Flags.{flags, flag}
use Rattle.bits.specs.Flags.Laws.{length_flags, flags_take, flags_drop}
use Rattle.qbf.specs.Connectives.{and_both, both_and, or_either, or_left, or_right}
use Rattle.qbf.specs.Formula.{Formula}
use Rattle.qbf.specs.Dependency.{Depends, depends}
use Rattle.qbf.proofs.Dependency.Laws.{depends_sound, depends_complete}
use Rattle.formula.specs.Word.{slot}
use Rattle.formula.specs.Tables.{Admitted}
use Rattle.formula.specs.Decode.{formula_of}
use Rattle.dependency.specs.Row.{mark, row_of}
use Rattle.dependency.specs.Row.Laws.{row_length, row_byte}
use Rattle.dependency.specs.Search.{Searched}
use Rattle.dependency.specs.Search.Closed.{Ranged}
use Rattle.dependency.specs.Search.Laws.{X_range}
use Rattle.dependency.specs.Bits.{mark_from, is_on, base, marks_of, marks_in, depends_at, RowFlags}
use Rattle.dependency.specs.Bits.Laws.{mark_literal}

-- Tests that are true together are equal.
same_tests : (a b : Bool) → (a ≡ true → b ≡ true) → (b ≡ true → a ≡ true) → a ≡ b
same_tests true b f g = sym (f refl)
same_tests false true f g = absurd (false≢true (g refl))
same_tests false false f g = refl

module _ (F : Formula) (u : ℕ) (P N : List ℕ) (from-u : Searched F u true P) (from-not-u : Searched F u false N) where
  -- the four tests of e: u to e, −u to −e, u to −e, −u to e
  abbrev straight : ℕ → Bool
  straight e = eqb (get_or P (slot e false) 0) 2 && eqb (get_or N (slot e true) 0) 2

  abbrev crossed : ℕ → Bool
  crossed e = eqb (get_or P (slot e true) 0) 2 && eqb (get_or N (slot e false) 0) 2

  tests_sound : (e : ℕ) → (straight e || crossed e) ≡ true → Depends F u e
  tests_sound e h = go (or_either (straight e) (crossed e) h)
    where
      go : (straight e ≡ true) ⊎ (crossed e ≡ true) → Depends F u e
      go (inl k) =
          let b = and_both (eqb (get_or P (slot e false) 0) 2) (eqb (get_or N (slot e true) 0) 2) k in
          let p = from-u.only e true (eqb-true (get_or P (slot e false) 0) 2 b.0) in
          let n = from-not-u.only e false (eqb-true (get_or N (slot e true) 0) 2 b.1) in
          record { right = p.0; to_sign = true; from_positive = p.1; from_negative = n.1 }
      go (inr k) =
          let b = and_both (eqb (get_or P (slot e true) 0) 2) (eqb (get_or N (slot e false) 0) 2) k in
          let p = from-u.only e false (eqb-true (get_or P (slot e true) 0) 2 b.0) in
          let n = from-not-u.only e true (eqb-true (get_or N (slot e false) 0) 2 b.1) in
          record { right = p.0; to_sign = false; from_positive = p.1; from_negative = n.1 }

  tests_complete : (e : ℕ) → Depends F u e → (straight e || crossed e) ≡ true
  tests_complete e d = go d.to_sign (from-u.reached e d.to_sign d.right d.from_positive) (from-not-u.reached e (not d.to_sign) d.right d.from_negative)
    where
      go : (t : Bool) → get_or P (slot e (not t)) 0 ≡ 2 → get_or N (slot e (not (not t))) 0 ≡ 2 → (straight e || crossed e) ≡ true
      go true p n =
          or_left (straight e) (crossed e)
          (both_and (eqb (get_or P (slot e false) 0) 2) (eqb (get_or N (slot e true) 0) 2) (eq-eqb (get_or P (slot e false) 0) 2 p) (eq-eqb (get_or N (slot e true) 0) 2 n))
      go false p n =
          or_right (straight e) (crossed e)
          (both_and (eqb (get_or P (slot e true) 0) 2) (eqb (get_or N (slot e false) 0) 2) (eq-eqb (get_or P (slot e true) 0) 2 p) (eq-eqb (get_or N (slot e false) 0) 2 n))

  pub tests_depends : (e : ℕ) → (straight e || crossed e) ≡ depends F u e
  tests_depends e =
      same_tests (straight e || crossed e) (depends F u e)
      (λ h. depends_complete F u e (tests_sound e h))
      (λ h. tests_complete e (depends_sound F u e h))

-- A mark of 2 by its two flags.
reached_by : (a b : Bool) → eqb (mark_from a b) 2 ≡ (a && b)
reached_by true true = refl
reached_by true false = refl
reached_by false true = refl
reached_by false false = refl

join : (p a b c d : Bool) → (((p && a) && (p && b)) || ((p && c) && (p && d))) ≡ (p && ((a && b) || (c && d)))
join true a b c d = refl
join false a b c d = refl

-- The variable e = v + 1 by the flags.
module _ (fs : List ℕ) (v : ℕ) (h : v < 1024) where
  own_flag : (s t : Bool) (i : ℕ) → slot (suc v) t ≡ 2 + i → i < 2048 → i / 2 ≡ v → eqb (get_or (marks_of s fs) (slot (suc v) t) 0) 2 ≡ (is_on fs (2048 + v) && is_on fs (base s + i))
  own_flag s t i e k q =
      let l : 2 ≤ 2 + i = omega arith in
      let m : 2 + i < 2050 = omega arith in
      let x : 2047 + (2 + i) / 2 ≡ 2048 + v = omega arith in
      let y : 2 + i - 2 ≡ i = omega arith in
      rw (e, mark_literal s fs (2 + i) l m, x, y) (reached_by (is_on fs (2048 + v)) (is_on fs (base s + i)))

  pub flags_tests :
      ((eqb (get_or (marks_of true fs) (slot (suc v) false) 0) 2 && eqb (get_or (marks_of false fs) (slot (suc v) true) 0) 2)
      || (eqb (get_or (marks_of true fs) (slot (suc v) true) 0) 2 && eqb (get_or (marks_of false fs) (slot (suc v) false) 0) 2))
      ≡ depends_at fs v
  flags_tests =
      let a : 0 + (2 * v + 1) ≡ 2 * v + 1 = omega arith in
      let b : 0 + 2 * v ≡ 2 * v = omega arith in
      let d : 3072 + (2 * v + 1) ≡ 3073 + 2 * v = omega arith in
      rw (
        own_flag true false (2 * v + 1) (omega arith) (omega arith) (omega arith),
        own_flag false true (2 * v) (omega arith) (omega arith) (omega arith),
        own_flag true true (2 * v) (omega arith) (omega arith) (omega arith),
        own_flag false false (2 * v + 1) (omega arith) (omega arith) (omega arith),
        a,
        b,
        d,
      )
      (join (is_on fs (2048 + v)) (is_on fs (2 * v + 1)) (is_on fs (3072 + 2 * v)) (is_on fs (2 * v)) (is_on fs (3073 + 2 * v)))

-- One flag of the row more.
module _ (fs gs : List ℕ) (v : ℕ) (h : v < 1024) (size : length gs ≡ 5120) (so_far : RowFlags fs gs v) where
  same_test : depends_at gs v ≡ depends_at fs v
  same_test =
      let a = so_far.back (2048 + v) (omega arith) in
      let b = so_far.front (2 * v + 1) (omega arith) in
      let c = so_far.back (3072 + 2 * v) (omega arith) in
      let d = so_far.front (2 * v) (omega arith) in
      let e = so_far.back (3073 + 2 * v) (omega arith) in
      rw (a, b, c, d, e)

  pub row_step : RowFlags fs (set gs (2048 + v) (flag (depends_at gs v))) (suc v)
  row_step =
      record {
        stored = λ w k. dite (ℕ_discrete w v)
            (λ e. rw (e, get_or-set_same gs (2048 + v) (flag (depends_at gs v)) 0 (omega arith)) (ap flag same_test))
            (λ n. get_or-set_other gs (2048 + v) (2048 + w) (flag (depends_at gs v)) 0 (λ e. n (omega arith)) ∙ so_far.stored w (omega arith));
        front = λ i k. get_or-set_other gs (2048 + v) i (flag (depends_at gs v)) 0 (λ e. omega arith) ∙ so_far.front i k;
        back = λ i k. get_or-set_other gs (2048 + v) i (flag (depends_at gs v)) 0 (λ e. omega arith) ∙ so_far.back i (omega arith);
      }

pub row_none : (fs : List ℕ) → RowFlags fs fs 0
row_none fs = record { stored = λ v h. absurd (omega arith); front = λ i h. refl; back = λ i h. refl }

-- The row that is stored.
module _ (p c : List ℤ) (admitted : Admitted p c) (u : ℕ) (range : Ranged u) (work : List ℕ) (searched : (s : Bool) → Searched (formula_of p c) u s (marks_in s work)) where
  abbrev F : Formula
  F = formula_of p c

  depends_flag : (v : ℕ) → v < 1024 → flag (depends_at (flags work) v) ≡ mark (depends F u (suc v))
  unfolding marks_in
  depends_flag v h =
      ap flag (sym (flags_tests (flags work) v h) ∙ tests_depends F u (marks_of true (flags work)) (marks_of false (flags work)) (searched true) (searched false) (suc v))
      ∙ same (depends F u (suc v))
    where
      same : (b : Bool) → flag b ≡ mark b
      same true = refl
      same false = refl

  no_zero : depends F u 0 ≡ false
  no_zero = go (depends F u 0) refl
    where
      go : (b : Bool) → depends F u 0 ≡ b → b ≡ false
      go false e = refl
      go true e = let r = X_range p c admitted u range 0 (depends_sound F u 0 e).right in absurd (omega (arith, r.0))

  pub row_stored : (work' : List ℕ) → length work' ≡ 640 → RowFlags (flags work) (flags work') 1024 → 0 ∷ flags (take 128 (drop 256 work')) ≡ row_of F u
  row_stored work' size done =
      ext_get_or 0 (0 ∷ flags (take 128 (drop 256 work'))) (row_of F u)
      (length_whole ∙ sym (row_length F u))
      (λ e k. at e (rw length_whole at k))
    where
      part : length (take 128 (drop 256 work')) ≡ 128
      part = length-take-le 128 (drop 256 work') (rw (length-drop 256 work', size) (omega arith))

      length_whole : length (0 ∷ flags (take 128 (drop 256 work'))) ≡ 1025
      length_whole = let k = length_flags (take 128 (drop 256 work')) in let l = part in omega arith

      at : (e : ℕ) → e < 1025 → get_or (0 ∷ flags (take 128 (drop 256 work'))) e 0 ≡ get_or (row_of F u) e 0
      at zero k = sym (row_byte F u 0 (omega arith) ∙ ap mark no_zero)
      at (suc v) k =
          rw (flags_take 128 (drop 256 work'), flags_drop 256 work')
          (get_or-take 1024 (drop 2048 (flags work')) v 0 (omega arith)
          ∙ get_or-drop 2048 (flags work') v 0
          ∙ done.stored v (omega arith)
          ∙ depends_flag v (omega arith)
          ∙ sym (row_byte F u (suc v) (omega arith)))
