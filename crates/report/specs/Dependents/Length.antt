-- How long the lines of the universals are: on admitted tables `text_room` bytes hold them. A dependent is existential, so of u
-- universals and e existentials at most u × e dependents are printed. Assumes nothing.
use Rattle.std.specs.Prelude.{ℕ, ◌+◌, ◌*◌, ◌-◌, ◌^◌, ◌≤◌, ◌<◌, ◌≡◌, Bool, true, false, ℤ}
use Rattle.std.proofs.Math.Path.{refl}
use Rattle.std.proofs.Common.{subst, mul-add, mul_comm, mul_left_comm, mul-le-mul, mul-le-mul_right}
use mathlib.Core.List.{List, [], ◌∷◌, Memᴰ}
use Rattle.std.proofs.Math.Nat.{add-mul}
use Rattle.std.proofs.Math.Decide.{dec_lt}
use native.Mathlib.Omega.{arith}
use Rattle.std.proofs.Math.ListN.{length, length-append}
use Rattle.qbf.specs.Formula.{Quantifier, existential, universal, Entry, entry, Prefix}
use Rattle.qbf.specs.Formula.Laws.{quantifiers_exclusive}
use Rattle.qbf.specs.Dependency.{depends}
use Rattle.qbf.proofs.Dependency.Laws.{depends_sound, depends_existential}
use Rattle.formula.specs.Decimal.Laws.{length_decimal}
use Rattle.formula.specs.Decode.{formula_of}
use Rattle.formula.specs.Prefix.{prefix_of, is_quantifier}
use Rattle.formula.specs.Tables.{Admitted}
use Rattle.formula.proofs.Theorems.Tables.Laws.{admitted_prefix_length, admitted_prefix_distinct, admitted_entries}
use Rattle.report.specs.Dependents.{if_dependent, dependents, universal_line, if_universal, entry_line, universal_lines, text_room}

-- How many entries have a quantifier.
abbrev one : Bool → ℕ
one true = 1
one false = 0

unfoldable count_of : Quantifier → Prefix → ℕ
count_of q [] = 0
count_of q (x ∷ P) = one (is_quantifier q x.quantifier) + count_of q P

counted : (P : Prefix) → count_of universal P + count_of existential P ≡ length P
unfolding count_of
counted [] = refl
counted (x ∷ P) = omega (arith, either x.quantifier, counted P)
  where
    either : (q : Quantifier) → one (is_quantifier universal q) + one (is_quantifier existential q) ≡ 1
    either existential = refl
    either universal = refl

-- A product is largest where its factors are equal: 4uv ≤ (u + v)².
product_by_difference : (u k : ℕ) → u + (u + k) ≤ 1024 → u * (u + k) ≤ 262144
product_by_difference u k h =
    let v : ℕ = u + k in
    let square : (u + v) * (u + v) ≤ 1024 * 1024 = mul-le-mul h h in
    let whole = mul-add (u + v) u v in
    let left = add-mul u v u in
    let right = add-mul u v v in
    let apart = mul-add v u k in
    let own = mul-add u u k in
    let turned = mul_comm v u in
    let more : u * k ≤ v * k = mul-le-mul_right k (omega arith) in
    omega (arith, square, whole, left, right, apart, own, turned, more)

product_bound : (u e : ℕ) → u + e ≤ 1024 → u * e ≤ 262144
product_bound u e h = go (dec_lt u e)
  where
    go : Dec (u < e) → u * e ≤ 262144
    go (yes k) =
        let same : u + (e - u) ≡ e = omega arith in
        rw same at (product_by_difference u (e - u) (omega arith))
    go (no k) =
        let same : e + (u - e) ≡ u = omega arith in
        rw (mul_comm u e) (rw same at (product_by_difference e (u - e) (omega arith)))

-- A space and four digits.
length_dependent : (b : Bool) (e : ℕ) → e ≤ 1024 → length (if_dependent b e) ≤ 5
unfolding if_dependent
length_dependent true e h = omega (arith, length_decimal 3 e (omega arith))
length_dependent false e h = omega arith

-- Four digits, the colon and LF, and five bytes for each existential.
abbrev line_length : Prefix → ℕ
line_length P = 6 + 5 * count_of existential P

module _ (p c : List ℤ) (a : Admitted p c) where
  ranged : (x : Entry) → Memᴰ x (prefix_of p) → x.variable ≤ 1024
  ranged x m = ((admitted_entries p c a).ranged x m).1

  -- No universal depends on anything.
  universal_depends_not : (u : ℕ) (x : Entry) → Memᴰ x (prefix_of p) → x.quantifier ≡ universal → depends (formula_of p c) u x.variable ≡ false
  universal_depends_not u x m q = go (depends (formula_of p c) u x.variable) refl
    where
      own : x ≡ entry x.variable universal
      own i = record { variable = x.variable; quantifier = q i }

      go : (b : Bool) → depends (formula_of p c) u x.variable ≡ b → b ≡ false
      go false e = refl
      go true e =
          absurd
          (quantifiers_exclusive
          (prefix_of p)
          (admitted_prefix_distinct p c a)
          (depends_existential (formula_of p c) u x.variable (depends_sound (formula_of p c) u x.variable e))
          (subst (λ (y : Entry). Memᴰ y (prefix_of p)) own m))

  length_entry : (u : ℕ) (x : Entry) → Memᴰ x (prefix_of p) → length (if_dependent (depends (formula_of p c) u x.variable) x.variable) ≤ 5 * one (is_quantifier existential x.quantifier)
  unfolding if_dependent
  length_entry u x m = go x.quantifier refl
    where
      go : (q : Quantifier) → x.quantifier ≡ q → length (if_dependent (depends (formula_of p c) u x.variable) x.variable) ≤ 5 * one (is_quantifier existential q)
      go existential e = length_dependent (depends (formula_of p c) u x.variable) x.variable (ranged x m)
      go universal e = rw (universal_depends_not u x m e) (omega arith)

  length_dependents : (u : ℕ) (P : Prefix) → ((x : Entry) → Memᴰ x P → Memᴰ x (prefix_of p)) → length (dependents (formula_of p c) u P) ≤ 5 * count_of existential P
  unfolding dependents count_of
  length_dependents u [] within = omega arith
  length_dependents u (x ∷ P) within =
      rw length-append
      (omega (arith, length_entry u x (within x (Memᴰ.head refl)), length_dependents u P (λ y m. within y (Memᴰ.tail m))))

  length_universal_line : (u : ℕ) → u ≤ 1024 → length (universal_line (formula_of p c) (prefix_of p) u) ≤ line_length (prefix_of p)
  unfolding universal_line
  length_universal_line u h =
      simp length-append
      (omega (arith, length_decimal 3 u (omega arith), length_dependents u (prefix_of p) (λ x m. m)))

  length_universal_lines :
      (P : Prefix) → ((x : Entry) → Memᴰ x P → x.variable ≤ 1024)
      → length (universal_lines (formula_of p c) (prefix_of p) P) ≤ count_of universal P * line_length (prefix_of p)
  unfolding universal_lines count_of entry_line
  length_universal_lines [] small = omega arith
  length_universal_lines (x ∷ P) small =
      rw (length-append, add-mul (one (is_quantifier universal x.quantifier)) (count_of universal P) (line_length (prefix_of p)))
      (omega (arith, own x.quantifier, length_universal_lines P (λ y m. small y (Memᴰ.tail m))))
    where
      own : (q : Quantifier) → length (if_universal q (universal_line (formula_of p c) (prefix_of p) x.variable)) ≤ one (is_quantifier universal q) * line_length (prefix_of p)
      own existential = omega arith
      own universal = omega (arith, length_universal_line x.variable (small x (Memᴰ.head refl)))

  pub universal_lines_short : length (universal_lines (formula_of p c) (prefix_of p) (prefix_of p)) ≤ text_room
  universal_lines_short =
      let u : ℕ = count_of universal (prefix_of p) in
      let e : ℕ = count_of existential (prefix_of p) in
      let l : u + e ≤ 1024 = omega (arith, counted (prefix_of p), admitted_prefix_length p c a) in
      omega (arith, length_universal_lines (prefix_of p) ranged, mul-add u 6 (5 * e), mul_left_comm u 5 e, product_bound u e l)

  -- The lines written from the place 0 on stay far below what a place can be.
  pub universal_lines_below : 0 + length (universal_lines (formula_of p c) (prefix_of p) (prefix_of p)) < 2 ^ 64
  universal_lines_below = omega (arith, universal_lines_short)
