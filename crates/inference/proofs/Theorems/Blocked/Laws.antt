-- A row that was made touches a clause exactly when the clause is blocked by its universal, and what blocks by the row is what blocks. Assumes
-- nothing.
use Rattle.std.specs.Prelude.{true}
use Rattle.std.specs.Prelude.{false}
use Rattle.std.specs.Prelude.{ℕ, ◌<◌, ◌≤◌, ◌≡◌, Bool, ◌&&◌, ◌+◌, eqb, length, get_or, take, drop, ℤ, nat_abs}
use Rattle.std.proofs.Math.Path.{refl, ap, ap₂}
use Rattle.std.proofs.Common.{sym, ◌∙◌, arith, eq-eqb, ne_eqb, length-take, add-one, drop-cons, drop_of_length-le}
use Rattle.std.proofs.Math.Bool.{◌||◌}
use mathlib.Core.List.Memᴰ
use mathlib.Core.List.{List, [], ◌∷◌}
use Rattle.std.proofs.Math.Decide.{dec_lt, ℕ_discrete}
use Rattle.std.specs.List.{list_any}
use Rattle.std.proofs.Math.ListN.{get_or-eq_default}
use Rattle.qbf.specs.Dependency.{depends}
use Rattle.bits.specs.Flags.Laws.{length_flags}
use Rattle.dependency.specs.Row.{row_of}
use Rattle.dependency.specs.Scratch.{row_at, row_in}
use Rattle.dependency.specs.Scratch.Laws.{row_depends}
use Rattle.formula.specs.Word.{word_of, variable_of}
use Rattle.formula.specs.Word.Laws.{variable_magnitude, variable_large}
use Rattle.formula.specs.Decode.{formula_of}
use Rattle.formula.specs.Free.{occurs}
use Rattle.formula.specs.Prefix.{prefix_of, with_blocks, Entries}
use Rattle.formula.specs.Prefix.Laws.{blocks_ranged, blocks_length}
use Rattle.formula.specs.Refusal.{no_blocker}
use Rattle.qbf.specs.Formula.{Prefix}
use Rattle.inference.specs.Words.{Words, AllInRange}
use Rattle.inference.specs.Steps.{blocked, leftmost, blocker_of}
use Rattle.inference.proofs.Theorems.Steps.Tests.{leftmost_same}
use Rattle.inference.specs.Scope.{scope_of}
use Rattle.inference.specs.Blocked.{touches, blocks_by}

module _ (prefix clauses : List ℤ) (u : ℕ) (row : List ℕ) (made : row ≡ row_of (formula_of prefix clauses) u) where
  asked : (e : ℕ) → e ≤ 1024 → eqb (get_or row e 0) 1 ≡ depends (formula_of prefix clauses) u e
  asked e h = row_depends (formula_of prefix clauses) u row made e h

  pub row_blocked : (C : Words) → AllInRange C → touches row C ≡ blocked (scope_of prefix clauses) u C
  unfolding touches blocked
  row_blocked [] r = refl
  row_blocked (x ∷ C) r = ap₂ ◌||◌ (asked (nat_abs x) (r x (Memᴰ.head refl)).1) (row_blocked C (λ y k. r y (Memᴰ.tail k)))

  pub row_blocker : Entries prefix → (C : Words) → leftmost (blocks_by row C) (with_blocks (prefix_of prefix)) ≡ blocker_of (scope_of prefix clauses) u C
  unfolding blocker_of blocks_by
  row_blocker r C =
      leftmost_same (blocks_by row C) (λ v. depends (formula_of prefix clauses) u v && occurs v C) (with_blocks (prefix_of prefix))
      (λ b m. ap (λ (t : Bool). t && occurs b.variable.0 C) (asked b.variable.0 (blocks_ranged 0 0 (prefix_of prefix) r.ranged b m)))

-- A word's variable, where it is a number of the row, is its magnitude; a magnitude past the row has no flag there.
pub variable_near : (w : ℤ) → variable_of (word_of w) ≤ 1024 → variable_of (word_of w) ≡ nat_abs w
variable_near w h = go (dec_lt 1024 (nat_abs w))
  where
    go : Dec (1024 < nat_abs w) → variable_of (word_of w) ≡ nat_abs w
    go (yes l) = let e = variable_large w l in absurd (omega arith)
    go (no m) = variable_magnitude w (omega arith)

-- A word is of a variable exactly where its magnitude is the variable's number.
pub variable_test : (w : ℤ) (n : ℕ) → n ≤ 1024 → eqb (variable_of (word_of w)) n ≡ eqb n (nat_abs w)
variable_test w n h = go (ℕ_discrete (variable_of (word_of w)) n)
  where
    go : Dec (variable_of (word_of w) ≡ n) → eqb (variable_of (word_of w)) n ≡ eqb n (nat_abs w)
    go (yes e) = eq-eqb (variable_of (word_of w)) n e ∙ sym (eq-eqb n (nat_abs w) (sym e ∙ variable_near w (omega arith)))
    go (no o) = ne_eqb (variable_of (word_of w)) n o ∙ sym (ne_eqb n (nat_abs w) (λ e. o (variable_magnitude w (omega arith) ∙ sym e)))

-- The tests of a clause as tests of its words.
pub touches_any : (row : List ℕ) (C : Words) → list_any (λ (x : ℤ). eqb (get_or row (nat_abs x) 0) 1) C ≡ touches row C
unfolding touches
touches_any row [] = refl
touches_any row (x ∷ C) = ap (λ (b : Bool). eqb (get_or row (nat_abs x) 0) 1 || b) (touches_any row C)

pub occurs_any : (n : ℕ) (C : Words) → list_any (λ (x : ℤ). eqb n (nat_abs x)) C ≡ occurs n C
unfolding occurs
occurs_any n [] = refl
occurs_any n (x ∷ C) = ap (λ (b : Bool). eqb n (nat_abs x) || b) (occurs_any n C)

row_short : (scratch : List ℕ) → length (row_in scratch) ≤ 1025
unfolding row_in
row_short scratch = omega (arith, length_flags (take 128 (drop row_at scratch)), length-take 128 (drop row_at scratch))

pub row_far : (scratch : List ℕ) (w : ℤ) → 1024 < variable_of (word_of w) → get_or (row_in scratch) (nat_abs w) 0 ≡ 0
row_far scratch w h = go (dec_lt 1024 (nat_abs w))
  where
    go : Dec (1024 < nat_abs w) → get_or (row_in scratch) (nat_abs w) 0 ≡ 0
    go (yes l) = get_or-eq_default (row_in scratch) 0 (omega (arith, l, row_short scratch))
    go (no m) = let e = variable_magnitude w (omega arith) in absurd (omega arith)

-- A word is of a variable exactly where its magnitude is the variable's number.
pub variable_is : (w : ℤ) (n : ℕ) → n ≤ 1024 → variable_of (word_of w) ≡ n → eqb n (nat_abs w) ≡ true
variable_is w n h e = eq-eqb n (nat_abs w) (sym e ∙ variable_near w (omega arith))

pub variable_other : (w : ℤ) (n : ℕ) → n ≤ 1024 → (variable_of (word_of w) ≡ n → ⊥) → eqb n (nat_abs w) ≡ false
variable_other w n h o = ne_eqb n (nat_abs w) (λ e. o (variable_magnitude w (omega arith) ∙ sym e))

-- The entries from a place on: that one first, or none.
pub blocks_drop : (P : Prefix) (i : ℕ) → i < length P → drop i (with_blocks P) ≡ get_or (with_blocks P) i no_blocker ∷ drop (i + 1) (with_blocks P)
blocks_drop P i h = rw (add-one i) (drop-cons (with_blocks P) i no_blocker (omega (arith, h, blocks_length 0 0 P)))

pub blocks_past : (P : Prefix) (i : ℕ) → length P ≤ i → drop i (with_blocks P) ≡ []
blocks_past P i h = drop_of_length-le (with_blocks P) (omega (arith, h, blocks_length 0 0 P))
