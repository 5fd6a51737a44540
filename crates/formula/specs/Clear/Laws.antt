-- Laws of clearing: one store of it, a whole buffer, what stands before the place is kept; and what was stored from the start of a
-- buffer that is then cleared. Definitions: Clear. Assumes nothing.
use Prim.Native.Nat.{ℕ, zero, suc, ◌+◌, ◌-◌, ◌≤◌, ◌<◌}
use Rattle.std.specs.Prelude.{◌≡◌, length, set, replicate, drop}
use Rattle.std.proofs.Math.Path.{refl, ap}
use Rattle.std.proofs.Common.{◌∙◌, le_of_suc-le-suc, not-suc-le-zero, arith, length-drop}
use mathlib.Core.List.{List, [], ◌∷◌, ◌++◌}
use Rattle.std.proofs.lemmas.List.Edits.{sets, sets-eq}
use Rattle.formula.specs.Clear.{clear_from, cleared, filled_up}

module _ {A : Type 0} where
  -- One store moves the place on.
  pub clear_step : (z : A) (i : ℕ) (l : List A) → i < length l → clear_from z (suc i) (set l i z) ≡ clear_from z i l
  unfolding clear_from
  clear_step z i [] h = absurd (not-suc-le-zero h)
  clear_step z zero (x ∷ l) h = refl
  clear_step z (suc i) (x ∷ l) h = ap {B = List A} (λ r. x ∷ r) (clear_step z i l (le_of_suc-le-suc h))

  -- Past the end nothing is left to clear.
  pub clear_end : (z : A) (i : ℕ) (l : List A) → length l ≤ i → clear_from z i l ≡ l
  unfolding clear_from
  clear_end z zero [] h = refl
  clear_end z (suc i) [] h = refl
  clear_end z zero (x ∷ l) h = absurd (not-suc-le-zero h)
  clear_end z (suc i) (x ∷ l) h = ap {B = List A} (λ r. x ∷ r) (clear_end z i l (le_of_suc-le-suc h))

  -- The whole buffer.
  pub clear_all : (z : A) (l : List A) → clear_from z 0 l ≡ cleared z l
  unfolding clear_from
  clear_all z l = refl

  -- Behind the first elements.
  pub clear_append : (z : A) (xs ys : List A) → clear_from z (length xs) (xs ++ ys) ≡ xs ++ cleared z ys
  unfolding clear_from
  clear_append z [] ys = refl
  clear_append z (x ∷ xs) ys = ap {B = List A} (λ r. x ∷ r) (clear_append z xs ys)

  -- What was stored from the start of a buffer and fits is kept, and the rest cleared.
  pub clear_stored : (z : A) (buffer l : List A) → length l ≤ length buffer → clear_from z (length l) (sets buffer 0 l) ≡ filled_up z (length buffer) l
  clear_stored z buffer l h =
      let e : 0 + length l ≡ length l = omega arith in
      let left : length (drop (0 + length l) buffer) ≡ length buffer - length l = rw e (length-drop (length l) buffer) in
      ap (clear_from z (length l)) (sets-eq l buffer 0 (omega arith))
      ∙ clear_append z l (drop (0 + length l) buffer)
      ∙ ap {B = List A} (λ n. l ++ replicate n z) left
