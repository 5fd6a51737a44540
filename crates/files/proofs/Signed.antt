-- Tests on what a call answered and on the error number, as the code makes them, and what they say of `outcome_of`. All reasoning
-- on signs is here. Assumes nothing.
use Prim.Native.Nat.{ℕ}
use mathlib.Core.Path.{◌≡◌, refl, sym}
use mathlib.Core.Bool.{true, false}
use native.Mathlib.Omega.{arith}
use borrow.Author.Tests.{eq-eqb, ne_eqb, leb-false}
use borrow.Author.Rules.{rules}
use lib.Dec.{T}
use lib.IntN.{ℤ, pos, negsuc, nat_abs}
use lib.Signed.{le_z, non_neg}
use mir.Syntax.{w32, w64}
use mir.Val.{of_z, to_z, Fits, SFits}
use Rattle.files.specs.Reading.{interrupted, outcome_of}
use Rattle.files.specs.declared.reading.Outcome.TheVariants.{Moved, Interrupted, Failed}

-- an answer that is not negative is a count
pub record Count (got error : ℤ) : Type 0 where
  pub signed : T (non_neg got)
  pub fits : Fits w64 (nat_abs got)
  pub is : outcome_of got error ≡ Moved (nat_abs got)

pub count_answered : (got error : ℤ) → SFits w64 got → le_z (pos 0) got ≡ true → Count got error
unfolding outcome_of
count_answered (pos n) error h e = record { signed = tt; fits = record { fits = omega (arith, h.sfits) }; is = refl }
count_answered (negsuc n) error h e = let z : ◌≡◌ {A = ℕ} 0 1 = cc in absurd (omega arith)

interrupted_bits : (error : ℤ) → SFits w32 error → of_z w32 error ≡ 4 → interrupted error ≡ true
unfolding interrupted
interrupted_bits (pos n) h e = eq-eqb n 4 e
interrupted_bits (negsuc n) h e = absurd (omega (arith, h.sfits))

other_bits : (error : ℤ) → (of_z w32 error ≡ 4 → ⊥) → interrupted error ≡ false
unfolding interrupted
other_bits (pos n) e = ne_eqb n 4 e
other_bits (negsuc n) e = refl

pub interruption_answered : (got error : ℤ) → SFits w32 error → le_z (pos 0) got ≡ false → of_z w32 error ≡ 4 → outcome_of got error ≡ Interrupted
unfolding outcome_of
interruption_answered (pos n) error h f e = absurd (omega (arith, leb-false 0 n f))
interruption_answered (negsuc n) error h f e = rw (interrupted_bits error h e)

pub failure_answered : (got error : ℤ) → le_z (pos 0) got ≡ false → (of_z w32 error ≡ 4 → ⊥) → outcome_of got error ≡ Failed
unfolding outcome_of
failure_answered (pos n) error f e = absurd (omega (arith, leb-false 0 n f))
failure_answered (negsuc n) error f e = rw (other_bits error e)

-- The three answers as the code's goals have them.
pub count_told : (got error : ℤ) → SFits w64 got → le_z (pos 0) (to_z w64 (of_z w64 got)) ≡ true → Moved (nat_abs (to_z w64 (of_z w64 got))) ≡ outcome_of got error
count_told got error h e =
    let f : to_z w64 (of_z w64 got) ≡ got = search rules in
    rw f (sym (count_answered got error h (rw f at e)).is)

pub interruption_told :
    (got error : ℤ) → SFits w64 got → SFits w32 error → le_z (pos 0) (to_z w64 (of_z w64 got)) ≡ false → of_z w32 error ≡ 4 → Interrupted ≡ outcome_of got error
interruption_told got error h k e f =
    let z : to_z w64 (of_z w64 got) ≡ got = search rules in
    sym (interruption_answered got error k (rw z at e) f)

pub failure_told :
    (got error : ℤ) → SFits w64 got → le_z (pos 0) (to_z w64 (of_z w64 got)) ≡ false → (of_z w32 error ≡ 4 → ⊥) → Failed ≡ outcome_of got error
failure_told got error h e f =
    let z : to_z w64 (of_z w64 got) ≡ got = search rules in
    sym (failure_answered got error (rw z at e) f)
