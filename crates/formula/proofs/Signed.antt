-- Tests on a signed word, as the code makes them, and what they say of `word_of`. All reasoning on the sign of a word is here.
-- Assumes nothing.
use Rattle.std.specs.Prelude.{Option, Some, None, cond}
use Rattle.formula.specs.declared.literal.Variable.{Variable}
use Rattle.formula.specs.declared.literal.Literal.{Literal}
use Prim.Native.Nat.{zero, suc, ◌≤◌}
use mathlib.Core.Path.{◌≡◌, refl, ap}
use mathlib.Core.Bool.{Bool, true, false}
use native.Mathlib.Omega.{arith}
use borrow.Author.Tests.{le-leb}
use lib.Dec.{leb}
use lib.IntN.{ℤ, pos, negsuc, neg_ℤ, nat_abs}
use lib.Signed.{lt_z}
use mir.Syntax.{w32}
use mir.Val.{of_z, SFits}
use Rattle.formula.specs.Bounds.{variable_bound, in_range, variable_fit, literal_fit}
use Rattle.formula.specs.Word.{positive, negative, word_of, is_zero}
use Rattle.formula.specs.declared.word.Word.{Word}
use Rattle.formula.specs.declared.word.Word.TheVariants.{Zero, TooLarge, Positive, Negative}

-- a word whose bits are 0
pub bits_zero : (z : ℤ) → SFits w32 z → of_z w32 z ≡ 0 → z ≡ pos 0
bits_zero (pos n) h e = ap pos e
bits_zero (negsuc n) h e = absurd (omega (arith, h.sfits))

-- What a word is, by whether it is 0, whether it is above 0, and what the constructor of variables says of its magnitude.
abbrev pub by_sign : (zero above : Bool) → Option Variable → Word
by_sign z true (Some v) = Positive v
by_sign z false (Some v) = Negative v
by_sign z a None = cond z Zero TooLarge

pub word_by_sign :
    (z : ℤ) (a : Bool) (f : Option Variable)
    → lt_z (pos 0) z ≡ a → variable_fit (in_range (nat_abs z) variable_bound) (nat_abs z) ≡ f → word_of z ≡ by_sign (is_zero z) a f
unfolding word_of is_zero
word_by_sign (pos zero) a f e k = rw (← e, ← k) refl
word_by_sign (pos (suc n)) a f e k = rw (← e, ← k, le-leb 1 (suc n) (omega arith)) (go (leb (suc n) variable_bound))
  where
    go : (b : Bool) → positive b (suc n) ≡ by_sign false true (variable_fit b (suc n))
    go true = refl
    go false = refl
word_by_sign (negsuc n) a f e k = rw (← e, ← k, le-leb 1 (suc n) (omega arith)) (go (leb (suc n) variable_bound))
  where
    go : (b : Bool) → negative b (suc n) ≡ by_sign false false (variable_fit b (suc n))
    go true = refl
    go false = refl

-- A word as a literal, by what it is.
abbrev as_literal : ℤ → Word → Option Literal
as_literal z Zero = None
as_literal z TooLarge = None
as_literal z (Positive v) = Some (record { 0 = z })
as_literal z (Negative v) = Some (record { 0 = z })

pub word_literal : (z : ℤ) (w : Word) → w ≡ word_of z → as_literal z w ≡ literal_fit (in_range (nat_abs z) variable_bound) z
unfolding word_of
word_literal (pos zero) w e = rw e
word_literal (pos (suc n)) w e = rw (e, le-leb 1 (suc n) (omega arith)) (go (leb (suc n) variable_bound))
  where
    go : (b : Bool) → as_literal (pos (suc n)) (positive b (suc n)) ≡ literal_fit b (pos (suc n))
    go true = refl
    go false = refl
word_literal (negsuc n) w e = rw (e, le-leb 1 (suc n) (omega arith)) (go (leb (suc n) variable_bound))
  where
    go : (b : Bool) → as_literal (negsuc n) (negative b (suc n)) ≡ literal_fit b (negsuc n)
    go true = refl
    go false = refl

-- negation within the range does not overflow
pub negated_fits : (z : ℤ) → nat_abs z ≤ 1024 → SFits w32 (neg_ℤ z)
negated_fits (pos zero) h = record { sfits = omega arith }
negated_fits (pos (suc n)) h = record { sfits = omega arith }
negated_fits (negsuc n) h = record { sfits = omega arith }
