-- `is_zero` compares with 0: the bits of a word are 0 where the word is. Assumes nothing.
use mathlib.Core.Path.{◌≡◌, refl, sym, ap}
use mathlib.Core.Bool.{Bool, true, false}
use borrow.Author.Tests.{eqb-true, eqb-false}
use lib.Dec.{eqb}
use lib.IntN.{ℤ}
use mir.Syntax.{w32}
use mir.Val.{of_z, SFits}
use Rattle.formula.specs.Word.{is_zero}
use Rattle.formula.specs.Word.Laws.{zero_complete, apart_zero}
use Rattle.formula.proofs.Signed.{bits_zero}
use Rattle.formula.proofs.word.Word.is_zero.Goals as goal

zero_bits : (w : ℤ) → SFits w32 w → eqb (of_z w32 w) 0 ≡ is_zero w
zero_bits w h = go (eqb (of_z w32 w) 0) refl
  where
    go : (b : Bool) → eqb (of_z w32 w) 0 ≡ b → b ≡ is_zero w
    go true e = sym (zero_complete w (bits_zero w h (eqb-true (of_z w32 w) 0 e)))
    go false e = sym (apart_zero w (λ q. eqb-false (of_z w32 w) 0 e (ap (of_z w32) q)))

pub returns : goal.returns
returns c = zero_bits c.args.word c.ranges.word
