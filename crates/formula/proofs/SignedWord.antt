-- A variable with a sign as a 32-bit word: it fits, and its bits stand for it. Assumes nothing.
use Prim.Native.Nat.{ℕ, ◌≤◌}
use mathlib.Core.Path.{◌≡◌}
use mathlib.Core.Bool.{Bool, true, false}
use native.Mathlib.Omega.{arith}
use lib.IntN.{pos}
use mir.Syntax.{w32}
use mir.Val.{to_z, of_z, SFits}
use mir.Facts.{to_z-of_z, to_z_pos}
use Rattle.formula.specs.Bounds.{variable_bound}
use Rattle.formula.specs.Word.{signed}
use Rattle.formula.proofs.Signed.{negated_fits}

pub number_word : (n : ℕ) → n ≤ variable_bound → to_z w32 n ≡ pos n
number_word n h = to_z_pos w32 (omega arith)

pub signed_fits : (positive : Bool) (n : ℕ) → n ≤ variable_bound → SFits w32 (signed positive n)
signed_fits true n h = record { sfits = omega arith }
signed_fits false n h = negated_fits (pos n) h

pub signed_back : (positive : Bool) (n : ℕ) → n ≤ variable_bound → to_z w32 (of_z w32 (signed positive n)) ≡ signed positive n
signed_back positive n h = to_z-of_z (signed_fits positive n h)
