-- `entry_fits` compares with the number of entries that have room. Assumes nothing.
use Prim.Native.Nat.{ℕ, suc, ◌*◌, ◌/◌}
use mathlib.Core.Path.{◌≡◌, refl, sym}
use mathlib.Core.Bool.{Bool, true, false}
use native.Mathlib.Omega.{arith}
use borrow.Author.Tests.{ltb-true, ltb-false, le-leb, lt-leb}
use lib.Dec.{ltb}
use Rattle.formula.specs.Prefix.{entry_fits, entry_words}
use Rattle.formula.proofs.prefix.entry_fits.Goals as goal

fits_by : (room n : ℕ) (b : Bool) → ltb n (room / 3) ≡ b → b ≡ entry_fits room n
unfolding entry_fits entry_words
fits_by room n true e = let h = ltb-true n (room / 3) e in sym (le-leb (3 * suc n) room (omega arith))
fits_by room n false e = let h = ltb-false n (room / 3) e in sym (lt-leb (3 * suc n) room (omega arith))

pub returns : goal.returns
returns c = fits_by c.args.room c.args.entries _ refl
