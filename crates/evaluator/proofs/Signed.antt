-- A signed word, as the code reads it. Assumes nothing.
use Prim.Native.Nat.{◌<◌}
use mathlib.Core.Path.{◌≡◌}
use lib.IntN.{ℤ}
use lib.Signed.{mag}
use mir.Syntax.{w32}
use mir.Val.{to_z, of_z}
use mir.Facts.{to_z-of_z}

-- a word read back from its bits
pub read_back : (z : ℤ) → mag z < 2147483648 → to_z w32 (of_z w32 z) ≡ z
read_back z h = to_z-of_z {w = w32} {z = z} (record { sfits = h })
