-- The scratch that a row is made in, as its callers see it: how many bytes are asked for, the row that stands in it. Laws are in Scratch/Laws.antt.
pub mod Laws
use Rattle.std.specs.Prelude.{ℕ, ◌≡◌, List, ◌∷◌, take, drop, replicate}
use Rattle.bits.specs.Flags.{flags}
use Rattle.qbf.specs.Formula.{Formula}
use Rattle.dependency.specs.Row.{row_of}

-- The bytes that the entries of 01 ask for, and the small ones of 02's P8.
abbrev pub scratch_bound : ℕ
scratch_bound = 8200

abbrev pub small_bound : ℕ
small_bound = 640

-- Where in them the row begins, and what comes later: `ROW` and `LATER` of the code.
abbrev pub row_at : ℕ
row_at = 256

abbrev pub later : ℕ
later = 384

-- The row, a flag a variable; a variable 0 has none.
unfoldable pub row_in : List ℕ → List ℕ
row_in scratch = 0 ∷ flags (take 128 (drop row_at scratch))

-- The row of u stands in scratch, and all else of it is 0.
pub record RowMade (F : Formula) (u : ℕ) (scratch : List ℕ) : Type 0 where
  pub row : row_in scratch ≡ row_of F u
  pub front : take row_at scratch ≡ replicate row_at 0
  pub rest : drop later scratch ≡ replicate 256 0
