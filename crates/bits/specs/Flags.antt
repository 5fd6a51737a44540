-- Bytes as flags, eight to a byte, the lowest bit first, each 0 or 1. Laws are in Flags/Laws.antt.
pub mod Laws
use Rattle.std.specs.Prelude.{ℕ, ◌+◌, ◌/◌, ◌%◌, ◌^◌, ◌<◌, ◌≡◌, ◌≢◌, Bool, true, false, List, [], ◌∷◌}

unfoldable pub flags : List ℕ → List ℕ
flags [] = []
flags (b ∷ bs) =
    b / 1 % 2 ∷ b / 2 % 2 ∷ b / 4 % 2 ∷ b / 8 % 2 ∷ b / 16 % 2 ∷ b / 32 % 2 ∷ b / 64 % 2 ∷ b / 128 % 2 ∷ flags bs

-- A test as a flag.
abbrev pub flag : Bool → ℕ
flag true = 1
flag false = 0

-- The sum of numbers: of flags, how many are 1.
unfoldable pub total : List ℕ → ℕ
total [] = 0
total (x ∷ xs) = x + total xs

-- A byte with its bit k stored, its other bits as they were.
pub record BitStored (byte k value byte' : ℕ) : Type 0 where
  pub own : byte' / 2 ^ k % 2 ≡ value
  pub other : (j : ℕ) → j < 8 → j ≢ k → byte' / 2 ^ j % 2 ≡ byte / 2 ^ j % 2
