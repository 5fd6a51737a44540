-- A proof file as 01 lays it out: an optional note, the step words (little-endian), then the trailer. That such a file is read
-- to its words is in Layout/Laws.antt.
pub mod Laws
use Rattle.std.specs.Prelude.{ℕ, ◌*◌, ◌/◌, ◌%◌, List, [], ◌∷◌, ◌++◌, ℤ, length}
use Rattle.std.specs.Int.{w32}
use Rattle.std.proofs.Common.{of_z}

-- The four bytes of a number below 2³², the lowest first.
unfoldable pub bytes4 : ℕ → List ℕ
bytes4 n = n % 256 ∷ n / 256 % 256 ∷ n / 65536 % 256 ∷ n / 16777216 ∷ []

-- The bytes of words: a negative word w has the bits of w + 2³² (`of_z w32`).
unfoldable pub word_bytes : List ℤ → List ℕ
word_bytes [] = []
word_bytes (w ∷ words) = bytes4 (of_z w32 w) ++ word_bytes words

-- Distance, C, and the mark 51 44 52 31, hexadecimal.
unfoldable pub trailer_bytes : ℕ → ℕ → List ℕ
trailer_bytes d count = bytes4 d ++ (bytes4 count ++ (0x51 ∷ 0x44 ∷ 0x52 ∷ 0x31 ∷ []))

unfoldable pub file_of : (note : List ℕ) → List ℤ → ℕ → List ℕ
file_of note words count = note ++ (word_bytes words ++ trailer_bytes (4 * length words) count)
