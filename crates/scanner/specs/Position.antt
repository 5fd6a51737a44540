-- Lines and columns of a text (02, P1), apart from any reader: both count from 1, LF ends a line, every byte is one column. The place at
-- the text's end is the one just after the last byte. How the code moves on is in Position/Cursor.antt, laws are in
-- proofs/Theorems/Position/Laws.antt.
pub mod Cursor
use Rattle.std.specs.Prelude.{ℕ, suc, ◌+◌, cond, List, [], ◌∷◌, take, eqb}
use Rattle.scanner.specs.declared.position.Position.{Position}

-- 01's bound on the bytes of a text: within it no place, line or column overflows.
abbrev pub text_bound : ℕ
text_bound = 1048576

abbrev pub line_feed : ℕ
line_feed = 10

-- How many LFs there are.
unfoldable pub feeds : List ℕ → ℕ
feeds [] = 0
feeds (b ∷ bs) = cond (eqb b line_feed) 1 0 + feeds bs

-- How many bytes follow the last LF; without one, all of them after n.
unfoldable pub since_feed : ℕ → List ℕ → ℕ
since_feed n [] = n
since_feed n (b ∷ bs) = since_feed (cond (eqb b line_feed) 0 (suc n)) bs

-- The line and the column of the byte at a place: 1 and the LFs before it; 1 and the bytes before it since the last LF.
abbrev pub line_at : List ℕ → ℕ → ℕ
line_at text at = 1 + feeds (take at text)

abbrev pub column_at : List ℕ → ℕ → ℕ
column_at text at = 1 + since_feed 0 (take at text)

abbrev pub position_at : List ℕ → ℕ → Position
position_at text at = record { place = at; line = line_at text at; column = column_at text at }
