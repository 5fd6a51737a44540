-- How the code moves through a text: one byte further, so many bytes further on the same line; and what its position always is.
use Rattle.std.specs.Prelude.{ℕ, ◌+◌, ◌≤◌, ◌≡◌, cond, List, length, eqb}
use Rattle.scanner.specs.Position.{line_feed, position_at}
use Rattle.scanner.specs.declared.position.Position.{Position}

abbrev pub position : (place line column : ℕ) → Position
position place line column = record { place = place; line = line; column = column }

-- LF ends a line; what is passed along holds none.
abbrev pub past : Position → ℕ → Position
past p b =
    record {
      place = p.place + 1;
      line = cond (eqb b line_feed) (p.line + 1) p.line;
      column = cond (eqb b line_feed) 1 (p.column + 1);
    }

abbrev pub along : Position → ℕ → Position
along p n = record { place = p.place + n; line = p.line; column = p.column + n }

-- The position is that of a byte of the text, or of its end.
pub record PositionIn (text : List ℕ) (p : Position) : Type 0 where
  pub stands : p ≡ position_at text p.place
  pub inside : p.place ≤ length text
