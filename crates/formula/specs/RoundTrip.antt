-- What is written is read back (01, "Formula text"). The theorems are in proofs/Theorems/RoundTrip/Laws.antt; what each
-- piece of a text does to the reader is in Scan (bytes and tokens), and beside the theorems in Prefix (header and prefix lines) and Clauses
-- (clause lines).
pub mod Scan
use Rattle.std.specs.Prelude.{Result}
use Rattle.formula.specs.declared.refusal.Refusal.{Refusal}
use Rattle.formula.specs.declared.read.Filled.{Filled}
use Rattle.std.specs.Prelude.{◌≡◌, List, length, ℤ}
use Rattle.formula.specs.Tables.{zeros}
use Rattle.formula.specs.Text.{padded, filled}

-- What the two entries' contracts say together: the reader that is given the used part of what the writer left, and tables
-- with room, answers the lengths and C, and leaves the tables that were written, zeros behind them.
pub record ReadBack (p c prefix clauses prefix' clauses' : List ℤ) (answer : Result Filled Refusal) : Type 0 where
  pub answers : answer ≡ filled (length p) (length c) (zeros c)
  pub fills_prefix : prefix' ≡ padded (length prefix) p
  pub fills_clauses : clauses' ≡ padded (length clauses) c
