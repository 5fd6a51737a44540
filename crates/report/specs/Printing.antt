-- The end of a printing: what `finish` answers and leaves, given the place behind what was written. Laws are in
-- Printing/Laws.antt: a text stored from the start and finished is printed.
pub mod Laws
pub mod Examples
use Rattle.std.specs.Prelude.{ℕ, ◌≤◌, ◌≡◌, List, length, leb}
use Rattle.formula.specs.Clear.{clear_from, kept_up_to}
use Rattle.formula.specs.Store.{Stores}
use Rattle.report.specs.Line.{used, held}

-- `n` is the place behind what was written.
pub record Finishes (buffer : List ℕ) (n answer : ℕ) (after : List ℕ) : Type 0 where
  pub answers : answer ≡ kept_up_to (leb n (length buffer)) n
  pub leaves : after ≡ clear_from 0 (kept_up_to (leb n (length buffer)) n) buffer

-- A text of at most `most` bytes is stored from a buffer's start.
pub record StoresShort (most : ℕ) (buffer text after : List ℕ) (next : ℕ) : Type 0 where
  pub stores : Stores buffer 0 text after next
  pub short : length text ≤ most

-- A text is printed into a buffer of `room` bytes.
pub record Prints (room : ℕ) (text : List ℕ) (answer : ℕ) (after : List ℕ) : Type 0 where
  pub answers : answer ≡ used text room
  pub prints : after ≡ held text room
