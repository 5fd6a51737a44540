-- The room of 01's two programs, and what the functions promise that lend exactly this room. Laws are in Program/Laws.antt.
pub mod Laws
use Rattle.std.specs.Prelude.{ℕ, ◌-◌, ◌≤◌, ◌≡◌, Bool, true, false, List, ◌++◌, length, take, replicate}
use Rattle.formula.specs.Bounds.{prefix_bound}
use Rattle.formula.specs.Text.{Reading, read, refused}
use Rattle.dependency.specs.Scratch.{scratch_bound}
use Rattle.report.specs.Line.{accepted_text, file_bound, line_room, settled, used, held}
use Rattle.report.specs.Check.{Room, check_line, DenotesLost}
use Rattle.report.specs.Dependents.{dependency_text, text_room}

-- 01, "Programs": files of "65,536 bytes each at most", "with room for 1,024 variables and 16,384 each of clause words, step words
-- and starts"; a variable has three words (02, P6); scratch is what a row and a proof ask for.
abbrev pub program_room : Room
program_room =
    record {
      file = file_bound;
      prefix = prefix_bound;
      clauses = 16384;
      steps = 16384;
      scratch = scratch_bound;
      offsets = 16384;
    }

-- A text is printed whole into a buffer of `room` bytes: zeros follow it.
pub record Whole (text : List ℕ) (room answer : ℕ) (after : List ℕ) : Type 0 where
  pub answers : answer ≡ length text
  pub prints : after ≡ text ++ replicate (room - length text) 0

-- What `program_line` promises: `line_room` bytes always do, and an `accepted` line is to be trusted.
pub record ProgramLine (formula proof line line' : List ℕ) (answer : ℕ) : Type 0 where
  pub answers : answer ≡ used (check_line program_room formula proof) (length line)
  pub prints : line' ≡ held (check_line program_room formula proof) (length line)
  pub whole : line_room ≤ length line → Whole (check_line program_room formula proof) (length line) answer line'
  pub accepted_lost : take 9 line' ≡ accepted_text → DenotesLost program_room formula

-- What `program_text` promises: `text_room` bytes always do.
pub record ProgramText (formula text text' : List ℕ) (answer : ℕ) : Type 0 where
  pub answers : answer ≡ used (dependency_text program_room formula) (length text)
  pub prints : text' ≡ held (dependency_text program_room formula) (length text)
  pub whole : text_room ≤ length text → Whole (dependency_text program_room formula) (length text) answer text'

-- Whether the formula is settled as read: the proof file is looked at only then.
abbrev pub is_read : Reading → Bool
is_read (read prefix clauses count) = true
is_read (refused r) = false

unfoldable pub formula_read : Room → (formula : List ℕ) → Bool
formula_read room formula = is_read (settled room.file formula room.prefix room.clauses)
