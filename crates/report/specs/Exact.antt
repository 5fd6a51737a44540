-- Wish 2 from the bytes of the two files to the line (01, "Formula text", "Proof file", "Programs"): what it is that two files
-- refute, and the bounds and room that this is asked within. That the line is an `accepted` line exactly then, with those numbers, is
-- in Exact/Laws.antt.
pub mod Laws
pub mod Examples
use Rattle.std.specs.Prelude.{ℕ, ◌≤◌, ◌≡◌, List, length, get_or, ℤ, pos}
use Rattle.std.specs.Int.{w32}
use Rattle.std.proofs.Common.{SFits}
use Rattle.formula.specs.Text.{read, reading}
use Rattle.prooffile.specs.File.Layout.{file_of}
use Rattle.checker.specs.Refutation.{Refutation, Within}
use Rattle.report.specs.Line.{accepted_line}
use Rattle.report.specs.Check.{Room}

-- The line is `accepted V C steps empty`, for some numbers.
pub record AcceptedLine (line : List ℕ) : Type 0 where
  pub variables : ℕ
  pub clauses : ℕ
  pub steps : ℕ
  pub empty : ℕ
  pub is : line ≡ accepted_line variables clauses steps empty

-- The text is read to tables; the proof file is laid out as 01 has it, a note, the step words and the trailer, for a formula of that
-- many clauses; and the step words are a refutation of these tables. Words are signed, of 32 bits.
pub record Refuting (room : Room) (formula proof : List ℕ) : Type 0 where
  pub prefix : List ℤ
  pub clauses : List ℤ
  pub count : ℕ
  pub reads : reading formula room.prefix room.clauses ≡ read prefix clauses count
  pub note : List ℕ
  pub words : List ℤ
  pub signed : (i : ℕ) → SFits w32 (get_or words i (pos 0))
  pub laid_out : proof ≡ file_of note words count
  pub refutation : Refutation prefix clauses words

-- The files are within bounds and room: neither is longer than the largest taken, and whatever tables and step words they hold, the
-- step words find room and so does the check of them. Room for the tables is what `reading` goes by.
pub record FilesWithin (room : Room) (formula proof : List ℕ) : Type 0 where
  pub formula_fits : length formula ≤ room.file
  pub proof_fits : length proof ≤ room.file
  pub steps_fit :
      (prefix clauses : List ℤ) (count : ℕ) → reading formula room.prefix room.clauses ≡ read prefix clauses count
      → (note : List ℕ) (words : List ℤ) → proof ≡ file_of note words count
      → (length words ≤ room.steps) × Within clauses words room.scratch room.offsets
