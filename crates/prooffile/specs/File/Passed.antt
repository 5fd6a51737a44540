-- What a proof file that is read says, without an order of tests: its trailer, its bounds, its words.
use Rattle.std.specs.Prelude.{ℕ, ◌+◌, ◌*◌, ◌≤◌, ◌<◌, ◌≡◌, true, List, ℤ, length, get_or, take}
use Rattle.std.proofs.Math.Option.{none}
use Rattle.formula.specs.Bounds.{proof_bound}
use Rattle.prooffile.specs.File.{words_of, mark_at, trailer_start, distance, clause_count, step_bytes, step_count, proof_refusal, read, proof_reading}

-- Each is a byte.
abbrev pub Bytes : List ℕ → Type 0
Bytes bytes = (i : ℕ) → get_or bytes i 0 < 256

-- A trailer ends the file.
pub record Trailer (file : List ℕ) : Type 0 where
  pub long : 12 ≤ length file
  pub marked : mark_at file (trailer_start file + 8) ≡ true
  pub whole : distance file ≡ 4 * step_count file
  pub within : distance file ≤ trailer_start file

-- A file that is not turned away.
pub record Passed (file : List ℕ) (count room : ℕ) : Type 0 where
  pub trailer : Trailer file
  pub bounded : step_count file ≤ proof_bound
  pub same : clause_count file ≡ count
  pub fits : step_count file ≤ room

-- A file whose n step words are read.
pub record Counted (file : List ℕ) (count room n : ℕ) : Type 0 where
  pub unrefused : proof_refusal file count room ≡ none
  pub passed : Passed file count room
  pub steps : step_count file ≡ n

-- A file that is read: its words are those of the steps, as many as the trailer says, within bound and room.
pub record ReadFile (file : List ℕ) (count room : ℕ) (words : List ℤ) : Type 0 where
  pub passed : Passed file count room
  pub are : words ≡ words_of (step_bytes file)
  pub many : length words ≡ step_count file

-- What the answer n says of the table of steps: its first n words are those of the file, within bound and room.
pub record StepsRead (file : List ℕ) (count : ℕ) (before after : List ℤ) (n : ℕ) : Type 0 where
  pub words : List ℤ
  pub reading : proof_reading file count (length before) ≡ read words
  pub many : length words ≡ n
  pub stand : take n after ≡ words
  pub bounded : n ≤ proof_bound
  pub room : n ≤ length before
