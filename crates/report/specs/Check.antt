-- The line of the first program (01, "Programs") from the bytes of its two files: the formula is settled before the proof file
-- is looked at. Then the contract of `check_line`, with the claim that an `accepted` line is to be trusted for. Laws are in
-- Check/Laws.antt.
pub mod Laws
use Rattle.std.specs.Prelude.{Err, Ok}
use Rattle.checker.specs.Verdict.{Verdict, accept}
use Rattle.std.specs.Prelude.{ℕ, ◌≤◌, ◌≡◌, List, length, take, replicate, leb, ℤ, pos}
use Rattle.qbf.specs.Play.{Lost}
use Rattle.formula.specs.Decode.{formula_of}
use Rattle.formula.specs.Prefix.{entry_count}
use Rattle.formula.specs.Refusal.{refusal, require}
use Rattle.formula.specs.declared.refusal.Reason.TheVariants.{Oversized}
use Rattle.formula.specs.Text.{Reading, read, refused, reading}
use Rattle.prooffile.specs.File.{ProofReading, proof_reading}
use Rattle.prooffile.specs.File.{read as readSteps, refused as refusedFile}
use Rattle.inference.specs.Rules.{plain_rules}
use Rattle.checker.specs.Verdict.{verdict_of}
use Rattle.report.specs.Line.{accepted_text, accepted_line, refused_line, line_room, settled, used, held}

-- The largest file taken, in bytes, and the lengths of the buffers lent, in words and bytes.
pub record Room : Type 0 where
  pub file : ℕ
  pub prefix : ℕ
  pub clauses : ℕ
  pub steps : ℕ
  pub scratch : ℕ
  pub offsets : ℕ

-- The room that buffers lent give.
abbrev pub lent : (file : ℕ) (prefix clauses steps : List ℤ) (scratch offsets : List ℕ) → Room
lent file prefix clauses steps scratch offsets =
    record {
      file = file;
      prefix = length prefix;
      clauses = length clauses;
      steps = length steps;
      scratch = length scratch;
      offsets = length offsets;
    }

abbrev pub verdict_line : (variables clauses : ℕ) → Verdict → List ℕ
verdict_line variables clauses (Ok a) = accepted_line variables clauses a.steps a.empty.0
verdict_line variables clauses (Err r) = refused_line r

-- What the proof file is read as: 2 on the file's length comes ahead of all else in it.
unfoldable pub settled_proof : (bound : ℕ) → List ℕ → (count room : ℕ) → ProofReading
settled_proof bound file count room = require (leb (length file) bound) (refusedFile (refusal Oversized 0)) (proof_reading file count room)

-- The steps of the proof file are known, or it is turned away; `scratch` and `offsets` are the lengths of what is lent.
unfoldable pub steps_line : (scratch offsets : ℕ) (prefix clauses : List ℤ) (count : ℕ) → ProofReading → List ℕ
steps_line scratch offsets prefix clauses count (readSteps steps) = verdict_line (entry_count prefix) count (verdict_of plain_rules prefix clauses steps scratch offsets)
steps_line scratch offsets prefix clauses count (refusedFile r) = refused_line r

-- The formula is settled, then the proof file.
abbrev pub proof_line : Room → (proof : List ℕ) → Reading → List ℕ
proof_line room proof (read prefix clauses count) =
    steps_line room.scratch room.offsets prefix clauses count (settled_proof room.file proof count room.steps)
proof_line room proof (refused r) = refused_line r

unfoldable pub check_line : Room → (formula proof : List ℕ) → List ℕ
check_line room formula proof = proof_line room proof (settled room.file formula room.prefix room.clauses)

-- The text denotes a formula whose game is lost.
pub record DenotesLost (room : Room) (formula : List ℕ) : Type 0 where
  pub prefix : List ℤ
  pub clauses : List ℤ
  pub count : ℕ
  pub denotes : reading formula room.prefix room.clauses ≡ read prefix clauses count
  pub lost : Lost (formula_of prefix clauses)

-- What `check_line` promises; `line_room` bytes hold every line. Its tables, scratch and clause offsets end as zeros, each of its own length.
pub record LineChecked (room : Room) (formula proof line line' : List ℕ) (answer : ℕ) (prefix' clauses' steps' : List ℤ) (scratch' offsets' : List ℕ) : Type 0 where
  pub answers : answer ≡ used (check_line room formula proof) (length line)
  pub prints : line' ≡ held (check_line room formula proof) (length line)
  pub short : length (check_line room formula proof) ≤ line_room
  pub prefix_cleared : prefix' ≡ replicate room.prefix (pos 0)
  pub clauses_cleared : clauses' ≡ replicate room.clauses (pos 0)
  pub steps_cleared : steps' ≡ replicate room.steps (pos 0)
  pub scratch_cleared : scratch' ≡ replicate room.scratch 0
  pub offsets_cleared : offsets' ≡ replicate room.offsets 0
  -- The headline: where the line is an `accepted` line, the text denotes a formula whose game is lost.
  pub accepted_lost : take 9 line' ≡ accepted_text → DenotesLost room formula
