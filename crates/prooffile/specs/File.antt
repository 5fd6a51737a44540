-- The proof file (01, "Proof file"): a note that is not read, the step words, and a trailer of 12 bytes that points back. Refusals
-- in 01's order for a trailer: 11, 2, 12, 3, all at place 0. What a file that is read says, without an order, is in
-- File/Passed.antt; the layout that 01 gives a file, and that those files and no others are read, in File/Layout.antt.
pub mod Passed
pub mod Laws
pub mod Layout
pub mod Examples
use Rattle.std.specs.Prelude.{Result, Ok, Err}
use Rattle.std.specs.Prelude.{ℕ, ◌+◌, ◌-◌, ◌*◌, ◌/◌, ◌%◌, ◌≡◌, Bool, ◌&&◌, List, [], ◌∷◌, ◌++◌, leb, eqb, ℤ, pos, length, get_or, take, drop, replicate}
use Rattle.std.proofs.Math.Option.{Option, none, some}
use Rattle.std.specs.Int.{w32}
use Rattle.std.proofs.Common.{to_z}
use Rattle.formula.specs.Bounds.{proof_bound}
use Rattle.formula.specs.Refusal.{refusal, require, unless}
use Rattle.formula.specs.declared.refusal.Reason.{Reason}
use Rattle.formula.specs.declared.refusal.Reason.TheVariants.{Oversized, NoRoom, NoTrailer, OtherFormula}
use Rattle.formula.specs.declared.refusal.Refusal.{Refusal}

-- The unsigned number that four bytes write, the lowest first.
unfoldable pub number4 : ℕ → ℕ → ℕ → ℕ → ℕ
number4 a b c d = a + 256 * b + 65536 * c + 16777216 * d

-- The signed word that four bytes write: the number below 2³¹, the number less 2³² from there on (`to_z w32`).
abbrev pub word4 : ℕ → ℕ → ℕ → ℕ → ℤ
word4 a b c d = to_z w32 (number4 a b c d)

-- The number at a place.
unfoldable pub number_at : List ℕ → ℕ → ℕ
number_at bytes at = number4 (get_or bytes at 0) (get_or bytes (at + 1) 0) (get_or bytes (at + 2) 0) (get_or bytes (at + 3) 0)

-- The words that bytes write, four bytes a word.
unfoldable pub words_of : List ℕ → List ℤ
words_of [] = []
words_of (a ∷ []) = []
words_of (a ∷ b ∷ []) = []
words_of (a ∷ b ∷ c ∷ []) = []
words_of (a ∷ b ∷ c ∷ d ∷ bytes) = word4 a b c d ∷ words_of bytes

-- The mark that ends a trailer: the bytes 51 44 52 31, hexadecimal.
unfoldable pub mark4 : ℕ → ℕ → ℕ → ℕ → Bool
mark4 a b c d = eqb a 0x51 && eqb b 0x44 && eqb c 0x52 && eqb d 0x31

unfoldable pub mark_at : List ℕ → ℕ → Bool
mark_at bytes at = mark4 (get_or bytes at 0) (get_or bytes (at + 1) 0) (get_or bytes (at + 2) 0) (get_or bytes (at + 3) 0)

-- Where the trailer starts, and its two numbers: the bytes from there back to the first step, and C.
abbrev pub trailer_start : List ℕ → ℕ
trailer_start file = length file - 12

abbrev pub distance : List ℕ → ℕ
distance file = number_at file (trailer_start file)

abbrev pub clause_count : List ℕ → ℕ
clause_count file = number_at file (trailer_start file + 4)

-- A trailer stands at the end, and the distance is a multiple of 4 that does not pass the file's start.
unfoldable pub has_trailer : List ℕ → Bool
has_trailer file = leb 12 (length file) && mark_at file (trailer_start file + 8) && eqb (distance file % 4) 0 && leb (distance file) (trailer_start file)

-- The bytes of the steps, and how many words they are.
abbrev pub step_bytes : List ℕ → List ℕ
step_bytes file = take (distance file) (drop (trailer_start file - distance file) file)

abbrev pub step_count : List ℕ → ℕ
step_count file = distance file / 4

abbrev pub refuse_unless : Bool → Reason → Option Refusal → Option Refusal
refuse_unless b reason later = require b (some (refusal reason 0)) later

-- Why a file is turned away, if it is: asked for a formula of `count` clauses, with `room` words for the steps.
unfoldable pub proof_refusal : List ℕ → ℕ → ℕ → Option Refusal
proof_refusal file count room =
    refuse_unless (has_trailer file) NoTrailer
    (refuse_unless (leb (step_count file) proof_bound) Oversized
    (refuse_unless (eqb (clause_count file) count) OtherFormula
    (refuse_unless (leb (step_count file) room) NoRoom none)))

pub data ProofReading : Type 0 where
  read : List ℤ → ProofReading
  refused : Refusal → ProofReading

abbrev pub unless_refused : Option Refusal → List ℤ → ProofReading
unless_refused r words = unless refused r (read words)

-- The step words of a file, or the refusal.
unfoldable pub proof_reading : List ℕ → (count room : ℕ) → ProofReading
proof_reading file count room = unless_refused (proof_refusal file count room) (words_of (step_bytes file))

-- What `read_proof` answers: how many words were read, or the refusal.
abbrev pub proof_answer : ProofReading → Result ℕ Refusal
proof_answer (read words) = Ok (length words)
proof_answer (refused r) = Err r

-- What a table of `room` words then holds: the words read, then 0; after a refusal 0 alone.
abbrev pub step_table : ProofReading → ℕ → List ℤ
step_table (read words) room = words ++ replicate (room - length words) (pos 0)
step_table (refused r) room = replicate room (pos 0)

-- The same answer, by the count of words alone.
abbrev pub length_answer : Option Refusal → ℕ → Result ℕ Refusal
length_answer r n = unless Err r (Ok n)

-- What `read_proof` promises, `before` and `after` being the contents of the table lent for the steps.
pub record ProofRead (file : List ℕ) (count : ℕ) (before after : List ℤ) (r : Result ℕ Refusal) : Type 0 where
  pub answer : r ≡ proof_answer (proof_reading file count (length before))
  pub steps : after ≡ step_table (proof_reading file count (length before)) (length before)
