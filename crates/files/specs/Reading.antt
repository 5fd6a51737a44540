-- How a file is read, call by call. 01, "Programs": "unreadable: as empty". A file is as read only where its end was seen, by a
-- call that answers 0, or the buffer is full; a call that was interrupted is made again, as often as there are tries left;
-- after anything else the file is unreadable. Laws in `Reading.Laws`. Assumes nothing.
pub mod Laws
pub mod Examples
use Rattle.std.specs.Prelude.{ℕ, zero, suc, ◌+◌, ◌<◌, ◌≡◌, Bool, true, false, cond, List, [], ◌∷◌, ltb, eqb, ℤ, pos, negsuc}
use Rattle.files.specs.declared.reading.Outcome.{Outcome}
use Rattle.files.specs.declared.reading.Outcome.TheVariants.{Moved, Interrupted, Failed}
use Rattle.files.specs.declared.reading.Reading.{Reading}
use Rattle.files.specs.declared.reading.Reading.TheVariants.{On, Whole, Unreadable}

-- The error number of an interrupted call.
unfoldable pub interrupted : ℤ → Bool
interrupted (pos n) = eqb n 4
interrupted (negsuc n) = false

-- What a call came to, from its answer and the error number after it.
unfoldable pub outcome_of : ℤ → ℤ → Outcome
outcome_of (pos n) error = Moved n
outcome_of (negsuc n) error = cond (interrupted error) Interrupted Failed

-- After `count` bytes more at `at`: there is room left, the buffer is full, or the count is none that a call can answer.
unfoldable pub placed : ℕ → ℕ → ℕ → ℕ → Reading
placed count at room tries = cond (ltb (at + count) room) (On (at + count) tries) (cond (eqb (at + count) room) (Whole room) Unreadable)

-- By the outcome of a call that was to read on at `at`: 0 bytes are the end.
unfoldable pub after_outcome : Outcome → ℕ → ℕ → ℕ → Reading
after_outcome (Moved zero) at room tries = Whole at
after_outcome (Moved (suc n)) at room tries = placed (suc n) at room tries
after_outcome Interrupted at room zero = Unreadable
after_outcome Interrupted at room (suc tries) = On at tries
after_outcome Failed at room tries = Unreadable

-- The step: from the count that a call answered, the error number after it, the bytes read so far, the buffer's length and the
-- tries left.
unfoldable pub after_read : ℤ → ℤ → ℕ → ℕ → ℕ → Reading
after_read got error at room tries = after_outcome (outcome_of got error) at room tries

-- One call more, by its answer and the error number after it: a settled reading stays.
unfoldable pub step : ℕ → Reading → ℤ × ℤ → Reading
step room (On at tries) call = after_read call.0 call.1 at room tries
step room (Whole n) call = Whole n
step room Unreadable call = Unreadable

-- The reading after a list of calls.
unfoldable pub reading_from : ℕ → Reading → List (ℤ × ℤ) → Reading
reading_from room state [] = state
reading_from room state (call ∷ calls) = reading_from room (step room state call) calls

-- How many bytes the file has for its reader, where the calls settle its reading: an unreadable one is as empty.
unfoldable pub settled : Reading → ℕ
settled (On at tries) = 0
settled (Whole n) = n
settled Unreadable = 0

-- The calls from `at` on show n bytes to be the whole file, or to fill the buffer: none of them fails but by an interruption.
pub data Seen (room : ℕ) : ℕ → List (ℤ × ℤ) → ℕ → Type 0 where
  ended : {at n : ℕ} {error : ℤ} {calls : List (ℤ × ℤ)} → n ≡ at → Seen room at ((pos 0, error) ∷ calls) n
  filled : {at n k : ℕ} {error : ℤ} {calls : List (ℤ × ℤ)} → at + suc k ≡ room → n ≡ room → Seen room at ((pos (suc k), error) ∷ calls) n
  more : {at n k : ℕ} {error : ℤ} {calls : List (ℤ × ℤ)} → at + suc k < room → Seen room (at + suc k) calls n → Seen room at ((pos (suc k), error) ∷ calls) n
  again : {at n k : ℕ} {error : ℤ} {calls : List (ℤ × ℤ)} → interrupted error ≡ true → Seen room at calls n → Seen room at ((negsuc k, error) ∷ calls) n
