-- The text that the writer makes of tables (01, "Formula text"): `p cnf V C` with V the largest variable number and C the
-- number of clauses, a line for each run of one quantifier, a line for each clause; single spaces, LF at each line's end.
-- Bytes: 10 LF, 32 space, 45 minus, 48 the digit 0, 97 `a`, 101 `e`. Then what `write_formula` answers and leaves in the text.
pub mod Stream
pub mod Laws
pub mod Room
pub mod Examples
use Rattle.std.specs.Prelude.{Result, Ok, Err}
use Rattle.std.specs.Prelude.{ℕ, suc, max, ◌≡◌, Bool, true, false, length, replicate, leb, eqb, ℤ, pos, negsuc}
use Rattle.std.proofs.Math.Option.{Option, none, some}
use mathlib.Core.List.{List, [], ◌∷◌, ◌++◌, flat_map}
use Rattle.qbf.specs.Formula.{Quantifier, existential, universal, Entry, Prefix}
use Rattle.formula.specs.Refusal.{refusal, require, unless}
use Rattle.formula.specs.Clear.{filled_up}
use Rattle.formula.specs.Prefix.{prefix_of}
use Rattle.formula.specs.Decode.{clauses_of}
use Rattle.formula.specs.Tables.{zeros, tables_refusal, first_refusal}
use Rattle.formula.specs.Decimal.{decimal}
use Rattle.formula.specs.declared.refusal.Refusal.{Refusal}
use Rattle.formula.specs.declared.refusal.Reason.TheVariants.{NoRoom}

-- V: the largest variable number of the prefix, 0 if it has none.
unfoldable pub largest : Prefix → ℕ
largest [] = 0
largest (x ∷ P) = max x.variable (largest P)

-- `p cnf V C` and LF.
unfoldable pub header_text : ℕ → ℕ → List ℕ
header_text top count = (112 ∷ 32 ∷ 99 ∷ 110 ∷ 102 ∷ 32 ∷ []) ++ (decimal top ++ (32 ∷ (decimal count ++ (10 ∷ []))))

-- The letter of a quantifier.
unfoldable pub letter_of : Quantifier → ℕ
letter_of existential = 101
letter_of universal = 97

-- The runs of a prefix: neighbours of one quantifier, as many as stand together. No run is empty, so the second case of
-- `join_run` is never met.
abbrev pub join_if : Bool → Entry → Prefix → List Prefix → List Prefix
join_if true x run later = (x ∷ run) ∷ later
join_if false x run later = (x ∷ []) ∷ (run ∷ later)

abbrev pub join_run : Entry → List Prefix → List Prefix
join_run x [] = (x ∷ []) ∷ []
join_run x ([] ∷ later) = (x ∷ []) ∷ later
join_run x ((y ∷ run) ∷ later) = join_if (eqb (letter_of x.quantifier) (letter_of y.quantifier)) x (y ∷ run) later

unfoldable pub runs : Prefix → List Prefix
runs [] = []
runs (x ∷ P) = join_run x (runs P)

-- A run's line: its letter, its variables, 0.
unfoldable pub variables_text : Prefix → List ℕ
variables_text [] = 48 ∷ 10 ∷ []
variables_text (x ∷ run) = decimal x.variable ++ (32 ∷ variables_text run)

unfoldable pub run_line : Prefix → List ℕ
run_line [] = []
run_line (x ∷ run) = letter_of x.quantifier ∷ 32 ∷ variables_text (x ∷ run)

-- A clause's line: its literals, 0.
unfoldable pub literal_text : ℤ → List ℕ
literal_text (pos v) = decimal v
literal_text (negsuc n) = 45 ∷ decimal (suc n)

unfoldable pub clause_line : List ℤ → List ℕ
clause_line [] = 48 ∷ 10 ∷ []
clause_line (w ∷ C) = literal_text w ++ (32 ∷ clause_line C)

-- The whole text: the header, a line for each run, a line for each clause.
abbrev pub text_of : Prefix → List ℤ → List ℕ
text_of P clauses = header_text (largest P) (zeros clauses) ++ (flat_map run_line (runs P) ++ flat_map clause_line (clauses_of clauses))

unfoldable pub written : List ℤ → List ℤ → List ℕ
written prefix clauses = text_of (prefix_of prefix) clauses

-- The text has room.
abbrev pub if_room : Bool → Option Refusal
if_room fits = require fits (some (refusal NoRoom 0)) none

-- Why nothing is written into a text of `room` bytes: the tables' refusals, then the room.
unfoldable pub writing_refusal : List ℤ → List ℤ → ℕ → Option Refusal
writing_refusal prefix clauses room = first_refusal (tables_refusal prefix clauses) (if_room (leb (length (written prefix clauses)) room))

abbrev pub answer_writing : Option Refusal → ℕ → Result ℕ Refusal
answer_writing r used = unless Err r (Ok used)

-- The text's bytes at the end: what was written and zeros behind it, or zeros alone.
abbrev pub text_after : Option Refusal → List ℕ → ℕ → List ℕ
text_after none bytes room = filled_up 0 room bytes
text_after (some r) bytes room = replicate room 0

-- What `write_formula` promises: its answer, and the text that it was lent, from the tables and the text's length alone.
pub record Writes (prefix clauses : List ℤ) (room : ℕ) (answer : Result ℕ Refusal) (text : List ℕ) : Type 0 where
  pub answers : answer ≡ answer_writing (writing_refusal prefix clauses room) (length (written prefix clauses))
  pub leaves : text ≡ text_after (writing_refusal prefix clauses room) (written prefix clauses) room
