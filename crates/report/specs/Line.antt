-- The lines of the programs (01, "Programs"; 02, P1 and P6): `accepted V C steps empty` and `refused number word place line column`, with 17
-- then `variable block`, each ended by LF, with single spaces. Bytes: 10 LF, 32 space. Then what a file is settled as, and what a lent buffer holds at the end.
use Rattle.std.specs.Prelude.{ℕ, Bool, true, false, List, [], ◌∷◌, ◌++◌, length, replicate, leb}
use Rattle.formula.specs.Clear.{filled_up}
use Rattle.formula.specs.Decimal.{decimal}
use Rattle.formula.specs.Refusal.{refusal, require, numbers, number, word}
use Rattle.formula.specs.declared.refusal.Refusal.{Refusal}
use Rattle.formula.specs.declared.refusal.Reason.TheVariants.{Oversized}
use Rattle.formula.specs.declared.refusal.Numbers.{Numbers}
use Rattle.formula.specs.declared.refusal.Numbers.TheVariants.{Alone, Blocked as Blocking}
use Rattle.formula.specs.Text.{Reading, refused, reading}

-- `accepted `
abbrev pub accepted_text : List ℕ
accepted_text = 97 ∷ 99 ∷ 99 ∷ 101 ∷ 112 ∷ 116 ∷ 101 ∷ 100 ∷ 32 ∷ []

-- `refused `
abbrev pub refused_text : List ℕ
refused_text = 114 ∷ 101 ∷ 102 ∷ 117 ∷ 115 ∷ 101 ∷ 100 ∷ 32 ∷ []

-- A number and the space behind it; the last number and LF.
abbrev pub spaced : ℕ → List ℕ
spaced n = decimal n ++ (32 ∷ [])

abbrev pub last : ℕ → List ℕ
last n = decimal n ++ (10 ∷ [])

-- V is the number of variables in the prefix, C that of input clauses; `empty` is the first empty clause's number.
unfoldable pub accepted_line : (variables clauses steps empty : ℕ) → List ℕ
accepted_line variables clauses steps empty = accepted_text ++ (spaced variables ++ (spaced clauses ++ (spaced steps ++ last empty)))

-- The column, and behind it what blocks.
unfoldable pub refused_end : (column : ℕ) → Numbers → List ℕ
refused_end column (Alone n) = last column
refused_end column (Blocking b) = spaced column ++ (spaced b.variable.0 ++ last b.block)

unfoldable pub refused_line : Refusal → List ℕ
refused_line r =
    refused_text
    ++ (spaced (number r.reason) ++ (word r.reason ++ (32 ∷ (spaced r.place ++ (spaced r.line ++ refused_end r.column (numbers r.reason))))))

-- The largest file that the programs of 01 take, in bytes.
abbrev pub file_bound : ℕ
file_bound = 65536

-- What the formula's file is read as: 2 on the file's length comes ahead of all else in it. `bound` is the largest file taken.
unfoldable pub settled : (bound : ℕ) → List ℕ → (prefixRoom clauseRoom : ℕ) → Reading
settled bound file prefixRoom clauseRoom = require (leb (length file) bound) (refused (refusal Oversized 0)) (reading file prefixRoom clauseRoom)

-- What a buffer for a line has room for: no line is longer.
abbrev pub line_room : ℕ
line_room = 160

-- How many bytes of a buffer are used for a text, and what it then holds: the text and zeros; where there is no room for the
-- text, none, and zeros alone.
abbrev pub used_for : Bool → List ℕ → ℕ
used_for true text = length text
used_for false text = 0

abbrev pub held_for : Bool → List ℕ → ℕ → List ℕ
held_for true text room = filled_up 0 room text
held_for false text room = replicate room 0

abbrev pub used : List ℕ → ℕ → ℕ
used text room = used_for (leb (length text) room) text

abbrev pub held : List ℕ → ℕ → List ℕ
held text room = held_for (leb (length text) room) text room
