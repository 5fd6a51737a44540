-- Reading a formula's text (01, "Formula text" and the order "Text"; 02, P2): 2 on length, then tokens from the left, at a token 10
-- first, then 1, 4, 5, 2, 6, 8, 3; at the end 1, 9, 10, then 3 for the completed prefix. A state goes over the tokens; a refusal stops it.
-- What the stages of reading answer, each from its state and place on, is in Header, Sets, Clauses, Fill: a stage that goes on
-- hands over a state and a place from which the text is read as the same. Laws are in Laws and in proofs/Theorems/Text.
pub mod Laws
pub mod Header
pub mod Sets
pub mod Clauses
pub mod Fill
pub mod Distinct
pub mod Examples
use Rattle.formula.specs.declared.read.Filled.{Filled}
use Rattle.std.specs.Prelude.{ℕ, zero, suc, ◌-◌, ◌≡◌, Bool, true, false, not, ◌&&◌, List, [], ◌∷◌, ◌++◌, length, leb, ltb, ℤ, pos, negsuc, Result, Ok, Err}
use Rattle.std.proofs.Math.Option.{Option, none, some}
use Rattle.formula.specs.Bounds.{variable_bound, count_bound, matrix_bound, text_bound}
use Rattle.formula.specs.Clear.{filled_up}
use Rattle.qbf.specs.Formula.{Quantifier, existential, universal, entry, Prefix, listed}
use Rattle.formula.specs.Refusal.{refusal, in_text, require, unless}
use Rattle.formula.specs.Word.{signed}
use Rattle.formula.specs.Prefix.{entry_fits, prefix_words}
use Rattle.formula.specs.Free.{completed}
use Rattle.formula.specs.Tables.{is_in, zeros}
use Rattle.scanner.specs.Token.{Token, tokens, tokens_at, same, p_text, cnf_text, a_text, e_text, Number, natural, negative, no_number, number_of}
use Rattle.formula.specs.declared.refusal.Refusal.{Refusal}
use Rattle.formula.specs.declared.refusal.Reason.{Reason}
use Rattle.formula.specs.declared.refusal.Reason.TheVariants.{
  Headless,
  Oversized,
  NoRoom,
  BadToken,
  OutOfRange,
  BoundTwice,
  Clash,
  Unfinished,
  Miscount,
}

-- What a text is read as: the words of the completed prefix and of the clauses, closing zeros included, and C; or a refusal.
pub data Reading : Type 0 where
  read : (prefix clauses : List ℤ) (count : ℕ) → Reading
  refused : Refusal → Reading

-- What was read so far. V and C are the header's `v` and `c`; P has the entries listed, in order.
pub data State : Type 0 where
  -- The header's tokens: `p`, `cnf`, V, C.
  wantsP wantsCnf wantsV : State
  wants_c : (v : ℕ) → State
  -- Between sets; in a set of the quantifier q, `filled` once it lists a variable; from the first clause on.
  between_sets : (v c : ℕ) (P : Prefix) → State
  in_set : (v c : ℕ) (q : Quantifier) (filled : Bool) (P : Prefix) → State
  clauses : (v c : ℕ) (P : Prefix) (words : List ℤ) → State
  -- A token, or the end, is refused at a byte's place.
  stopped : (at : ℕ) → Reason → State

-- The variables of the clause that no 0 has closed yet, the last one first.
unfoldable pub open_from : List ℕ → List ℤ → List ℕ
open_from seen [] = seen
open_from seen (pos zero ∷ ws) = open_from [] ws
open_from seen (pos (suc n) ∷ ws) = open_from (suc n ∷ seen) ws
open_from seen (negsuc n ∷ ws) = open_from (suc n ∷ seen) ws

abbrev pub open_clause : List ℤ → List ℕ
open_clause words = open_from [] words

abbrev pub is_open : List ℕ → Bool
is_open [] = false
is_open (v ∷ vs) = true

-- A word of the header.
abbrev pub header_word : (word : List ℕ) (at : ℕ) (bytes : List ℕ) → State → State
header_word word at bytes next = require (same bytes word) (stopped at Headless) next

-- A number of the header, without minus and within its bound.
abbrev pub header_number : (bound at : ℕ) → Number → (ℕ → State) → State
header_number bound at (natural n) next = require (leb n bound) (stopped at Oversized) (next n)
header_number bound at (negative n) next = stopped at Headless
header_number bound at no_number next = stopped at Headless

-- Why the variable n is not listed in a set: 5, 6, 3. `known` says whether one before it lists n, `fits` whether an entry has room.
unfoldable pub variable_reason : (v n : ℕ) (known fits : Bool) → Option Reason
variable_reason v n known fits =
    require (leb n v) (some OutOfRange) (require (not known) (some BoundTwice) (require fits (some NoRoom) none))

-- Why a literal of the variable n is not written: 5, 2, 8, 3. `clash` says whether its clause holds n; `used` words are used of `room`.
unfoldable pub literal_reason : (v n : ℕ) (clash : Bool) (used room : ℕ) → Option Reason
literal_reason v n clash used room =
    require (ltb 0 n && leb n v) (some OutOfRange)
    (require (ltb used matrix_bound) (some Oversized)
    (require (not clash) (some Clash)
    (require (ltb used room) (some NoRoom) none)))

-- Why a clause's closing 0, which is a clause word too, is not written: 2, 3.
unfoldable pub closing_reason : (used room : ℕ) → Option Reason
closing_reason used room = require (ltb used matrix_bound) (some Oversized) (require (ltb used room) (some NoRoom) none)

-- A token between sets: `e` or `a` opens a set, any other is the first of the clauses.
abbrev pub opens : (isE is_a : Bool) (v c : ℕ) (P : Prefix) → State → State
opens true is_a v c P later = in_set v c existential false P
opens false true v c P later = in_set v c universal false P
opens false false v c P later = later

module _ (prefixRoom clauseRoom : ℕ) where
  -- A token in a set: a variable, or the closing 0 of a set that is not empty.
  abbrev pub set_number : (at v c : ℕ) (q : Quantifier) (filled : Bool) (P : Prefix) → ℕ → State
  set_number at v c q filled P zero = require filled (stopped at BadToken) (between_sets v c P)
  set_number at v c q filled P (suc n) =
      unless (stopped at) (variable_reason v (suc n) (is_in (suc n) (listed P)) (entry_fits prefixRoom (length P)))
      (in_set v c q true (P ++ (entry (suc n) q ∷ [])))

  abbrev pub set_token : (at v c : ℕ) (q : Quantifier) (filled : Bool) (P : Prefix) → Number → State
  set_token at v c q filled P (natural n) = set_number at v c q filled P n
  set_token at v c q filled P (negative n) = stopped at BadToken
  set_token at v c q filled P no_number = stopped at BadToken

  -- A token of a clause: a literal, or the closing 0.
  abbrev pub put_literal : (at v c : ℕ) (P : Prefix) (words : List ℤ) (positive : Bool) → ℕ → State
  put_literal at v c P words positive n =
      unless (stopped at) (literal_reason v n (is_in n (open_clause words)) (length words) clauseRoom)
      (clauses v c P (words ++ (signed positive n ∷ [])))

  abbrev pub clause_number : (at v c : ℕ) (P : Prefix) (words : List ℤ) → ℕ → State
  clause_number at v c P words zero =
      unless (stopped at) (closing_reason (length words) clauseRoom) (clauses v c P (words ++ (pos 0 ∷ [])))
  clause_number at v c P words (suc n) = put_literal at v c P words true (suc n)

  abbrev pub clause_token : (at v c : ℕ) (P : Prefix) (words : List ℤ) → Number → State
  clause_token at v c P words (natural n) = clause_number at v c P words n
  clause_token at v c P words (negative n) = put_literal at v c P words false n
  clause_token at v c P words no_number = stopped at BadToken

  -- After clause C any token is one too many.
  abbrev pub clauses_token : (at v c : ℕ) (P : Prefix) (words : List ℤ) → Number → State
  clauses_token at v c P words m =
      require (ltb (zeros words) c) (stopped at Miscount) (clause_token at v c P words m)

  -- One token.
  unfoldable pub step : State → Token → State
  step wantsP t = header_word p_text t.place t.bytes wantsCnf
  step wantsCnf t = header_word cnf_text t.place t.bytes wantsV
  step wantsV t = header_number variable_bound t.place (number_of t.bytes) wants_c
  step (wants_c v) t = header_number count_bound t.place (number_of t.bytes) (λ c. between_sets v c [])
  step (between_sets v c P) t =
      opens (same t.bytes e_text) (same t.bytes a_text) v c P (clauses_token t.place v c P [] (number_of t.bytes))
  step (in_set v c q filled P) t = set_token t.place v c q filled P (number_of t.bytes)
  step (clauses v c P words) t = clauses_token t.place v c P words (number_of t.bytes)
  step (stopped at r) t = stopped at r

  unfoldable pub run : State → List Token → State
  run s [] = s
  run s (t ∷ ts) = run (step s t) ts

-- A refusal at the end of a text.
abbrev pub at_end : List ℕ → Reason → Refusal
at_end text r = in_text text (length text) r

-- The text ends: no clause is open, and none is missing.
abbrev pub clauses_ending : List ℕ → (clauseOpen missing : Bool) → Reading → Reading
clauses_ending text clauseOpen missing done =
    require (not clauseOpen) (refused (at_end text Unfinished)) (require (not missing) (refused (at_end text Miscount)) done)

-- The completed prefix, last of all, needs room; then it and the clause words are read.
abbrev pub completing : (prefixRoom : ℕ) → List ℕ → Prefix → List ℤ → (c : ℕ) → Reading
completing prefixRoom text P words c = require (leb (length (prefix_words P)) prefixRoom) (refused (at_end text NoRoom)) (read (prefix_words P) words c)

-- The text ends after these sets and clause words: 9, 10, then 3.
abbrev pub tables_ending : (prefixRoom : ℕ) → List ℕ → (v c : ℕ) → Prefix → List ℤ → Reading
tables_ending prefixRoom text v c P words =
    clauses_ending text (is_open (open_clause words)) (ltb (zeros words) c) (completing prefixRoom text (completed v P words) words c)

-- What is read where the text ends in a state. A refusal has the line and the column of its place in the text.
unfoldable pub ending : (prefixRoom : ℕ) → List ℕ → State → Reading
ending prefixRoom text wantsP = refused (at_end text Headless)
ending prefixRoom text wantsCnf = refused (at_end text Headless)
ending prefixRoom text wantsV = refused (at_end text Headless)
ending prefixRoom text (wants_c v) = refused (at_end text Headless)
ending prefixRoom text (between_sets v c P) = tables_ending prefixRoom text v c P []
ending prefixRoom text (in_set v c q filled P) = refused (at_end text Unfinished)
ending prefixRoom text (clauses v c P words) = tables_ending prefixRoom text v c P words
ending prefixRoom text (stopped at r) = refused (in_text text at r)

-- What a text is read as, with so many words of room for the prefix and for the clauses.
unfoldable pub reading : List ℕ → (prefixRoom clauseRoom : ℕ) → Reading
reading text prefixRoom clauseRoom =
    require (leb (length text) text_bound) (refused (refusal Oversized 0))
    (ending prefixRoom text (run prefixRoom clauseRoom wantsP (tokens text)))

-- What the text is read as from a state and a place on.
abbrev pub reading_from : (prefixRoom clauseRoom : ℕ) → List ℕ → State → ℕ → Reading
reading_from prefixRoom clauseRoom text s at = ending prefixRoom text (run prefixRoom clauseRoom s (tokens_at text at))

-- What is answered of tables filled with so many words, of C clauses.
abbrev pub filled : (prefixUsed clausesUsed count : ℕ) → Result Filled Refusal
filled p n c = Ok (record { prefix_used = p; clauses_used = n; clauses = c })

-- What `read_formula` answers, and what it leaves in the tables: the words read, then zeros.
abbrev pub read_answer : Reading → Result Filled Refusal
read_answer (read prefix words count) = filled (length prefix) (length words) count
read_answer (refused r) = Err r

abbrev pub prefix_read : Reading → List ℤ
prefix_read (read prefix words count) = prefix
prefix_read (refused r) = []

abbrev pub clauses_read : Reading → List ℤ
clauses_read (read prefix words count) = words
clauses_read (refused r) = []

abbrev pub padded : ℕ → List ℤ → List ℤ
padded room words = filled_up (pos 0) room words

-- The contract of `read_formula`: its answer, and both tables at its end.
pub record ReadPost (text : List ℕ) (prefix clauses prefix' clauses' : List ℤ) (answer : Result Filled Refusal) : Type 0 where
  pub answers : answer ≡ read_answer (reading text (length prefix) (length clauses))
  pub fills_prefix : prefix' ≡ padded (length prefix) (prefix_read (reading text (length prefix) (length clauses)))
  pub fills_clauses : clauses' ≡ padded (length clauses) (clauses_read (reading text (length prefix) (length clauses)))
