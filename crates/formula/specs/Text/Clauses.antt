-- What the functions that read the clauses of a text answer and leave in the clause table and in the marks. Laws are in
-- proofs/Theorems/Text/Clauses/Laws.antt.
use Rattle.formula.specs.declared.clauses.ClauseStep.{ClauseStep}
use Rattle.formula.specs.declared.clauses.ClauseStep.TheVariants.{Literal, Closed}
use Rattle.formula.specs.declared.refusal.Refusal.{Refusal}
use Rattle.formula.specs.declared.clauses.MatrixRead.{MatrixRead}
use Rattle.std.specs.Prelude.{ℕ, ◌+◌, ◌*◌, ◌/◌, ◌%◌, ◌≤◌, ◌<◌, ◌≡◌, Bool, true, false, not, List, [], ℤ, pos, length, get_or, set, take, ltb, eqb, Result, Ok, Err}
use Rattle.std.proofs.Math.Option.{Option}
use Rattle.qbf.specs.Formula.{Prefix, listed}
use Rattle.formula.specs.Bounds.{variable_bound}
use Rattle.formula.specs.Refusal.{refused_at, require, unless}
use Rattle.scanner.specs.Position.{position_at}
use Rattle.formula.specs.Free.{occurs, is_free, completed}
use Rattle.formula.specs.Free.Complete.{is_listed, is_free_mark}
use Rattle.formula.specs.Tables.{is_in, zeros}
use Rattle.formula.specs.Word.{signed}
use Rattle.formula.specs.Text.{refused, clauses, stopped, open_clause, is_open, literal_reason, closing_reason, clause_token, completing, reading_from}
use Rattle.formula.specs.declared.refusal.Reason.TheVariants.{Unfinished, Miscount}
use Rattle.formula.specs.declared.refusal.Reason.{Reason}
use Rattle.scanner.specs.Token.{Number}
use Rattle.scanner.specs.declared.position.Position.{Position}

-- A mark is twice the number of the last clause that holds the variable, and 1 more where a set lists it: whether the open clause, `closed`
-- clauses being closed, holds it; and its mark once it does.
abbrev pub holds_open : (mark closed : ℕ) → Bool
holds_open mark closed = eqb (mark / 2) (closed + 1)

abbrev pub mark_for : (mark closed : ℕ) → ℕ
mark_for mark closed = 2 * (closed + 1) + mark % 2

-- The marks of the variables while clauses are read.
pub record Marked (marks : List ℕ) (P : Prefix) (words : List ℤ) (closed : ℕ) : Type 0 where
  pub size : length marks ≡ variable_bound + 1
  pub says : (v : ℕ) → v ≤ variable_bound → is_in v (listed P) ≡ is_listed (get_or marks v 0)
  pub seen : (v : ℕ) → v ≤ variable_bound → 1 ≤ v → occurs v words ≡ ltb 1 (get_or marks v 0)
  pub holds : (v : ℕ) → v ≤ variable_bound → is_in v (open_clause words) ≡ holds_open (get_or marks v 0) closed
  pub small : (v : ℕ) → get_or marks v 0 / 2 ≤ closed + 1
  pub count : zeros words ≡ closed

-- A literal of the variable n: refused, or written and marked.
abbrev pub literal_step : Option Reason → Result ClauseStep Reason
literal_step x = unless Err x (Ok Literal)

-- By its variable's mark.
abbrev pub marked_reason : (v n : ℕ) (marks : List ℕ) (closed used room : ℕ) → Option Reason
marked_reason v n marks closed used room = literal_reason v n (holds_open (get_or marks n 0) closed) used room

abbrev pub LiteralStores : (n : ℕ) (positive : Bool) (used closed : ℕ) (table : List ℤ) (marks : List ℕ) (table' : List ℤ) (marks' : List ℕ) → Result ClauseStep Reason → Type 0
LiteralStores n positive used closed table marks table' marks' (Ok Literal) = (table' ≡ set table used (signed positive n)) × (marks' ≡ set marks n (mark_for (get_or marks n 0) closed))
LiteralStores n positive used closed table marks table' marks' (Ok Closed) = Unit {0}
LiteralStores n positive used closed table marks table' marks' (Err r) = Unit {0}

pub record LiteralPost (n variables : ℕ) (positive : Bool) (used closed : ℕ) (table : List ℤ) (marks : List ℕ) (table' : List ℤ) (marks' : List ℕ) (answer : Result ClauseStep Reason) : Type 0 where
  pub answers : answer ≡ literal_step (marked_reason variables n marks closed used (length table))
  pub stores : LiteralStores n positive used closed table marks table' marks' answer

-- A clause's closing 0: refused, or written.
abbrev pub closing_step : Option Reason → Result ClauseStep Reason
closing_step x = unless Err x (Ok Closed)

abbrev pub ClosingStores : (used : ℕ) (table table' : List ℤ) → Result ClauseStep Reason → Type 0
ClosingStores used table table' (Ok Literal) = Unit {0}
ClosingStores used table table' (Ok Closed) = table' ≡ set table used (pos 0)
ClosingStores used table table' (Err r) = Unit {0}

pub record ClosingPost (used : ℕ) (table table' : List ℤ) (answer : Result ClauseStep Reason) : Type 0 where
  pub answers : answer ≡ closing_step (closing_reason used (length table))
  pub stores : ClosingStores used table table' answer

-- A token of a clause, wherever it stands: where the state goes, and what the marks then say; a word was left, or it is refused.
abbrev pub TokenStates : (m : Number) (place v used closed : ℕ) (table table' : List ℤ) (marks' : List ℕ) (prefixRoom c : ℕ) (P : Prefix) → Result ClauseStep Reason → Type 0
TokenStates m place v used closed table table' marks' prefixRoom c P (Ok Literal) =
    (clause_token prefixRoom (length table) place v c P (take used table) m ≡ clauses v c P (take (used + 1) table')) × Marked marks' P (take (used + 1) table') closed × (is_open (open_clause (take (used + 1) table')) ≡ true)
TokenStates m place v used closed table table' marks' prefixRoom c P (Ok Closed) =
    (clause_token prefixRoom (length table) place v c P (take used table) m ≡ clauses v c P (take (used + 1) table')) × Marked marks' P (take (used + 1) table') (closed + 1) × (is_open (open_clause (take (used + 1) table')) ≡ false)
TokenStates m place v used closed table table' marks' prefixRoom c P (Err r) =
    clause_token prefixRoom (length table) place v c P (take used table) m ≡ stopped place r

abbrev pub TokenStores : (used : ℕ) (table : List ℤ) (marks' : List ℕ) → Result ClauseStep Reason → Type 0
TokenStores used table marks' (Ok Literal) = (used < length table) × (length marks' ≡ variable_bound + 1)
TokenStores used table marks' (Ok Closed) = (used < length table) × (length marks' ≡ variable_bound + 1)
TokenStores used table marks' (Err r) = Unit {0}

pub record ClauseTokenPost (m : Number) (v used closed : ℕ) (table : List ℤ) (marks : List ℕ) (table' : List ℤ) (marks' : List ℕ) (answer : Result ClauseStep Reason) : Type 0 where
  pub states : (place prefixRoom c : ℕ) (P : Prefix) → Marked marks P (take used table) closed → TokenStates m place v used closed table table' marks' prefixRoom c P answer
  pub stores : TokenStores used table marks' answer

-- The text ends.
abbrev pub clauses_end : (end : Position) (clauseOpen missing : Bool) (used : ℕ) → Result MatrixRead Refusal
clauses_end end clauseOpen missing used =
    require (not clauseOpen) (Err (refused_at end Unfinished)) (require (not missing) (Err (refused_at end Miscount)) (Ok (record { used = used; end = end })))

-- What the marks then tell of the variables that no set binds.
pub record MarksFree (marks : List ℕ) (P : Prefix) (words : List ℤ) : Type 0 where
  pub size : length marks ≡ variable_bound + 1
  pub frees : (v : ℕ) → 1 ≤ v → v ≤ variable_bound → is_free P words v ≡ is_free_mark (get_or marks v 0)

-- The clauses, from the byte after the sets on: what is read from there are these words and the completed prefix.
abbrev pub ClausesPost : (text : List ℕ) (at v c prefixRoom : ℕ) (P : Prefix) (table table' : List ℤ) (marks' : List ℕ) → Result MatrixRead Refusal → Type 0
ClausesPost text at v c prefixRoom P table table' marks' (Ok r) =
    (reading_from prefixRoom (length table) text (clauses v c P []) at ≡ completing prefixRoom text (completed v P (take r.used table')) (take r.used table') c)
    × (r.used ≤ length table')
    × MarksFree marks' P (take r.used table')
    × (r.end ≡ position_at text (length text))
ClausesPost text at v c prefixRoom P table table' marks' (Err r) =
    reading_from prefixRoom (length table) text (clauses v c P []) at ≡ refused r
