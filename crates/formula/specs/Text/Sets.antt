-- What the functions that read the quantifier sets of a text answer and leave in the prefix table and in the marks. What
-- the table holds is said as entries. Laws are in proofs/Theorems/Text/Sets/Laws.antt.
use Rattle.formula.specs.declared.sets.SetStep.{SetStep}
use Rattle.formula.specs.declared.sets.SetStep.TheVariants.{Listed as Lists, Closed}
use Rattle.formula.specs.declared.refusal.Refusal.{Refusal}
use Rattle.formula.specs.declared.sets.SetsRead.{SetsRead}
use Rattle.std.specs.Prelude.{ℕ, ◌+◌, ◌≤◌, ◌<◌, ◌≡◌, Bool, true, false, List, [], ℤ, length, get_or, set, ltb, Result, Ok, Err}
use Rattle.std.proofs.Math.Option.{Option}
use Rattle.qbf.specs.Formula.{Quantifier, entry, Prefix, listed}
use Rattle.formula.specs.Bounds.{variable_bound}
use Rattle.formula.specs.Refusal.{require, unless}
use Rattle.formula.specs.Prefix.{entries_in, entry_words, entry_fits, put_entry}
use Rattle.formula.specs.Tables.{is_in}
use Rattle.formula.specs.Text.{refused, between_sets, in_set, clauses, stopped, variable_reason, set_token, reading_from}
use Rattle.formula.specs.Text.Distinct.{PrefixFine}
use Rattle.formula.specs.declared.refusal.Reason.TheVariants.{BadToken}
use Rattle.formula.specs.declared.refusal.Reason.{Reason}
use Rattle.scanner.specs.Token.{Number}
use Rattle.scanner.specs.Position.Cursor.{PositionIn}

-- The marks of the variables that the entries list: 1 for each, 0 for every other.
pub record Listed (marks : List ℕ) (P : Prefix) : Type 0 where
  pub size : length marks ≡ variable_bound + 1
  pub nought : get_or marks 0 0 ≡ 0
  pub says : (v : ℕ) → v ≤ variable_bound → is_in v (listed P) ≡ ltb 0 (get_or marks v 0)
  pub small : (v : ℕ) → get_or marks v 0 ≤ 1
  pub fine : PrefixFine variable_bound P

-- A variable n of a set: refused, or written and marked, `more` entries standing then.
abbrev pub listing : ℕ → Option Reason → Result SetStep Reason
listing more x = unless Err x (Ok (Lists more))

abbrev pub ListingStores : (n : ℕ) (q : Quantifier) (used : ℕ) (prefix : List ℤ) (marks : List ℕ) (prefix' : List ℤ) (marks' : List ℕ) → Result SetStep Reason → Type 0
ListingStores n q used prefix marks prefix' marks' (Ok (Lists more)) = (prefix' ≡ put_entry prefix used (entry n q) 0) × (marks' ≡ set marks n 1)
ListingStores n q used prefix marks prefix' marks' (Ok Closed) = Unit {0}
ListingStores n q used prefix marks prefix' marks' (Err r) = Unit {0}

pub record ListingPost (n variables : ℕ) (q : Quantifier) (used : ℕ) (prefix : List ℤ) (marks : List ℕ) (prefix' : List ℤ) (marks' : List ℕ) (answer : Result SetStep Reason) : Type 0 where
  pub answers : answer ≡ listing (used + 1) (variable_reason variables n (ltb 0 (get_or marks n 0)) (entry_fits (length prefix) used))
  pub stores : ListingStores n q used prefix marks prefix' marks' answer

-- A set's closing 0.
abbrev pub set_closing : (filled : Bool) → Result SetStep Reason
set_closing filled = require filled (Err BadToken) (Ok Closed)

-- A token of a set, wherever it stands: where the state goes, and what stands in the prefix table and in the marks.
abbrev pub SetStates : (m : Number) (place v : ℕ) (q : Quantifier) (filled : Bool) (used : ℕ) (prefix prefix' : List ℤ) (c clauseRoom : ℕ) → Result SetStep Reason → Type 0
SetStates m place v q filled used prefix prefix' c clauseRoom (Ok (Lists more)) =
    set_token (length prefix) clauseRoom place v c q filled (entries_in prefix used) m ≡ in_set v c q true (entries_in prefix' more)
SetStates m place v q filled used prefix prefix' c clauseRoom (Ok Closed) =
    set_token (length prefix) clauseRoom place v c q filled (entries_in prefix used) m ≡ between_sets v c (entries_in prefix used)
SetStates m place v q filled used prefix prefix' c clauseRoom (Err r) =
    set_token (length prefix) clauseRoom place v c q filled (entries_in prefix used) m ≡ stopped place r

abbrev pub SetStores : (used : ℕ) (prefix : List ℤ) (marks : List ℕ) (prefix' : List ℤ) (marks' : List ℕ) → Result SetStep Reason → Type 0
SetStores used prefix marks prefix' marks' (Ok (Lists more)) = (used < more) × (entry_words more ≤ length prefix) × Listed marks' (entries_in prefix' more)
SetStores used prefix marks prefix' marks' (Ok Closed) = (prefix' ≡ prefix) × (marks' ≡ marks)
SetStores used prefix marks prefix' marks' (Err r) = Unit {0}

pub record SetTokenPost (m : Number) (v : ℕ) (q : Quantifier) (filled : Bool) (used : ℕ) (prefix : List ℤ) (marks : List ℕ) (prefix' : List ℤ) (marks' : List ℕ) (answer : Result SetStep Reason) : Type 0 where
  pub states : (place c clauseRoom : ℕ) → SetStates m place v q filled used prefix prefix' c clauseRoom answer
  pub stores : SetStores used prefix marks prefix' marks' answer

-- A set, from the byte after its letter on.
abbrev pub SetPost : (text : List ℕ) (at v : ℕ) (q : Quantifier) (used : ℕ) (prefix prefix' : List ℤ) (marks' : List ℕ) → Result SetsRead Refusal → Type 0
SetPost text at v q used prefix prefix' marks' (Ok s) =
    ((c clauseRoom : ℕ) → reading_from (length prefix) clauseRoom text (in_set v c q false (entries_in prefix used)) at ≡ reading_from (length prefix) clauseRoom text (between_sets v c (entries_in prefix' s.entries)) s.next.place)
    × Listed marks' (entries_in prefix' s.entries)
    × (entry_words s.entries ≤ length prefix')
    × (at ≤ s.next.place)
    × PositionIn text s.next
SetPost text at v q used prefix prefix' marks' (Err r) =
    (c clauseRoom : ℕ) → reading_from (length prefix) clauseRoom text (in_set v c q false (entries_in prefix used)) at ≡ refused r

-- The sets, from the byte after the header on: what follows them is read as clauses.
abbrev pub SetsPost : (text : List ℕ) (at v : ℕ) (prefix prefix' : List ℤ) (marks' : List ℕ) → Result SetsRead Refusal → Type 0
SetsPost text at v prefix prefix' marks' (Ok s) =
    ((c clauseRoom : ℕ) → reading_from (length prefix) clauseRoom text (between_sets v c []) at ≡ reading_from (length prefix) clauseRoom text (clauses v c (entries_in prefix' s.entries) []) s.next.place)
    × Listed marks' (entries_in prefix' s.entries)
    × (entry_words s.entries ≤ length prefix')
    × PositionIn text s.next
SetsPost text at v prefix prefix' marks' (Err r) =
    (c clauseRoom : ℕ) → reading_from (length prefix) clauseRoom text (between_sets v c []) at ≡ refused r
