-- What the parts of the check of tables find: marks of listed variables, a bit each, one entry judged, the run of literals that a clause
-- begins with, how far it goes without a clash, and one clause judged. Laws are in the crate's proofs/Scan.antt.
use Rattle.formula.specs.declared.tables.LastEntry.{LastEntry}
use Rattle.std.specs.Prelude.{ℕ, zero, suc, ◌+◌, ◌-◌, ◌≤◌, ◌<◌, ◌≡◌, Bool, true, false, not, cond, ◌&&◌, List, [], ◌∷◌, length, get_or, take, drop, ltb, eqb, ℤ, pos, nat_abs, Result, Ok, Err}
use Rattle.std.proofs.Math.Option.{Option, some}
use Rattle.bits.specs.Flags.{flags}
use Rattle.formula.specs.Bounds.{variable_bound, in_range}
use Rattle.formula.specs.Word.{ordinal}
use Rattle.formula.specs.Tables.{is_in, prefix_refusal, clauses_refusal, listed_in}
use Rattle.formula.specs.declared.refusal.Refusal.{Refusal}

-- So many bytes have a bit for each variable, or there are none.
abbrev pub AllOrNone : ℕ → Type 0
AllOrNone bytes = 0 < bytes → bytes ≡ 128

-- How many of the bytes lent are marks: all 128, or none where fewer are lent.
abbrev pub marks_used : ℕ → ℕ
marks_used lent = cond (ltb lent 128) 0 128

-- The variable's bit is 1: that of the variable v is at v − 1.
unfoldable pub marked : List ℕ → ℕ → Bool
marked marks v = eqb (get_or (flags marks) (v - 1) 0) 1

-- The marks, if there are any, say which variables a table lists.
pub record Listing (table : List ℤ) (marks : List ℕ) : Type 0 where
  pub size : AllOrNone (length marks)
  pub says : 0 < length marks → (v : ℕ) → 1 ≤ v → v ≤ variable_bound → marked marks v ≡ listed_in table v

-- A list of the variables that a table lists.
pub record Lists (table : List ℤ) (seen : List ℕ) : Type 0 where
  pub says : (v : ℕ) → is_in v seen ≡ listed_in table v

-- The variables of the first n words, the last one first.
unfoldable pub variables_before : List ℤ → ℕ → List ℕ
variables_before ws zero = []
variables_before ws (suc n) = nat_abs (get_or ws n (pos 0)) ∷ variables_before ws n

-- An entry judged, its first word at the place `at`, behind the entry `last`, `seen` being the variables before it: the check refuses, or goes on behind the entry with its
-- quantifier and its block, its variable marked.
abbrev pub EntryStep : (ws : List ℤ) (at : ℕ) (last : LastEntry) → Result LastEntry Refusal → (marks' : List ℕ) → Type 0
EntryStep ws at last (Err r) marks' = (seen : List ℕ) → Lists (take at ws) seen → prefix_refusal at seen last.quantifier last.block (drop at ws) ≡ some r
EntryStep ws at last (Ok next) marks' =
    ((seen : List ℕ) → Lists (take at ws) seen
    → prefix_refusal at seen last.quantifier last.block (drop at ws) ≡ prefix_refusal (at + 3) (ordinal (get_or ws at (pos 0)) ∷ seen) next.quantifier next.block (drop (at + 3) ws))
    × Listing (take (at + 3) ws) marks'
    × (next.block ≤ last.block + 1)

-- One word further where a test is true.
abbrev pub further : Bool → ℕ → ℕ
further true n = suc n
further false n = 0

-- How many words from the left are literals of known variables.
unfoldable pub plain_run : (ℕ → Bool) → List ℤ → ℕ
plain_run known [] = 0
plain_run known (w ∷ ws) = further (in_range (nat_abs w) variable_bound && known (nat_abs w)) (plain_run known ws)

-- How many words from the left have a variable that stands neither in `seen` nor before them.
unfoldable pub clash_free : List ℕ → List ℤ → ℕ
clash_free seen [] = 0
clash_free seen (w ∷ ws) = further (not (is_in (nat_abs w) seen)) (clash_free (nat_abs w ∷ seen) ws)

-- What is left to refuse after one clause was judged.
abbrev pub after_clause : (ℕ → Bool) → List ℤ → Result ℕ Refusal → Option Refusal
after_clause known ws (Ok next) = clauses_refusal known next [] (drop next ws)
after_clause known ws (Err r) = some r

-- The clause that begins at `from` is judged: either the refusal, or the check goes on at a later place of the table.
pub record ClauseStep (known : ℕ → Bool) (ws : List ℤ) (from : ℕ) (answer : Result ℕ Refusal) : Type 0 where
  pub same : clauses_refusal known from [] (drop from ws) ≡ after_clause known ws answer
  pub onward : (next : ℕ) → answer ≡ Ok next → (from < next) × (next ≤ length ws)
