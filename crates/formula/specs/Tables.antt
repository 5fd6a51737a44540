-- The check of tables (01, "What the checker says no with", order "Tables"; 02, P6): 2 on lengths and clause count, 9 for a prefix that is
-- not in threes, entries of the prefix (5, 6, 5, 6), clause words (5, 7, 8), 9. Each word is judged from the left by its own rules in order. What tables pass, said
-- without an order, is in Tables/Proper.antt; the two agree by proofs/Theorems/Tables/Laws.antt.
pub mod Proper
pub mod Scan
use Rattle.formula.specs.declared.tables.Counts.{Counts}
use Rattle.std.specs.Prelude.{ℕ, zero, suc, ◌+◌, ◌%◌, ◌≡◌, Bool, false, not, ◌||◌, ◌&&◌, List, [], ◌∷◌, length, leb, ltb, eqb, ℤ, pos, negsuc, Result, Ok, Err}
use Rattle.std.proofs.Math.Option.{Option, none, some}
use Rattle.qbf.specs.Formula.{listed}
use Rattle.formula.specs.Bounds.{prefix_bound, count_bound, matrix_bound}
use Rattle.formula.specs.Word.{word_of, ordinal}
use Rattle.formula.specs.Refusal.{refusal, require, unless}
use Rattle.formula.specs.Prefix.{prefix_of, next_block, entry_count}
use Rattle.formula.specs.declared.word.Word.{Word}
use Rattle.formula.specs.declared.word.Word.TheVariants.{Zero, TooLarge, Positive, Negative}
use Rattle.formula.specs.declared.refusal.Refusal.{Refusal}
use Rattle.formula.specs.declared.refusal.Reason.TheVariants.{Oversized, OutOfRange, BoundTwice, Unbound, Clash, Unfinished}

-- A number stands in a list.
unfoldable pub is_in : ℕ → List ℕ → Bool
is_in v [] = false
is_in v (x ∷ xs) = eqb v x || is_in v xs

-- The number of 0 words: 01's clause count of a table.
unfoldable pub zeros : List ℤ → ℕ
zeros [] = 0
zeros (pos zero ∷ ws) = suc (zeros ws)
zeros (pos (suc n) ∷ ws) = zeros ws
zeros (negsuc n ∷ ws) = zeros ws

-- The three words of an entry, each judged at its own place: the variable, `seen` being those before it; the quantifier; the block, and which
-- one is due. A word that is no number from 1 to 1,024 counts as 0.
abbrev pub variable_word : (at : ℕ) (seen : List ℕ) (v : ℕ) → Option Refusal → Option Refusal
variable_word at seen v later =
    require (ltb 0 v) (some (refusal OutOfRange at)) (require (not (is_in v seen)) (some (refusal BoundTwice at)) later)

abbrev pub quantifier_word : (at q : ℕ) → Option Refusal → Option Refusal
quantifier_word at q later = require (eqb q 1 || eqb q 2) (some (refusal OutOfRange at)) later

abbrev pub block_word : (at b due : ℕ) → Option Refusal → Option Refusal
block_word at b due later = require (eqb b due) (some (refusal BoundTwice at)) later

-- The entries from the place `at` on, behind one of the quantifier `last` in the block b; before the first, both are 0.
unfoldable pub prefix_refusal : (at : ℕ) (seen : List ℕ) (last b : ℕ) → List ℤ → Option Refusal
prefix_refusal at seen last b [] = none
prefix_refusal at seen last b (v ∷ []) = none
prefix_refusal at seen last b (v ∷ q ∷ []) = none
prefix_refusal at seen last b (v ∷ q ∷ block ∷ ws) =
    variable_word at seen (ordinal v)
    (quantifier_word (at + 1) (ordinal q)
    (block_word (at + 2) (ordinal block) (next_block last b (ordinal q))
    (prefix_refusal (at + 3) (ordinal v ∷ seen) (ordinal q) (next_block last b (ordinal q)) ws)))

-- A literal at the place `at`: is its variable in the prefix, and does its clause hold that variable already?
abbrev pub literal_word : ℕ → Bool → Bool → Option Refusal → Option Refusal
literal_word at bound clash later = require bound (some (refusal Unbound at)) (require (not clash) (some (refusal Clash at)) later)

-- A clause word at the place `at`, `seen` being the variables of its clause before it: a literal repeats or opposes an
-- earlier one exactly when its variable is among them. `next` goes on with what its clause then holds.
abbrev pub clause_word : (ℕ → Bool) → ℕ → List ℕ → Word → (List ℕ → Option Refusal) → Option Refusal
clause_word known at seen Zero next = next []
clause_word known at seen TooLarge next = some (refusal OutOfRange at)
clause_word known at seen (Positive v) next = literal_word at (known v.0) (is_in v.0 seen) (next (v.0 ∷ seen))
clause_word known at seen (Negative v) next = literal_word at (known v.0) (is_in v.0 seen) (next (v.0 ∷ seen))

-- The end of the clause words: a clause with literals and no 0 is unfinished.
abbrev pub clauses_end : ℕ → List ℕ → Option Refusal
clauses_end at [] = none
clauses_end at (v ∷ seen) = some (refusal Unfinished at)

-- The clause words from the place `at` on; `known` says which variables the prefix has.
unfoldable pub clauses_refusal : (ℕ → Bool) → ℕ → List ℕ → List ℤ → Option Refusal
clauses_refusal known at seen [] = clauses_end at seen
clauses_refusal known at seen (w ∷ ws) = clause_word known at seen (word_of w) (λ seen'. clauses_refusal known (at + 1) seen' ws)

-- The variables that the prefix lists.
abbrev pub listed_in : List ℤ → ℕ → Bool
listed_in prefix v = is_in v (listed (prefix_of prefix))

-- Lengths and clause count are within their bounds.
abbrev pub sized : List ℤ → List ℤ → Bool
sized prefix clauses = leb (length prefix) prefix_bound && leb (length clauses) matrix_bound && leb (zeros clauses) count_bound

-- The first of two refusals, in order.
abbrev pub first_refusal : Option Refusal → Option Refusal → Option Refusal
first_refusal r later = unless some r later

abbrev pub if_sized : Bool → Option Refusal → Option Refusal
if_sized fits later = require fits (some (refusal Oversized 0)) later

-- A prefix is in threes.
abbrev pub if_threes : List ℤ → Option Refusal → Option Refusal
if_threes prefix later = require (eqb (length prefix % 3) 0) (some (refusal Unfinished (length prefix))) later

-- Prefix words, then clause words.
unfoldable pub words_refusal : List ℤ → List ℤ → Option Refusal
words_refusal prefix clauses = if_threes prefix (first_refusal (prefix_refusal 0 [] 0 0 prefix) (clauses_refusal (listed_in prefix) 0 [] clauses))

-- Why the tables are turned away, if they are.
unfoldable pub tables_refusal : List ℤ → List ℤ → Option Refusal
tables_refusal prefix clauses = if_sized (sized prefix clauses) (words_refusal prefix clauses)

abbrev pub admits : (variables clauses : ℕ) → Result Counts Refusal
admits v c = Ok (record { variables = v; clauses = c })

abbrev pub answer_tables : Option Refusal → ℕ → ℕ → Result Counts Refusal
answer_tables r variables count = unless Err r (admits variables count)

-- What `check_tables` answers: the number of variables and of clauses, or the refusal.
abbrev pub tables_answer : List ℤ → List ℤ → Result Counts Refusal
tables_answer prefix clauses = answer_tables (tables_refusal prefix clauses) (entry_count prefix) (zeros clauses)

-- The tables pass the check.
pub record Admitted (prefix clauses : List ℤ) : Type 0 where
  pub passes : tables_refusal prefix clauses ≡ none
