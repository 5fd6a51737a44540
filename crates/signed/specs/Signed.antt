-- The prefix before 02's P6: one word an entry, v existential and −v universal (01, "The game and its tables"). Nothing else reads a prefix so. Each
-- admitted table has an old one with its entries, each old one that was admitted has a table of records, and what 01's entries answer is the same; the
-- theorems are in proofs/Theorems/Signed/Laws.antt, and for verdicts without 17's numbers in Numbers.antt beside it, 001's prefix both ways in
-- Examples.antt.
use Rattle.std.specs.Prelude.{Err, Ok}
use Rattle.checker.specs.Verdict.{Verdict, accept}
use Rattle.std.specs.Prelude.{ℕ, suc, ◌≤◌, ◌≡◌, length, ℤ, pos, negsuc, neg_ℤ, nat_abs}
use mathlib.Core.List.{List, [], map, Memᴰ}
use Rattle.qbf.specs.Formula.{Quantifier, existential, universal, Entry, entry, Prefix, Formula, Distinct}
use Rattle.formula.specs.Bounds.{variable_bound, count_bound, matrix_bound}
use Rattle.formula.specs.Decode.{clauses_of, matrix_of}
use Rattle.formula.specs.Refusal.{number}
use Rattle.formula.specs.Tables.{zeros}
use Rattle.inference.specs.Steps.{Scope}

-- The entry of a word, and the entries of the words.
abbrev pub signed_entry : ℤ → Entry
signed_entry (pos v) = entry v existential
signed_entry (negsuc n) = entry (suc n) universal

unfoldable pub signed_prefix : List ℤ → Prefix
signed_prefix ws = map signed_entry ws

-- The words of entries.
abbrev pub signed_by : Quantifier → ℕ → ℤ
signed_by existential v = pos v
signed_by universal v = neg_ℤ (pos v)

abbrev pub entry_word : Entry → ℤ
entry_word x = signed_by x.quantifier x.variable

abbrev pub signed_words : Prefix → List ℤ
signed_words P = map entry_word P

-- The formula of a signed prefix and of clause words.
abbrev pub signed_formula : List ℤ → List ℤ → Formula
signed_formula prefix clauses = record { prefix = signed_prefix prefix; matrix = matrix_of clauses }

-- What tables passed with a signed prefix.
pub record SignedTables (prefix clauses : List ℤ) : Type 0 where
  -- lengths and clause count
  pub prefix_length : length prefix ≤ variable_bound
  pub clauses_length : length clauses ≤ matrix_bound
  pub count : zeros clauses ≤ count_bound
  -- prefix words
  pub prefix_range : (w : ℤ) → Memᴰ w prefix → (1 ≤ nat_abs w) × (nat_abs w ≤ variable_bound)
  pub prefix_distinct : Distinct (map nat_abs prefix)
  -- clause words
  pub clause_range : (w : ℤ) → Memᴰ w clauses → nat_abs w ≤ variable_bound
  pub clause_bound : (w : ℤ) → Memᴰ w clauses → (w ≡ pos 0 → ⊥) → Memᴰ (nat_abs w) (map nat_abs prefix)
  pub clause_distinct : (C : List ℤ) → Memᴰ C (clauses_of clauses) → Distinct (map nat_abs C)
  -- as many closing 0s as clauses
  pub closed : length (clauses_of clauses) ≡ zeros clauses

-- For "17's numbers apart": a verdict with each reason by its number alone.
pub data Said : Type 0 where
  accepted : (empty count : ℕ) → Said
  refused : (number place line column : ℕ) → Said

abbrev pub said : Verdict → Said
said (Ok a) = accepted a.empty.0 a.steps
said (Err r) = refused (number r.reason) r.place r.line r.column

-- What steps know but for the blocks.
abbrev pub blockless : Scope → Scope
blockless S = record { existential = S.existential; universal = S.universal; mergeable = S.mergeable; dependent = S.dependent; blocks = [] }
