-- What tables the check lets pass, said of entries and clauses at once and not from the left (01, "The game and its tables"): within
-- the bounds, blocks counted as entries turn, no variable listed twice, each literal's variable listed and once in its clause, every clause closed by 0.
use Rattle.std.specs.Prelude.{◌≤◌, ◌≡◌, length, ℤ, pos, nat_abs}
use mathlib.Core.List.{List, map, Memᴰ}
use Rattle.qbf.specs.Formula.{Distinct, listed}
use Rattle.formula.specs.Bounds.{variable_bound, count_bound, matrix_bound}
use Rattle.formula.specs.Prefix.{prefix_of, IsTable, entry_count, Entries}
use Rattle.formula.specs.Decode.{clauses_of}
use Rattle.formula.specs.Tables.{zeros}

pub record ProperTables (prefix clauses : List ℤ) : Type 0 where
  -- lengths and clause count
  pub prefix_length : entry_count prefix ≤ variable_bound
  pub clauses_length : length clauses ≤ matrix_bound
  pub count : zeros clauses ≤ count_bound
  -- prefix entries: their words, blocks included, then ranges
  pub prefix_table : IsTable prefix
  pub prefix_range : Entries prefix
  pub prefix_distinct : Distinct (listed (prefix_of prefix))
  -- clause words
  pub clause_range : (w : ℤ) → Memᴰ w clauses → nat_abs w ≤ variable_bound
  pub clause_bound : (w : ℤ) → Memᴰ w clauses → (w ≡ pos 0 → ⊥) → Memᴰ (nat_abs w) (listed (prefix_of prefix))
  pub clause_distinct : (C : List ℤ) → Memᴰ C (clauses_of clauses) → Distinct (map nat_abs C)
  -- as many closing 0s as clauses
  pub closed : length (clauses_of clauses) ≡ zeros clauses
