-- The completion as the code does it, by the marks that reading the clauses leaves (Text/Clauses.antt says what a mark is). Laws are in
-- proofs/Theorems/Free/Complete/Laws.antt.
use Rattle.std.specs.Prelude.{Option, Some, None}
use Rattle.std.specs.Prelude.{ℕ, ◌+◌, ◌%◌, ◌≤◌, ◌<◌, ◌≡◌, Bool, not, ◌&&◌, List, ◌++◌, ltb, eqb, ℤ, length, get_or, take, drop}
use Rattle.qbf.specs.Formula.{Prefix}
use Rattle.formula.specs.Prefix.{prefix_words, entry_words, entries_in}
use Rattle.formula.specs.Free.{passing, existentials}

-- A set lists the variable of a mark; it is free: some clause holds it, and no set lists it.
abbrev pub is_listed : ℕ → Bool
is_listed mark = eqb (mark % 2) 1

unfoldable pub is_free_mark : ℕ → Bool
is_free_mark mark = ltb 1 mark && not (is_listed mark)

-- The free ones among the variables from 1 to v.
abbrev pub free_marked : List ℕ → ℕ → List ℕ
free_marked marks v = passing (λ n. is_free_mark (get_or marks n 0)) v

-- The free variables' entries stand first in a table; what is behind them stays.
pub record FreePut (marks : List ℕ) (v : ℕ) (table table' : List ℤ) : Type 0 where
  pub put : entries_in table' (length (free_marked marks v)) ≡ existentials (free_marked marks v)
  pub behind : drop (entry_words (length (free_marked marks v))) table' ≡ drop (entry_words (length (free_marked marks v))) table

-- The entries of the completed prefix, `used` of which stand in a table.
abbrev pub completed_in : (marks : List ℕ) (v used : ℕ) (prefix : List ℤ) → Prefix
completed_in marks v used prefix = existentials (free_marked marks v) ++ entries_in prefix used

-- What `complete` promises of the prefix table, in which `used` entries stand: so many words are used then, those of the completed
-- prefix with its blocks, or there is no room.
abbrev pub CompletionPost : (marks : List ℕ) (v used : ℕ) (prefix prefix' : List ℤ) → Option ℕ → Type 0
CompletionPost marks v used prefix prefix' (Some words) =
    (words ≡ entry_words (length (free_marked marks v) + used)) × (words ≤ length prefix') × (take words prefix' ≡ prefix_words (completed_in marks v used prefix))
CompletionPost marks v used prefix prefix' None = length prefix < entry_words (length (free_marked marks v) + used)
