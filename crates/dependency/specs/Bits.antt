-- The marks of the two searches and the row, as the scratch has them: one to a bit. The search from u and the one from −u have 2,048 flags of literals each, set
-- for their entries; between these stand 1,024 of variables, set for those that paths may pass, which then become the row's. A literal's two flags give its
-- mark of Marks.antt. What the parts of a pass promise of both searches. Laws are in Bits/Laws.antt, of counts in Bits/Count.antt, of the row in Bits/Row.antt.
pub mod Laws
pub mod Words
pub mod Count
pub mod Row
use Rattle.std.specs.Prelude.{ℕ, zero, suc, ◌+◌, ◌*◌, ◌-◌, ◌/◌, ◌<◌, ◌≤◌, ◌≡◌, ◌≢◌, Bool, true, false, ◌&&◌, ◌||◌, List, [], ◌∷◌, ◌++◌, length, get_or, drop, replicate, eqb, ltb, ℤ}
use Rattle.bits.specs.Flags.{flags, flag}
use Rattle.qbf.specs.Formula.{Prefix}
use Rattle.formula.specs.Decode.{clause_at, words_after}
use Rattle.dependency.specs.declared.marks.Seen.{Seen}
use Rattle.dependency.specs.declared.pass.ClauseEntries.{ClauseEntries}
use Rattle.dependency.specs.Marks.{select, reach_at, clause_entry, reach_clause}
use Rattle.dependency.specs.Search.{open_entries}

-- The list of f 0, f 1 and so on, n of them.
unfoldable pub tab : (ℕ → ℕ) → ℕ → List ℕ
tab f zero = []
tab f (suc n) = tab f n ++ (f n ∷ [])

-- May its variable be passed, is it an entry?
abbrev pub mark_from : (passable entry : Bool) → ℕ
mark_from false false = 0
mark_from true false = 1
mark_from true true = 2
mark_from false true = 3

abbrev pub is_on : List ℕ → ℕ → Bool
is_on fs i = eqb (get_or fs i 0) 1

-- Where the entries of a search begin, by the sign of the literal that it starts from.
abbrev pub base : Bool → ℕ
base true = 0
base false = 3072

-- The mark at the place p, of the literal with the flag p − 2 and the variable p / 2; no literal has the places 0 and 1.
abbrev pub mark_at : Bool → List ℕ → ℕ → ℕ
mark_at s fs p = select (ltb p 2) 0 (mark_from (is_on fs (2047 + p / 2)) (is_on fs (base s + (p - 2))))

unfoldable pub marks_of : Bool → List ℕ → List ℕ
marks_of s fs = tab (mark_at s fs) 2050

-- The marks that stand in bytes.
unfoldable pub marks_in : Bool → List ℕ → List ℕ
marks_in s bytes = marks_of s (flags bytes)

-- What is known of a clause's entries for one search.
abbrev pub seen_by : Bool → Seen → ℕ
seen_by true seen = seen.positive
seen_by false seen = seen.negative

-- A literal is reached for one search, and the other's marks stay.
pub record ReachedAt (entry : ℕ) (s : Bool) (at : ℕ) (bytes bytes' : List ℕ) : Type 0 where
  pub own : marks_in s bytes' ≡ reach_at entry (at / 2) at (marks_in s bytes)
  pub other : (t : Bool) → t ≢ s → marks_in t bytes' ≡ marks_in t bytes

-- What is known of the entries of the clause at `from`, and that the next clause is found where the search from u has none.
pub record EntriesSeen (ws : List ℤ) (from : ℕ) (bytes : List ℕ) (r : ClauseEntries) : Type 0 where
  pub seen : (s : Bool) → seen_by s r.seen ≡ clause_entry (marks_in s bytes) 0 (clause_at ws from)
  pub later : r.seen.positive ≡ 0 → drop r.next ws ≡ words_after ws from
  pub further : from < length ws → from < r.next

-- The marks after the clause of the words at `from` is done, and where the next one begins.
pub record ClauseReached (ws : List ℤ) (from : ℕ) (seen : Seen) (bytes bytes' : List ℕ) (next : ℕ) : Type 0 where
  pub marks : (s : Bool) → marks_in s bytes' ≡ reach_clause (seen_by s seen) (clause_at ws from) (marks_in s bytes)
  pub later : drop next ws ≡ words_after ws from
  pub further : from < length ws → from < next

pub record ClausePassed (ws : List ℤ) (from : ℕ) (bytes bytes' : List ℕ) (next : ℕ) : Type 0 where
  pub marks : (s : Bool) → marks_in s bytes' ≡ reach_clause (clause_entry (marks_in s bytes) 0 (clause_at ws from)) (clause_at ws from) (marks_in s bytes)
  pub later : drop next ws ≡ words_after ws from
  pub further : from < length ws → from < next

-- No literal is an entry of either search.
abbrev pub NoEntries : List ℕ → Type 0
NoEntries bytes = (s : Bool) (i : ℕ) → i < 2048 → get_or (flags bytes) (base s + i) 0 ≡ 0

-- Marks are opened while no literal is an entry.
pub record Opens (bytes bytes' : List ℕ) (opened : List ℕ → List ℕ) : Type 0 where
  pub marks : (s : Bool) → marks_in s bytes' ≡ opened (marks_in s bytes)
  pub none : NoEntries bytes'

-- The existentials of the prefix P may be passed, and no literal is an entry yet.
pub record RightOpened (P : Prefix) (bytes : List ℕ) : Type 0 where
  pub marks : (s : Bool) → marks_in s bytes ≡ open_entries P (replicate 2050 0)
  pub none : NoEntries bytes

-- The variable v + 1 depends on u: it may be passed, and u is joined to it and −u to its opposite, or u to its opposite and −u to it. A literal's reaching is told
-- by its opposite's flag.
abbrev pub depends_at : List ℕ → ℕ → Bool
depends_at fs v = is_on fs (2048 + v) && ((is_on fs (2 * v + 1) && is_on fs (3072 + 2 * v)) || (is_on fs (2 * v) && is_on fs (3073 + 2 * v)))

-- The row's flags of the first n variables are stored in place of whether these may be passed.
pub record RowFlags (fs fs' : List ℕ) (n : ℕ) : Type 0 where
  pub stored : (v : ℕ) → v < n → get_or fs' (2048 + v) 0 ≡ flag (depends_at fs v)
  pub front : (i : ℕ) → i < 2048 → get_or fs' i 0 ≡ get_or fs i 0
  pub back : (i : ℕ) → 2048 + n ≤ i → get_or fs' i 0 ≡ get_or fs i 0
