-- From the words of the tables to the formula they denote (01, "The game and its tables"): the entries of the prefix are in
-- Prefix.antt; clause words are literals, every clause closed by 0. Laws are in Decode/Laws.antt.
pub mod Laws
pub mod Places
use Rattle.std.specs.Prelude.{ℕ, zero, suc, ◌≡◌, drop, ℤ, pos, negsuc, true, false}
use mathlib.Core.List.{List, [], ◌∷◌, map, Memᴰ}
use Rattle.qbf.specs.Literal.{Literal, literal, Clause, Matrix}
use Rattle.qbf.specs.Formula.{Formula}
use Rattle.formula.specs.Prefix.{prefix_of}

abbrev pub literal_of : ℤ → Literal
literal_of (pos v) = literal v true
literal_of (negsuc n) = literal (suc n) false

-- A literal put before the first clause; with none there, it is the one of a clause that no 0 closes.
abbrev pub put_first : ℤ → List (List ℤ) → List (List ℤ)
put_first w [] = (w ∷ []) ∷ []
put_first w (C ∷ Cs) = (w ∷ C) ∷ Cs

-- The clauses of the words, each the words before its 0.
unfoldable pub clauses_of : List ℤ → List (List ℤ)
clauses_of [] = []
clauses_of (pos zero ∷ ws) = [] ∷ clauses_of ws
clauses_of (pos (suc n) ∷ ws) = put_first (pos (suc n)) (clauses_of ws)
clauses_of (negsuc n ∷ ws) = put_first (negsuc n) (clauses_of ws)

-- The words before the first 0, and those after it.
unfoldable pub first_clause : List ℤ → List ℤ
first_clause [] = []
first_clause (pos zero ∷ ws) = []
first_clause (pos (suc n) ∷ ws) = pos (suc n) ∷ first_clause ws
first_clause (negsuc n ∷ ws) = negsuc n ∷ first_clause ws

unfoldable pub later_words : List ℤ → List ℤ
later_words [] = []
later_words (pos zero ∷ ws) = ws
later_words (pos (suc n) ∷ ws) = later_words ws
later_words (negsuc n ∷ ws) = later_words ws

-- The clause whose first word stands at a place, and the words after it.
abbrev pub clause_at : List ℤ → ℕ → List ℤ
clause_at words from = first_clause (drop from words)

abbrev pub words_after : List ℤ → ℕ → List ℤ
words_after words from = later_words (drop from words)

-- No word of the list is 0.
abbrev pub NoZero : List ℤ → Type 0
NoZero ws = (w : ℤ) → Memᴰ w ws → w ≡ pos 0 → ⊥

abbrev pub clause_of : List ℤ → Clause
clause_of C = map literal_of C

abbrev pub matrix_of : List ℤ → Matrix
matrix_of ws = map clause_of (clauses_of ws)

abbrev pub formula_of : List ℤ → List ℤ → Formula
formula_of prefix clauses = record { prefix = prefix_of prefix; matrix = matrix_of clauses }
