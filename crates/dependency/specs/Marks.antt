-- The marks of one search for paths: a number a literal. 0: paths do not pass its variable; 1: they may, and have not
-- reached its opposite; 2: they reached its opposite and go on from it; 3: the literal that the search starts from.
-- A literal marked 2 or 3 is an entry: in a clause that holds it, the literals of other variables are reached. Laws are in
-- Marks/Laws.antt.
pub mod Laws
pub mod Places
use Rattle.std.specs.Prelude.{ℕ, ◌-◌, ◌<◌, ◌≡◌, Bool, true, false, List, [], ◌∷◌, get_or, set, drop, ltb, eqb, ℤ}
use Rattle.formula.specs.Word.{word_of, slot}
use Rattle.formula.specs.Decode.{words_after}
use Rattle.formula.specs.declared.word.Word.{Word}
use Rattle.formula.specs.declared.word.Word.TheVariants.{Zero, TooLarge, Positive, Negative}

abbrev pub select : {A : Type 0} → Bool → A → A → A
select true a b = a
select false a b = b

-- What is known of a clause's entries is one number: 0 for none, the variable of the only ones, or `several` for entries
-- of two variables. It grows by a literal of v whose mark is `mark`.
abbrev pub several : ℕ
several = 1025

unfoldable pub see_at : ℕ → ℕ → ℕ → ℕ
see_at mark v seen = select (ltb mark 2) seen (select (eqb seen 0) v (select (eqb seen v) seen several))

unfoldable pub see_word : List ℕ → Word → ℕ → ℕ
see_word m Zero seen = seen
see_word m TooLarge seen = seen
see_word m (Positive v) seen = see_at (get_or m (slot v.0 true) 0) v.0 seen
see_word m (Negative v) seen = see_at (get_or m (slot v.0 false) 0) v.0 seen

-- A literal of v is reached from entries of another variable: the mark of its opposite, at `at`, becomes 2.
unfoldable pub reach_at : ℕ → ℕ → ℕ → List ℕ → List ℕ
reach_at entry v at m = select (eqb entry 0) m (select (eqb entry v) m (select (eqb (get_or m at 0) 1) (set m at 2) m))

unfoldable pub reach_word : ℕ → Word → List ℕ → List ℕ
reach_word entry Zero m = m
reach_word entry TooLarge m = m
reach_word entry (Positive v) m = reach_at entry v.0 (slot v.0 false) m
reach_word entry (Negative v) m = reach_at entry v.0 (slot v.0 true) m

-- The words of a clause one after the other, and the clauses of a pass.
unfoldable pub clause_entry : List ℕ → ℕ → List ℤ → ℕ
clause_entry m seen [] = seen
clause_entry m seen (w ∷ C) = clause_entry m (see_word m (word_of w) seen) C

unfoldable pub reach_clause : ℕ → List ℤ → List ℕ → List ℕ
reach_clause entry [] m = m
reach_clause entry (w ∷ C) m = reach_clause entry C (reach_word entry (word_of w) m)

-- A clause ends before the place `end`, which is behind its 0 or the table's end; and where that clause begins.
abbrev pub Boundary : List ℤ → (end : ℕ) → Type 0
Boundary ws end = 0 < end → words_after ws (end - 1) ≡ drop end ws

pub record ClauseBefore (ws : List ℤ) (end from : ℕ) : Type 0 where
  pub before : from < end
  pub ends : words_after ws from ≡ drop end ws
  pub boundary : Boundary ws from

unfoldable pub pass : List (List ℤ) → List ℕ → List ℕ
pass [] m = m
pass (C ∷ Cs) m = pass Cs (reach_clause (clause_entry m 0 C) C m)
