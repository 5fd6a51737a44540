-- The written text as the writer's loops go through it, entry by entry and word by word, and what its inner functions ask and promise. That
-- it is the text of Write.antt is the law `written_stream` of proofs/Theorems/Write/Lines.antt.
use Rattle.std.specs.Prelude.{Result}
use Rattle.formula.specs.declared.refusal.Refusal.{Refusal}
use Rattle.std.specs.Prelude.{ℕ, zero, suc, ◌≤◌, ◌≡◌, Bool, true, false, List, [], ◌∷◌, ◌++◌, length, get_or, leb, eqb, ℤ, pos, negsuc, nat_abs}
use Rattle.qbf.specs.Formula.{Prefix}
use Rattle.formula.specs.Bounds.{variable_bound}
use Rattle.formula.specs.Clear.{clear_from, kept_up_to}
use Rattle.formula.specs.Decimal.{decimal}
use Rattle.formula.specs.Write.{letter_of, if_room, answer_writing}

-- The end of the line whose letter is `last`; no line is open where that is 0.
unfoldable pub line_end : ℕ → List ℕ
line_end zero = []
line_end (suc n) = 48 ∷ 10 ∷ []

-- What stands before a variable: nothing on the line of its own quantifier; else the open line ends and its own begins.
unfoldable pub line_turn : Bool → ℕ → ℕ → List ℕ
line_turn true last letter = []
line_turn false last letter = line_end last ++ (letter ∷ 32 ∷ [])

-- A variable of a quantifier with this letter, where the open line's letter is `last`.
unfoldable pub entry_text : ℕ → ℕ → ℕ → List ℕ
entry_text last letter variable = line_turn (eqb last letter) last letter ++ (decimal variable ++ (32 ∷ []))

unfoldable pub prefix_text : ℕ → Prefix → List ℕ
prefix_text last [] = line_end last
prefix_text last (x ∷ P) = entry_text last (letter_of x.quantifier) x.variable ++ prefix_text (letter_of x.quantifier) P

-- A clause word: a literal with the space behind it, or the 0 that ends its line.
unfoldable pub word_text : ℤ → List ℕ
word_text (pos zero) = 48 ∷ 10 ∷ []
word_text (pos (suc n)) = decimal (suc n) ++ (32 ∷ [])
word_text (negsuc n) = 45 ∷ (decimal (suc n) ++ (32 ∷ []))

unfoldable pub clauses_text : List ℤ → List ℕ
clauses_text [] = []
clauses_text (w ∷ ws) = word_text w ++ clauses_text ws

-- Every magnitude is within the bound on variables: what the inner functions of the writer ask of the clause table.
pub record Bounded (ws : List ℤ) : Type 0 where
  pub bounded : (i : ℕ) → nat_abs (get_or ws i (pos 0)) ≤ variable_bound

-- What the end of a writing promises, `used` being the place behind what was written: its answer, and the text with
-- what was not used cleared.
pub record Finishes (text : List ℕ) (used : ℕ) (answer : Result ℕ Refusal) (after : List ℕ) : Type 0 where
  pub answers : answer ≡ answer_writing (if_room (leb used (length text))) used
  pub leaves : after ≡ clear_from 0 (kept_up_to (leb used (length text)) used) text
