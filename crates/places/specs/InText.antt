-- Where a text is refused (02, P1): at a place in the text, the one behind its last byte included, with the line and the column of that place
-- by the definitions of Position, which know no reader; 2 has no place. Assumes nothing.
use Rattle.std.specs.Prelude.{ℕ, zero, suc, ◌+◌, ◌≤◌, ◌≡◌, refl, Bool, leb, ltb, eqb, ℤ, pos, length, drop}
use Rattle.std.proofs.Math.Bool.{true, false}
use Rattle.std.proofs.Math.Option.{Option, none, some}
use mathlib.Core.List.{List, [], ◌∷◌, ◌++◌}
use Rattle.std.proofs.Common.{arith, eqb-true, length-drop}
use Rattle.std.proofs.lemmas.Bool.{eqb-false}
use Rattle.qbf.specs.Formula.{Quantifier, entry, Prefix, listed}
use Rattle.formula.specs.Bounds.{variable_bound, count_bound, text_bound}
use Rattle.scanner.specs.Position.{line_at, column_at}
use Rattle.formula.specs.Free.{completed}
use Rattle.formula.specs.Prefix.{entry_fits, prefix_words}
use Rattle.formula.specs.Refusal.{refusal, number, in_text, require, unless}
use Rattle.formula.specs.Tables.{is_in, zeros}
use Rattle.scanner.specs.Token.{is_blank, lead_step, lead_place, lead_from, first_token, Token, emit, ended, joined, tokens_from, tokens, same, p_text, cnf_text, a_text, e_text, Number, natural, negative, no_number, number_of}
use Rattle.formula.specs.Text.{
  Reading,
  read,
  refused,
  State,
  wantsP,
  wantsCnf,
  wantsV,
  wants_c,
  between_sets,
  in_set,
  clauses,
  stopped,
  open_clause,
  is_open,
  header_number,
  variable_reason,
  literal_reason,
  closing_reason,
  opens,
  set_token,
  put_literal,
  clauses_token,
  clause_token,
  step,
  run,
  at_end,
  clauses_ending,
  tables_ending,
  ending,
  reading,
}
use Rattle.formula.specs.Word.{signed}
use Rattle.scanner.specs.declared.token.Lead.{Lead}
use Rattle.scanner.specs.declared.token.Lead.TheVariants.{LineStart, InLine, Comment, Over}
use Rattle.formula.specs.declared.refusal.Reason.{Reason}
use Rattle.formula.specs.declared.refusal.Reason.TheVariants.{Headless, Oversized, NoRoom, BadToken, Unfinished, Miscount}
use Rattle.formula.specs.declared.refusal.Refusal.{Refusal}

-- 2 has place, line and column 0; any other reason has a place in the text, with its line and its column.
pub record PlacedIn (text : List ℕ) (r : Refusal) : Type 0 where
  pub oversized : number r.reason ≡ 2 → (r.place ≡ 0) × (r.line ≡ 0) × (r.column ≡ 0)
  pub inside : r.place ≤ length text
  pub at_its_place : (number r.reason ≡ 2 → ⊥) → (r.line ≡ line_at text r.place) × (r.column ≡ column_at text r.place)

-- Every token stands in the text.
module _ (n : ℕ) where
  abbrev TokensIn : List Token → Type 0
  TokensIn [] = Unit {0}
  TokensIn (t ∷ ts) = (t.place ≤ n) × TokensIn ts

  emit_in : (at : ℕ) (bytes : List ℕ) (later : List Token) → at ≤ n → TokensIn later → TokensIn (emit at bytes later)
  emit_in at [] later h i = i
  emit_in at (b ∷ bytes) later h i = (omega arith, i)

  tokens_from_in : (at : ℕ) (bytes bs : List ℕ) → at + length bs ≤ n → TokensIn (tokens_from at bytes bs)
  unfolding tokens_from
  tokens_from_in at bytes [] h = emit_in at bytes [] (omega arith) tt
  tokens_from_in at bytes (b ∷ bs) h =
      emit_in at (ended (is_blank b) bytes) (tokens_from (at + 1) (joined (is_blank b) bytes b) bs) (omega arith)
      (tokens_from_in (at + 1) (joined (is_blank b) bytes b) bs (omega arith))

lead_in : (at : ℕ) (l : Lead) (bs : List ℕ) → lead_from at l bs ≤ at + length bs
unfolding lead_from
lead_in at l [] = omega arith
lead_in at l (b ∷ bs) = go (lead_step l b) (lead_in (at + 1) (lead_step l b) bs)
  where
    go : (m : Lead) → lead_from (at + 1) (lead_step l b) bs ≤ at + 1 + length bs → lead_place m at (lead_from (at + 1) (lead_step l b) bs) ≤ at + suc (length bs)
    go LineStart h = omega arith
    go InLine h = omega arith
    go Comment h = omega arith
    go Over h = omega arith

tokens_in_lem : (text : List ℕ) → TokensIn (length text) (tokens text)
tokens_in_lem text =
    tokens_from_in (length text) (first_token text) [] (drop (first_token text) text)
    (omega (arith, lead_in 0 LineStart text, length-drop (first_token text) text))

-- A state that is stopped is so at a place in the text; 0 stands for any other.
abbrev stopped_at : State → ℕ
stopped_at wantsP = 0
stopped_at wantsCnf = 0
stopped_at wantsV = 0
stopped_at (wants_c v) = 0
stopped_at (between_sets v c P) = 0
stopped_at (in_set v c q filled P) = 0
stopped_at (clauses v c P words) = 0
stopped_at (stopped at r) = at

module _ (prefixRoom clauseRoom n at : ℕ) (h : at ≤ n) where
  require_in : (b : Bool) (r : Reason) (later : State) → stopped_at later ≤ n → stopped_at (require b (stopped at r) later) ≤ n
  require_in true r later i = i
  require_in false r later i = h

  unless_in : (o : Option Reason) (done : State) → stopped_at done ≤ n → stopped_at (unless (stopped at) o done) ≤ n
  unless_in (some r) done i = h
  unless_in none done i = i

  header_number_in : (bound : ℕ) (m : Number) (next : ℕ → State) → ((k : ℕ) → stopped_at (next k) ≤ n) → stopped_at (header_number bound at m next) ≤ n
  header_number_in bound (natural k) next i = require_in (leb k bound) Oversized (next k) (i k)
  header_number_in bound (negative k) next i = h
  header_number_in bound no_number next i = h

  opens_in : (e a : Bool) (v c : ℕ) (P : Prefix) (later : State) → stopped_at later ≤ n → stopped_at (opens e a v c P later) ≤ n
  opens_in true a v c P later i = omega arith
  opens_in false true v c P later i = omega arith
  opens_in false false v c P later i = i

  set_token_in : (v c : ℕ) (q : Quantifier) (filled : Bool) (P : Prefix) (m : Number) → stopped_at (set_token prefixRoom clauseRoom at v c q filled P m) ≤ n
  set_token_in v c q filled P (natural zero) = require_in filled BadToken (between_sets v c P) (omega arith)
  set_token_in v c q filled P (natural (suc k)) =
      unless_in (variable_reason v (suc k) (is_in (suc k) (listed P)) (entry_fits prefixRoom (length P))) (in_set v c q true (P ++ (entry (suc k) q ∷ []))) (omega arith)
  set_token_in v c q filled P (negative k) = h
  set_token_in v c q filled P no_number = h

  literal_in : (v c : ℕ) (P : Prefix) (words : List ℤ) (positive : Bool) (k : ℕ) → stopped_at (put_literal prefixRoom clauseRoom at v c P words positive k) ≤ n
  literal_in v c P words positive k =
      unless_in (literal_reason v k (is_in k (open_clause words)) (length words) clauseRoom) (clauses v c P (words ++ (signed positive k ∷ []))) (omega arith)

  clause_token_in : (v c : ℕ) (P : Prefix) (words : List ℤ) (m : Number) → stopped_at (clause_token prefixRoom clauseRoom at v c P words m) ≤ n
  clause_token_in v c P words (natural zero) = unless_in (closing_reason (length words) clauseRoom) (clauses v c P (words ++ (pos 0 ∷ []))) (omega arith)
  clause_token_in v c P words (natural (suc k)) = literal_in v c P words true (suc k)
  clause_token_in v c P words (negative k) = literal_in v c P words false k
  clause_token_in v c P words no_number = h

  clauses_token_in : (v c : ℕ) (P : Prefix) (words : List ℤ) (m : Number) → stopped_at (clauses_token prefixRoom clauseRoom at v c P words m) ≤ n
  clauses_token_in v c P words m = require_in (ltb (zeros words) c) Miscount (clause_token prefixRoom clauseRoom at v c P words m) (clause_token_in v c P words m)

module _ (prefixRoom clauseRoom n : ℕ) where
  step_in : (s : State) (t : Token) → t.place ≤ n → stopped_at s ≤ n → stopped_at (step prefixRoom clauseRoom s t) ≤ n
  unfolding step
  step_in wantsP t h i = require_in prefixRoom clauseRoom n t.place h (same t.bytes p_text) Headless wantsCnf (omega arith)
  step_in wantsCnf t h i = require_in prefixRoom clauseRoom n t.place h (same t.bytes cnf_text) Headless wantsV (omega arith)
  step_in wantsV t h i = header_number_in prefixRoom clauseRoom n t.place h variable_bound (number_of t.bytes) wants_c (λ k. omega arith)
  step_in (wants_c v) t h i = header_number_in prefixRoom clauseRoom n t.place h count_bound (number_of t.bytes) (λ c. between_sets v c []) (λ k. omega arith)
  step_in (between_sets v c P) t h i =
      opens_in prefixRoom clauseRoom n t.place h (same t.bytes e_text) (same t.bytes a_text) v c P
      (clauses_token prefixRoom clauseRoom t.place v c P [] (number_of t.bytes))
      (clauses_token_in prefixRoom clauseRoom n t.place h v c P [] (number_of t.bytes))
  step_in (in_set v c q filled P) t h i = set_token_in prefixRoom clauseRoom n t.place h v c q filled P (number_of t.bytes)
  step_in (clauses v c P words) t h i = clauses_token_in prefixRoom clauseRoom n t.place h v c P words (number_of t.bytes)
  step_in (stopped at r) t h i = i

  run_in : (s : State) (ts : List Token) → TokensIn n ts → stopped_at s ≤ n → stopped_at (run prefixRoom clauseRoom s ts) ≤ n
  unfolding run
  run_in s [] h i = i
  run_in s (t ∷ ts) h i = run_in (step prefixRoom clauseRoom s t) ts h.1 (step_in s t h.0 i)

module _ (text : List ℕ) where
  in_text_placed : (at : ℕ) (r : Reason) → at ≤ length text → PlacedIn text (in_text text at r)
  in_text_placed at r h = go (eqb (number r) 2) refl
    where
      go : (b : Bool) → eqb (number r) 2 ≡ b → PlacedIn text (in_text text at r)
      go true e = rw e (record { oversized = λ q. (refl, refl, refl); inside = omega arith; at_its_place = λ n. absurd (n (eqb-true (number r) 2 e)) })
      go false e = rw e (record { oversized = λ q. absurd (eqb-false (number r) 2 e q); inside = h; at_its_place = λ n. (refl, refl) })

  end_placed : (r : Reason) → PlacedIn text (in_text text (length text) r)
  end_placed r = in_text_placed (length text) r (omega arith)

  -- A text, or a file, that is too long.
  pub oversized_placed : PlacedIn text (refusal Oversized 0)
  oversized_placed = record { oversized = λ h. (refl, refl, refl); inside = omega arith; at_its_place = λ n. absurd (n refl) }

  -- What is read is no refusal, or one that is so placed.
  abbrev pub ReadPlaced : Reading → Type 0
  ReadPlaced (read prefix words count) = Unit {0}
  ReadPlaced (refused r) = PlacedIn text r

  clauses_placed : (o m f : Bool) (prefix words : List ℤ) (count : ℕ) → ReadPlaced (clauses_ending text o m (require f (refused (at_end text NoRoom)) (read prefix words count)))
  clauses_placed true m f prefix words count = end_placed Unfinished
  clauses_placed false true f prefix words count = end_placed Miscount
  clauses_placed false false true prefix words count = tt
  clauses_placed false false false prefix words count = end_placed NoRoom

  tables_placed : (prefixRoom v c : ℕ) (P : Prefix) (words : List ℤ) → ReadPlaced (tables_ending prefixRoom text v c P words)
  tables_placed prefixRoom v c P words =
      clauses_placed (is_open (open_clause words)) (ltb (zeros words) c) (leb (length (prefix_words (completed v P words))) prefixRoom) (prefix_words (completed v P words)) words c

  ending_placed : (prefixRoom : ℕ) (s : State) → stopped_at s ≤ length text → ReadPlaced (ending prefixRoom text s)
  unfolding ending
  ending_placed prefixRoom wantsP h = end_placed Headless
  ending_placed prefixRoom wantsCnf h = end_placed Headless
  ending_placed prefixRoom wantsV h = end_placed Headless
  ending_placed prefixRoom (wants_c v) h = end_placed Headless
  ending_placed prefixRoom (between_sets v c P) h = tables_placed prefixRoom v c P []
  ending_placed prefixRoom (in_set v c q filled P) h = end_placed Unfinished
  ending_placed prefixRoom (clauses v c P words) h = tables_placed prefixRoom v c P words
  ending_placed prefixRoom (stopped at r) h = in_text_placed at r h

  reading_placed : (prefixRoom clauseRoom : ℕ) → ReadPlaced (reading text prefixRoom clauseRoom)
  unfolding reading
  reading_placed prefixRoom clauseRoom = go (leb (length text) text_bound)
    where
      go : (b : Bool) → ReadPlaced (require b (refused (refusal Oversized 0)) (ending prefixRoom text (run prefixRoom clauseRoom wantsP (tokens text))))
      go true =
          ending_placed prefixRoom (run prefixRoom clauseRoom wantsP (tokens text))
          (run_in prefixRoom clauseRoom (length text) wantsP (tokens text) (tokens_in_lem text) (omega arith))
      go false = oversized_placed

  -- Each refusal of a text.
  pub refused_placed : (prefixRoom clauseRoom : ℕ) (r : Refusal) → reading text prefixRoom clauseRoom ≡ refused r → PlacedIn text r
  refused_placed prefixRoom clauseRoom r e = rw e at (reading_placed prefixRoom clauseRoom)
