-- No text is refused as 7 (02, P2): a variable that no set binds is added to the prefix. Tables that are handed in keep 7. Assumes nothing.
use Rattle.std.specs.Prelude.{ℕ, zero, suc, ◌≡◌, refl, Bool, not, ◌&&◌, leb, ltb, eqb, ℤ, pos, length}
use Rattle.std.proofs.Common.{arith}
use Rattle.std.proofs.Math.Bool.{true, false}
use Rattle.std.proofs.Math.Option.{Option, none, some}
use mathlib.Core.List.{List, [], ◌∷◌, ◌++◌}
use Rattle.qbf.specs.Formula.{Quantifier, entry, Prefix, listed}
use Rattle.formula.specs.Bounds.{variable_bound, count_bound, matrix_bound, text_bound}
use Rattle.formula.specs.Free.{completed}
use Rattle.formula.specs.Prefix.{entry_fits, prefix_words}
use Rattle.formula.specs.Refusal.{refusal, number, in_text, require, unless}
use Rattle.formula.specs.Tables.{is_in, zeros}
use Rattle.scanner.specs.Token.{Token, tokens, same, p_text, cnf_text, a_text, e_text, Number, natural, negative, no_number, number_of}
use Rattle.formula.specs.Text.{
  Reading,
  read,
  refused,
  State,
  wantsP,
  wantsCnf,
  wantsV,
  wants_c,
  between_sets,
  in_set,
  clauses,
  stopped,
  open_clause,
  is_open,
  header_number,
  variable_reason,
  literal_reason,
  closing_reason,
  opens,
  set_token,
  put_literal,
  clauses_token,
  clause_token,
  step,
  run,
  at_end,
  clauses_ending,
  tables_ending,
  ending,
  reading,
}
use Rattle.formula.specs.Word.{signed}
use Rattle.formula.specs.declared.refusal.Reason.{Reason}
use Rattle.formula.specs.declared.refusal.Reason.TheVariants.{Headless, Oversized, NoRoom, BadToken, OutOfRange, BoundTwice, Clash, Unfinished, Miscount}
use Rattle.formula.specs.declared.refusal.Refusal.{Refusal}

abbrev Not7 : Reason → Type 0
Not7 r = number r ≡ 7 → ⊥

-- The reason of a state that is stopped, and one that there may be.
abbrev Unstopped : State → Type 0
Unstopped wantsP = Unit {0}
Unstopped wantsCnf = Unit {0}
Unstopped wantsV = Unit {0}
Unstopped (wants_c v) = Unit {0}
Unstopped (between_sets v c P) = Unit {0}
Unstopped (in_set v c q filled P) = Unit {0}
Unstopped (clauses v c P words) = Unit {0}
Unstopped (stopped at r) = Not7 r

abbrev MayNot7 : Option Reason → Type 0
MayNot7 none = Unit {0}
MayNot7 (some r) = Not7 r

require_may : (b : Bool) (r : Reason) (later : Option Reason) → Not7 r → MayNot7 later → MayNot7 (require b (some r) later)
require_may true r later n h = h
require_may false r later n h = n

require_state : (b : Bool) (at : ℕ) (r : Reason) (later : State) → Not7 r → Unstopped later → Unstopped (require b (stopped at r) later)
require_state true at r later n h = h
require_state false at r later n h = n

unless_state : (at : ℕ) (o : Option Reason) (done : State) → MayNot7 o → Unstopped done → Unstopped (unless (stopped at) o done)
unless_state at (some r) done n h = n
unless_state at none done n h = h

variable_may : (v n : ℕ) (known fits : Bool) → MayNot7 (variable_reason v n known fits)
unfolding variable_reason
variable_may v n known fits =
    require_may (leb n v) OutOfRange _ (λ e. omega (arith, e))
    (require_may (not known) BoundTwice _ (λ e. omega (arith, e)) (require_may fits NoRoom none (λ e. omega (arith, e)) tt))

literal_may : (v n : ℕ) (clash : Bool) (used room : ℕ) → MayNot7 (literal_reason v n clash used room)
unfolding literal_reason
literal_may v n clash used room =
    require_may (ltb 0 n && leb n v) OutOfRange _ (λ e. omega (arith, e))
    (require_may (ltb used matrix_bound) Oversized _ (λ e. omega (arith, e))
    (require_may (not clash) Clash _ (λ e. omega (arith, e)) (require_may (ltb used room) NoRoom none (λ e. omega (arith, e)) tt)))

closing_may : (used room : ℕ) → MayNot7 (closing_reason used room)
unfolding closing_reason
closing_may used room =
    require_may (ltb used matrix_bound) Oversized _ (λ e. omega (arith, e)) (require_may (ltb used room) NoRoom none (λ e. omega (arith, e)) tt)

number_state : (bound at : ℕ) (m : Number) (next : ℕ → State) → ((k : ℕ) → Unstopped (next k)) → Unstopped (header_number bound at m next)
number_state bound at (natural k) next h = require_state (leb k bound) at Oversized (next k) (λ e. omega (arith, e)) (h k)
number_state bound at (negative k) next h = λ e. omega (arith, e)
number_state bound at no_number next h = λ e. omega (arith, e)

opens_state : (e a : Bool) (v c : ℕ) (P : Prefix) (later : State) → Unstopped later → Unstopped (opens e a v c P later)
opens_state true a v c P later h = tt
opens_state false true v c P later h = tt
opens_state false false v c P later h = h

module _ (prefixRoom clauseRoom : ℕ) where
  set_state : (at v c : ℕ) (q : Quantifier) (filled : Bool) (P : Prefix) (m : Number) → Unstopped (set_token prefixRoom clauseRoom at v c q filled P m)
  set_state at v c q filled P (natural zero) = require_state filled at BadToken (between_sets v c P) (λ e. omega (arith, e)) tt
  set_state at v c q filled P (natural (suc k)) =
      unless_state at (variable_reason v (suc k) (is_in (suc k) (listed P)) (entry_fits prefixRoom (length P))) (in_set v c q true (P ++ (entry (suc k) q ∷ []))) (variable_may v (suc k) (is_in (suc k) (listed P)) (entry_fits prefixRoom (length P))) tt
  set_state at v c q filled P (negative k) = λ e. omega (arith, e)
  set_state at v c q filled P no_number = λ e. omega (arith, e)

  literal_state : (at v c : ℕ) (P : Prefix) (words : List ℤ) (positive : Bool) (k : ℕ) → Unstopped (put_literal prefixRoom clauseRoom at v c P words positive k)
  literal_state at v c P words positive k =
      unless_state at (literal_reason v k (is_in k (open_clause words)) (length words) clauseRoom) (clauses v c P (words ++ (signed positive k ∷ []))) (literal_may v k (is_in k (open_clause words)) (length words) clauseRoom) tt

  clause_state : (at v c : ℕ) (P : Prefix) (words : List ℤ) (m : Number) → Unstopped (clause_token prefixRoom clauseRoom at v c P words m)
  clause_state at v c P words (natural zero) =
      unless_state at (closing_reason (length words) clauseRoom) (clauses v c P (words ++ (pos 0 ∷ []))) (closing_may (length words) clauseRoom) tt
  clause_state at v c P words (natural (suc k)) = literal_state at v c P words true (suc k)
  clause_state at v c P words (negative k) = literal_state at v c P words false k
  clause_state at v c P words no_number = λ e. omega (arith, e)

  clauses_state : (at v c : ℕ) (P : Prefix) (words : List ℤ) (m : Number) → Unstopped (clauses_token prefixRoom clauseRoom at v c P words m)
  clauses_state at v c P words m =
      require_state (ltb (zeros words) c) at Miscount (clause_token prefixRoom clauseRoom at v c P words m) (λ e. omega (arith, e)) (clause_state at v c P words m)

  step_state : (s : State) (t : Token) → Unstopped s → Unstopped (step prefixRoom clauseRoom s t)
  unfolding step
  step_state wantsP t h = require_state (same t.bytes p_text) t.place Headless wantsCnf (λ e. omega (arith, e)) tt
  step_state wantsCnf t h = require_state (same t.bytes cnf_text) t.place Headless wantsV (λ e. omega (arith, e)) tt
  step_state wantsV t h = number_state variable_bound t.place (number_of t.bytes) wants_c (λ k. tt)
  step_state (wants_c v) t h = number_state count_bound t.place (number_of t.bytes) (λ c. between_sets v c []) (λ k. tt)
  step_state (between_sets v c P) t h =
      opens_state (same t.bytes e_text) (same t.bytes a_text) v c P
      (clauses_token prefixRoom clauseRoom t.place v c P [] (number_of t.bytes))
      (clauses_state t.place v c P [] (number_of t.bytes))
  step_state (in_set v c q filled P) t h = set_state t.place v c q filled P (number_of t.bytes)
  step_state (clauses v c P words) t h = clauses_state t.place v c P words (number_of t.bytes)
  step_state (stopped at r) t h = h

  run_state : (s : State) (ts : List Token) → Unstopped s → Unstopped (run prefixRoom clauseRoom s ts)
  unfolding run
  run_state s [] h = h
  run_state s (t ∷ ts) h = run_state (step prefixRoom clauseRoom s t) ts (step_state s t h)

-- What is read is no refusal, or one for another reason.
abbrev ReadNot7 : Reading → Type 0
ReadNot7 (read prefix words count) = Unit {0}
ReadNot7 (refused r) = Not7 r.reason

in_text_not7 : (text : List ℕ) (at : ℕ) (r : Reason) → Not7 r → ReadNot7 (refused (in_text text at r))
in_text_not7 text at r n = go (eqb (number r) 2) refl
  where
    go : (b : Bool) → eqb (number r) 2 ≡ b → ReadNot7 (refused (in_text text at r))
    go true e = rw e n
    go false e = rw e n

module _ (text : List ℕ) where
  end_not7 : (r : Reason) → Not7 r → ReadNot7 (refused (at_end text r))
  end_not7 r n = in_text_not7 text (length text) r n

  clauses_not7 : (o m f : Bool) (prefix words : List ℤ) (count : ℕ) → ReadNot7 (clauses_ending text o m (require f (refused (at_end text NoRoom)) (read prefix words count)))
  clauses_not7 true m f prefix words count = end_not7 Unfinished (λ e. omega (arith, e))
  clauses_not7 false true f prefix words count = end_not7 Miscount (λ e. omega (arith, e))
  clauses_not7 false false true prefix words count = tt
  clauses_not7 false false false prefix words count = end_not7 NoRoom (λ e. omega (arith, e))

  tables_not7 : (prefixRoom v c : ℕ) (P : Prefix) (words : List ℤ) → ReadNot7 (tables_ending prefixRoom text v c P words)
  tables_not7 prefixRoom v c P words =
      clauses_not7 (is_open (open_clause words)) (ltb (zeros words) c) (leb (length (prefix_words (completed v P words))) prefixRoom) (prefix_words (completed v P words)) words c

  ending_not7 : (prefixRoom : ℕ) (s : State) → Unstopped s → ReadNot7 (ending prefixRoom text s)
  unfolding ending
  ending_not7 prefixRoom wantsP h = end_not7 Headless (λ e. omega (arith, e))
  ending_not7 prefixRoom wantsCnf h = end_not7 Headless (λ e. omega (arith, e))
  ending_not7 prefixRoom wantsV h = end_not7 Headless (λ e. omega (arith, e))
  ending_not7 prefixRoom (wants_c v) h = end_not7 Headless (λ e. omega (arith, e))
  ending_not7 prefixRoom (between_sets v c P) h = tables_not7 prefixRoom v c P []
  ending_not7 prefixRoom (in_set v c q filled P) h = end_not7 Unfinished (λ e. omega (arith, e))
  ending_not7 prefixRoom (clauses v c P words) h = tables_not7 prefixRoom v c P words
  ending_not7 prefixRoom (stopped at r) h = in_text_not7 text at r h

  reading_not7 : (prefixRoom clauseRoom : ℕ) → ReadNot7 (reading text prefixRoom clauseRoom)
  unfolding reading
  reading_not7 prefixRoom clauseRoom = go (leb (length text) text_bound)
    where
      go : (b : Bool) → ReadNot7 (require b (refused (refusal Oversized 0)) (ending prefixRoom text (run prefixRoom clauseRoom wantsP (tokens text))))
      go true = ending_not7 prefixRoom (run prefixRoom clauseRoom wantsP (tokens text)) (run_state prefixRoom clauseRoom wantsP (tokens text) tt)
      go false = λ e. omega (arith, e)

  pub never_unbound : (prefixRoom clauseRoom : ℕ) (r : Refusal) → reading text prefixRoom clauseRoom ≡ refused r → number r.reason ≡ 7 → ⊥
  never_unbound prefixRoom clauseRoom r e = rw e at (reading_not7 prefixRoom clauseRoom)
