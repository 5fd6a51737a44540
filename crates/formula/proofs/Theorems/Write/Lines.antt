-- The lines of the written text are what the writer makes entry by entry and word by word: a line for each run, a line for each clause.
-- Assumes nothing.
use Rattle.std.specs.Prelude.{ℕ, zero, suc, ◌≤◌, ◌≡◌, Bool, length, drop, eqb, ℤ, pos, negsuc}
use Rattle.std.proofs.Math.Path.{refl, ap}
use Rattle.std.proofs.Common.{sym, ◌∙◌, arith}
use Rattle.std.proofs.Math.Bool.{true, false}
use mathlib.Core.List.{List, [], ◌∷◌, ◌++◌, flat_map, append_assoc, append-nil}
use Rattle.qbf.specs.Formula.{Quantifier, existential, universal, Entry, Prefix}
use Rattle.formula.specs.Prefix.{prefix_of}
use Rattle.formula.specs.Decode.{put_first, clauses_of}
use Rattle.formula.specs.Tables.{zeros, Admitted}
use Rattle.formula.proofs.Theorems.Tables.Laws.{zeros_clauses, admitted_closed}
use Rattle.formula.specs.Decimal.{decimal}
use Rattle.formula.specs.Write.{largest, header_text, letter_of, join_if, join_run, runs, variables_text, run_line, literal_text, clause_line, written}
use Rattle.formula.specs.Write.Laws.{line_end_open, line_turn_other}
use Rattle.formula.specs.Write.Stream.{line_end, line_turn, entry_text, prefix_text, word_text, clauses_text}

-- A literal put before the first clause, where there is one, begins its line.
lines_put_first : (w : ℤ) (Cs : List (List ℤ)) → 1 ≤ length Cs → flat_map clause_line (put_first w Cs) ≡ literal_text w ++ (32 ∷ flat_map clause_line Cs)
unfolding flat_map clause_line
lines_put_first w [] h = absurd (omega arith)
lines_put_first w (C ∷ Cs) h = append_assoc (literal_text w) (32 ∷ clause_line C) (flat_map clause_line Cs)

put_first_length : (w : ℤ) (Cs : List (List ℤ)) → 1 ≤ length (put_first w Cs)
put_first_length w [] = omega arith
put_first_length w (C ∷ Cs) = omega arith

put_first_closed : (w : ℤ) (Cs : List (List ℤ)) → 1 ≤ length Cs → length (put_first w Cs) ≡ length Cs
put_first_closed w [] h = absurd (omega arith)
put_first_closed w (C ∷ Cs) h = refl

-- A literal, where the clauses after it are closed.
literal_stream :
    (w : ℤ) (ws : List ℤ) → word_text w ≡ literal_text w ++ (32 ∷ []) → length (put_first w (clauses_of ws)) ≡ zeros ws
    → (length (clauses_of ws) ≡ zeros ws → flat_map clause_line (clauses_of ws) ≡ clauses_text ws)
    → flat_map clause_line (put_first w (clauses_of ws)) ≡ word_text w ++ clauses_text ws
literal_stream w ws e h later =
    let some : 1 ≤ length (clauses_of ws) = omega (arith, h, put_first_length w (clauses_of ws), zeros_clauses ws) in
    let closed : length (clauses_of ws) ≡ zeros ws = sym (put_first_closed w (clauses_of ws) some) ∙ h in
    lines_put_first w (clauses_of ws) some
    ∙ ap {B = List ℕ} (λ r. literal_text w ++ (32 ∷ r)) (later closed)
    ∙ sym (append_assoc (literal_text w) (32 ∷ []) (clauses_text ws))
    ∙ ap {B = List ℕ} (λ r. r ++ clauses_text ws) (sym e)

-- With as many clauses as closing 0s, each clause's line is what its words make.
clauses_stream : (ws : List ℤ) → length (clauses_of ws) ≡ zeros ws → flat_map clause_line (clauses_of ws) ≡ clauses_text ws
unfolding clauses_of zeros clauses_text word_text flat_map clause_line literal_text
clauses_stream [] h = refl
clauses_stream (pos zero ∷ ws) h = ap {B = List ℕ} (λ r. 48 ∷ 10 ∷ r) (clauses_stream ws (omega arith))
clauses_stream (pos (suc n) ∷ ws) h = literal_stream (pos (suc n)) ws refl h (λ k. clauses_stream ws k)
clauses_stream (negsuc n ∷ ws) h = literal_stream (negsuc n) ws refl h (λ k. clauses_stream ws k)

-- What follows a variable of the letter `last`, the later runs being `rs`: the first of them goes on with its line, if it
-- is of that letter; else the line ends.
abbrev go_on : Bool → Prefix → List Prefix → List ℕ
go_on true run rs = variables_text run ++ flat_map run_line rs
go_on false run rs = 48 ∷ 10 ∷ flat_map run_line (run ∷ rs)

abbrev follows : ℕ → List Prefix → List ℕ
follows last [] = 48 ∷ 10 ∷ []
follows last ([] ∷ rs) = 48 ∷ 10 ∷ flat_map run_line rs
follows last ((y ∷ run) ∷ rs) = go_on (eqb last (letter_of y.quantifier)) (y ∷ run) rs

-- A variable, and what follows it, of the run that it begins or joins.
module _ (x : Entry) where
  ends_joined : (b : Bool) (run : Prefix) (rs : List Prefix)
      → flat_map run_line (join_if b x run rs) ≡ letter_of x.quantifier ∷ 32 ∷ (decimal x.variable ++ (32 ∷ go_on b run rs))
  unfolding flat_map run_line variables_text
  ends_joined true run rs = ap {B = List ℕ} (λ r. letter_of x.quantifier ∷ 32 ∷ r) (append_assoc (decimal x.variable) (32 ∷ variables_text run) (flat_map run_line rs))
  ends_joined false run rs =
      ap {B = List ℕ} (λ r. letter_of x.quantifier ∷ 32 ∷ r) (append_assoc (decimal x.variable) (32 ∷ 48 ∷ 10 ∷ []) (flat_map run_line (run ∷ rs)))

  lines_join : (rs : List Prefix) → flat_map run_line (join_run x rs) ≡ letter_of x.quantifier ∷ 32 ∷ (decimal x.variable ++ (32 ∷ follows (letter_of x.quantifier) rs))
  unfolding flat_map run_line variables_text
  lines_join [] = ap {B = List ℕ} (λ r. letter_of x.quantifier ∷ 32 ∷ r) (append-nil (decimal x.variable ++ (32 ∷ 48 ∷ 10 ∷ [])))
  lines_join ([] ∷ rs) = ap {B = List ℕ} (λ r. letter_of x.quantifier ∷ 32 ∷ r) (append_assoc (decimal x.variable) (32 ∷ 48 ∷ 10 ∷ []) (flat_map run_line rs))
  lines_join ((y ∷ run) ∷ rs) = ends_joined (eqb (letter_of x.quantifier) (letter_of y.quantifier)) (y ∷ run) rs

-- The runs after a variable of the letter `last`, where the next entry is y.
abbrev turned : Bool → List ℕ → List ℕ
turned true lines = drop 2 lines
turned false lines = 48 ∷ 10 ∷ lines

module _ (last : ℕ) (y : Entry) where
  go_on_turned : (b : Bool) (run : Prefix) (rs : List Prefix) → go_on b (y ∷ run) rs ≡ turned b (flat_map run_line ((y ∷ run) ∷ rs))
  unfolding flat_map run_line
  go_on_turned true run rs = refl
  go_on_turned false run rs = refl

  follows_joined :
      (b : Bool) (run : Prefix) (rs : List Prefix)
      → follows last (join_if b y run rs) ≡ turned (eqb last (letter_of y.quantifier)) (flat_map run_line (join_if b y run rs))
  follows_joined true run rs = go_on_turned (eqb last (letter_of y.quantifier)) run rs
  follows_joined false run rs = go_on_turned (eqb last (letter_of y.quantifier)) [] (run ∷ rs)

  follows_join : (rs : List Prefix) → follows last (join_run y rs) ≡ turned (eqb last (letter_of y.quantifier)) (flat_map run_line (join_run y rs))
  follows_join [] = go_on_turned (eqb last (letter_of y.quantifier)) [] []
  follows_join ([] ∷ rs) = go_on_turned (eqb last (letter_of y.quantifier)) [] rs
  follows_join ((z ∷ run) ∷ rs) = follows_joined (eqb (letter_of y.quantifier) (letter_of z.quantifier)) (z ∷ run) rs

  -- An open line is left by ending it, or not at all.
  turned_line :
      (b : Bool) (rest : List ℕ) → line_end last ≡ 48 ∷ 10 ∷ [] → turned b (letter_of y.quantifier ∷ 32 ∷ rest) ≡ line_turn b last (letter_of y.quantifier) ++ rest
  unfolding line_turn
  turned_line true rest e = refl
  turned_line false rest e = rw e

letter_open : (q : Quantifier) → letter_of q ≡ 0 → ⊥
unfolding letter_of
letter_open existential e = omega arith
letter_open universal e = omega arith

-- After an entry, the runs to come are what the later entries make.
prefix_follows : (x : Entry) (P : Prefix) → prefix_text (letter_of x.quantifier) P ≡ follows (letter_of x.quantifier) (runs P)
unfolding prefix_text runs entry_text
prefix_follows x [] = line_end_open (letter_of x.quantifier) (letter_open x.quantifier)
prefix_follows x (y ∷ Q) =
    simp append_assoc
    (ap {B = List ℕ} (λ r. line_turn (eqb (letter_of x.quantifier) (letter_of y.quantifier)) (letter_of x.quantifier) (letter_of y.quantifier) ++ (decimal y.variable ++ (32 ∷ r))) (prefix_follows y Q)
    ∙ sym
    (follows_join (letter_of x.quantifier) y (runs Q)
    ∙ ap (turned (eqb (letter_of x.quantifier) (letter_of y.quantifier))) (lines_join y (runs Q))
    ∙ turned_line (letter_of x.quantifier) y (eqb (letter_of x.quantifier) (letter_of y.quantifier)) (decimal y.variable ++ (32 ∷ follows (letter_of y.quantifier) (runs Q))) (line_end_open (letter_of x.quantifier) (letter_open x.quantifier))))

prefix_stream : (P : Prefix) → flat_map run_line (runs P) ≡ prefix_text 0 P
unfolding flat_map runs prefix_text line_end entry_text
prefix_stream [] = refl
prefix_stream (x ∷ P) =
    lines_join x (runs P)
    ∙ rw (line_turn_other 0 (letter_of x.quantifier) (λ e. letter_open x.quantifier (sym e)), append_assoc (decimal x.variable) (32 ∷ []) (prefix_text (letter_of x.quantifier) P), prefix_follows x P)

-- The text of admitted tables, entry by entry and word by word, from V and C.
pub written_stream :
    (p c : List ℤ) → Admitted p c
    → written p c ≡ header_text (largest (prefix_of p)) (zeros c) ++ (prefix_text 0 (prefix_of p) ++ clauses_text c)
unfolding written
written_stream p c a = rw (prefix_stream (prefix_of p), clauses_stream c (admitted_closed p c a))

pub written_parts :
    (p c : List ℤ) (top count : ℕ) → Admitted p c → top ≡ largest (prefix_of p) → count ≡ zeros c
    → written p c ≡ header_text top count ++ (prefix_text 0 (prefix_of p) ++ clauses_text c)
written_parts p c top count a e f = rw (e, f) (written_stream p c a)
