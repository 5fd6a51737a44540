-- How long the written text is: of admitted tables it stays within the bound on text, so the reader takes it, and no place
-- that the writer counts overflows. Assumes nothing.
use Rattle.std.specs.Prelude.{ℕ, zero, suc, ◌+◌, ◌*◌, ◌^◌, ◌≤◌, ◌<◌, ◌≡◌, refl, Bool, true, false, length, get_or, eqb, ℤ, pos, negsuc, nat_abs}
use mathlib.Core.List.{List, [], ◌∷◌, Memᴰ}
use Rattle.std.proofs.Math.Decide.{dec_lt}
use Rattle.std.proofs.Common.{arith, length-append}
use Rattle.qbf.specs.Formula.{Entry, Prefix}
use Rattle.formula.specs.Bounds.{variable_bound, text_bound}
use Rattle.formula.specs.Prefix.{prefix_of, Entries}
use Rattle.formula.specs.Tables.{zeros, Admitted}
use Rattle.formula.proofs.Theorems.Tables.Laws.{admitted_prefix_length, admitted_clauses_length, admitted_count, admitted_entries, admitted_clause_at}
use Rattle.formula.specs.Decimal.{decimal}
use Rattle.formula.specs.Decimal.Laws.{length_decimal}
use Rattle.formula.specs.Write.{written, largest, letter_of}
use Rattle.formula.specs.Write.Stream.{Bounded, line_end, line_turn, entry_text, prefix_text, word_text, clauses_text}
use Rattle.formula.specs.Write.Laws.{length_header}
use Rattle.formula.proofs.Theorems.Write.Lines.{written_stream}

-- Admitted clause tables are bounded; past the end a word is read as 0.
bounded_by : (ws : List ℤ) → ((i : ℕ) → suc i ≤ length ws → nat_abs (get_or ws i (pos 0)) ≤ variable_bound) → Bounded ws
bounded_by ws h = record { bounded = λ i. go i (dec_lt i (length ws)) }
  where
    past : (vs : List ℤ) (i : ℕ) → length vs ≤ i → nat_abs (get_or vs i (pos 0)) ≡ 0
    past [] i l = refl
    past (v ∷ vs) zero l = absurd (omega arith)
    past (v ∷ vs) (suc i) l = past vs i (omega arith)

    go : (i : ℕ) → Dec (suc i ≤ length ws) → nat_abs (get_or ws i (pos 0)) ≤ variable_bound
    go i (yes l) = h i l
    go i (no l) = omega (arith, past ws i (omega arith))

pub clauses_bounded : (p c : List ℤ) → Admitted p c → Bounded c
clauses_bounded p c a = bounded_by c (λ i l. admitted_clause_at p c a i (pos 0) l)

bounded_later : {w : ℤ} {ws : List ℤ} → Bounded (w ∷ ws) → Bounded ws
bounded_later h = record { bounded = λ i. h.bounded (suc i) }

-- Every variable listed is within the bound.
abbrev Small : Prefix → Type 0
Small P = (x : Entry) → Memᴰ x P → x.variable ≤ variable_bound

largest_small : (P : Prefix) → Small P → largest P ≤ variable_bound
unfolding largest
largest_small [] h = omega arith
largest_small (x ∷ P) h = omega (arith, h x (Memᴰ.head refl), largest_small P (λ y m. h y (Memᴰ.tail m)))

pub largest_bounded : (p : List ℤ) → Entries p → largest (prefix_of p) ≤ variable_bound
largest_bounded p h = largest_small (prefix_of p) (λ x m. (h.ranged x m).1)

-- A number below 10,000 has at most four digits.
length_number : (n : ℕ) → n ≤ 9999 → length (decimal n) ≤ 4
length_number n h = length_decimal 3 n (omega arith)

length_line_end : (last : ℕ) → length (line_end last) ≤ 2
unfolding line_end
length_line_end zero = omega arith
length_line_end (suc n) = omega arith

length_line_turn : (same : Bool) (last letter : ℕ) → length (line_turn same last letter) ≤ 4
unfolding line_turn
length_line_turn true last letter = omega arith
length_line_turn false last letter = rw length-append (omega (arith, length_line_end last))

length_entry : (last letter variable : ℕ) → variable ≤ 1024 → length (entry_text last letter variable) ≤ 9
unfolding entry_text
length_entry last letter variable h =
    simp length-append (omega (arith, length_line_turn (eqb last letter) last letter, length_number variable (omega arith)))

length_prefix : (last : ℕ) (P : Prefix) → Small P → length (prefix_text last P) ≤ 9 * length P + 2
unfolding prefix_text
length_prefix last [] h = omega (arith, length_line_end last)
length_prefix last (x ∷ P) h =
    rw length-append
    (omega (
      arith,
      length_entry last (letter_of x.quantifier) x.variable (h x (Memᴰ.head refl)),
      length_prefix (letter_of x.quantifier) P (λ y m. h y (Memᴰ.tail m)),
    ))

length_word : (w : ℤ) → nat_abs w ≤ 1024 → length (word_text w) ≤ 6
unfolding word_text
length_word (pos zero) h = omega arith
length_word (pos (suc n)) h = rw length-append (omega (arith, length_number (suc n) (omega arith)))
length_word (negsuc n) h = rw length-append (omega (arith, length_number (suc n) (omega arith)))

length_clauses : (ws : List ℤ) → Bounded ws → length (clauses_text ws) ≤ 6 * length ws
unfolding clauses_text
length_clauses [] h = omega arith
length_clauses (w ∷ ws) h = rw length-append (omega (arith, length_word w (h.bounded 0), length_clauses ws (bounded_later h)))

-- 16 bytes of header, 9 a variable, 2 to end the last line, 6 a clause word.
pub length_written : (p c : List ℤ) → Admitted p c → length (written p c) ≤ 402450
length_written p c a =
    simp (written_stream p c a, length-append)
    (omega (
      arith,
      length_header (largest (prefix_of p)) (zeros c),
      length_number (largest (prefix_of p)) (omega (arith, largest_bounded p (admitted_entries p c a))),
      length_number (zeros c) (omega (arith, admitted_count p c a)),
      length_prefix 0 (prefix_of p) (λ x m. ((admitted_entries p c a).ranged x m).1),
      length_clauses c (clauses_bounded p c a),
      admitted_prefix_length p c a,
      admitted_clauses_length p c a,
    ))

pub written_fits : (p c : List ℤ) → Admitted p c → length (written p c) ≤ text_bound
written_fits p c a = omega (arith, length_written p c a)

-- The text written from the place 0 on stays far below what a place can be.
pub written_below : (p c : List ℤ) → Admitted p c → 0 + length (written p c) < 2 ^ 64
written_below p c a = omega (arith, length_written p c a)
