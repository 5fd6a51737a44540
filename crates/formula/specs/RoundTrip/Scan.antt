-- Pieces of text under the reader: bytes that are one token, numbers among them, and a piece that takes one state of the reader to
-- another. Each is said at any place and before any rest, so places are never computed.
use Rattle.std.specs.Prelude.{ℕ, suc, ◌+◌, ◌-◌, ◌/◌, ◌%◌, ◌<◌, ◌≤◌, ◌≡◌, true, false, List, [], ◌∷◌, ◌++◌, ltb, leb, length}
use Rattle.std.proofs.Math.Path.{refl}
use Rattle.std.proofs.Common.{ap, ◌∙◌, append_assoc, append-nil, add-zero, arith, ltb-true, leb-true, lt-ltb, le-leb, ne_eqb, length-append}
use Rattle.std.proofs.lemmas.Bool.{false≢true}
use Rattle.std.proofs.Math.Decide.{ℕ_discrete}
use Rattle.qbf.specs.Connectives.{and_both, both_and}
use Rattle.formula.specs.Decimal.{decimal}
use Rattle.formula.specs.Decimal.Laws.{decimal_induction}
use Rattle.scanner.specs.Position.{line_feed}
use Rattle.scanner.specs.Token.{is_digit, is_blank, AllSolid, IsRun, Token, tokens_from, same, natural, negative, all_digits, value_from, is_numeral, number_of}
use Rattle.scanner.proofs.Theorems.Token.Numbers.{all_snoc, value_snoc}
use Rattle.formula.specs.Text.{State, step, run}

solid_append : (xs ys : List ℕ) → AllSolid xs → AllSolid ys → AllSolid (xs ++ ys)
solid_append [] ys a b = b
solid_append (x ∷ xs) ys a b = (a.0, solid_append xs ys a.1 b)

pub run_append : {xs : List ℕ} (ys : List ℕ) → IsRun xs → AllSolid ys → IsRun (xs ++ ys)
run_append {xs} ys r a = record { no_blank = solid_append xs ys r.no_blank a; full = omega (arith, length-append xs ys, r.full) }

-- Places add up over two pieces.
place_append : (at : ℕ) (xs ys : List ℕ) → at + length xs + length ys ≡ at + length (xs ++ ys)
place_append at xs ys = rw length-append (omega arith)

-- A run goes on.
goes_on : (at : ℕ) (run bytes rest : List ℕ) → AllSolid bytes → tokens_from at run (bytes ++ rest) ≡ tokens_from (at + length bytes) (run ++ bytes) rest
unfolding tokens_from
goes_on at run [] rest a = rw (append-nil run, add-zero at)
goes_on at run (b ∷ bytes) rest a =
    let k : at + 1 + length bytes ≡ at + suc (length bytes) = omega arith in
    rw a.0 (goes_on (at + 1) (run ++ (b ∷ [])) bytes rest a.1 ∙ rw (append_assoc run (b ∷ []) bytes, k))

-- A blank ends a token.
blank_ends :
    (at : ℕ) (bytes : List ℕ) (b : ℕ) (rest : List ℕ) → 1 ≤ length bytes → is_blank b ≡ true
    → tokens_from (at + length bytes) bytes (b ∷ rest) ≡ record { bytes = bytes; place = at } ∷ tokens_from (at + length bytes + 1) [] rest
unfolding tokens_from
blank_ends at [] b rest h e = absurd (omega arith)
blank_ends at (c ∷ bytes) b rest h e = let k : at + suc (length bytes) - suc (length bytes) ≡ at = omega arith in rw (e, k)

-- A digit is a digit, and no blank.
digit_is : (d : ℕ) → d < 10 → is_digit (48 + d) ≡ true
unfolding is_digit
digit_is d h = rw (le-leb 48 (48 + d) (omega arith), le-leb (48 + d) 57 (omega arith))

digit_solid : (d : ℕ) → d < 10 → is_blank (48 + d) ≡ false
unfolding is_blank
digit_solid d h =
    rw (
      ne_eqb (48 + d) 32 (λ e. omega arith),
      ne_eqb (48 + d) 9 (λ e. omega arith),
      ne_eqb (48 + d) 13 (λ e. omega arith),
      ne_eqb (48 + d) line_feed (λ e. omega arith),
    )

-- The digits of a number: a run, digits alone, of its value; from 1 on the first is no 0.
record Digits (m : ℕ) (bytes : List ℕ) : Type 0 where
  one_run : IsRun bytes
  digits : all_digits bytes ≡ true
  value : value_from 0 bytes ≡ m
  lead : 1 ≤ m → is_numeral bytes ≡ true
  nought : m ≡ 0 → same bytes (48 ∷ []) ≡ true

numeral_snoc : (bytes : List ℕ) (b : ℕ) → is_numeral bytes ≡ true → is_digit b ≡ true → is_numeral (bytes ++ (b ∷ [])) ≡ true
numeral_snoc [] b h d = absurd (false≢true h)
numeral_snoc (a ∷ bytes) b h d =
    let k = and_both (ltb 48 a) (all_digits (a ∷ bytes)) h in
    both_and (ltb 48 a) (all_digits ((a ∷ bytes) ++ (b ∷ []))) k.0 (all_snoc (a ∷ bytes) b ∙ both_and (all_digits (a ∷ bytes)) (is_digit b) k.1 d)

decimal_digits : (n : ℕ) → Digits n (decimal n)
unfolding all_digits value_from same
decimal_digits n = decimal_induction Digits small large n
  where
    small : (m : ℕ) → m < 10 → Digits m ((48 + m) ∷ [])
    small m h =
        let d = digit_is m h in
        record {
          one_run = record { no_blank = (digit_solid m h, tt); full = omega arith };
          digits = rw d;
          value = omega arith;
          lead = λ l. rw (d, lt-ltb 48 (48 + m) (omega arith));
          nought = λ z. rw z;
        }

    large : (m : ℕ) (bytes : List ℕ) → 10 ≤ m → Digits (m / 10) bytes → Digits m (bytes ++ ((48 + m % 10) ∷ []))
    large m bytes h t =
        let d = digit_is (m % 10) (omega arith) in
        record {
          one_run = run_append ((48 + m % 10) ∷ []) t.one_run (digit_solid (m % 10) (omega arith), tt);
          digits = all_snoc bytes (48 + m % 10) ∙ both_and (all_digits bytes) (is_digit (48 + m % 10)) t.digits d;
          value = value_snoc 0 bytes (48 + m % 10) ∙ omega (arith, t.value);
          lead = λ l. numeral_snoc bytes (48 + m % 10) (t.lead (omega arith)) d;
          nought = λ z. absurd (omega arith);
        }

pub decimal_run : (n : ℕ) → IsRun (decimal n)
decimal_run n = (decimal_digits n).one_run

-- A word whose first byte is no digit from 1 to 9 is no numeral.
pub numeral_unlike : (bytes : List ℕ) (w : ℕ) → is_numeral bytes ≡ true → ((b : ℕ) → 48 < b → is_digit b ≡ true → b ≡ w → ⊥) → same bytes (w ∷ []) ≡ false
unfolding same all_digits
numeral_unlike [] w h n = refl
numeral_unlike (b ∷ bytes) w h n =
    let k = and_both (ltb 48 b) (all_digits (b ∷ bytes)) h in
    rw (ne_eqb b w (n b (ltb-true 48 b k.0) (and_both (is_digit b) (all_digits bytes) k.1).0))

-- The digits of a number are read as that number, after a minus as its opposite.
pub decimal_number : (n : ℕ) → number_of (decimal n) ≡ natural n
unfolding number_of
decimal_number n = go (ℕ_discrete n 0) (decimal_digits n)
  where
    go : Dec (n ≡ 0) → Digits n (decimal n) → number_of (decimal n) ≡ natural n
    go (yes z) d = rw (d.nought z, z)
    go (no z) d =
        let l = d.lead (omega arith) in
        rw (numeral_unlike (decimal n) 48 l (λ b h e q. omega arith), l, d.value)

pub minus_number : (n : ℕ) → 1 ≤ n → number_of (45 ∷ decimal n) ≡ negative n
unfolding number_of same
minus_number n h = let d = decimal_digits n in rw (d.lead h, d.value)

-- A number is neither letter of a quantifier.
pub decimal_unlike : (n w : ℕ) → 1 ≤ n → 57 < w → same (decimal n) (w ∷ []) ≡ false
unfolding is_digit
decimal_unlike n w h k = numeral_unlike (decimal n) w ((decimal_digits n).lead h) (λ b l d e. omega (arith, leb-true b 57 (and_both (leb 48 b) (leb b 57) d).1))

-- The reader's state s becomes s' over the piece, which ends outside a token.
module _ (prefixRoom clauseRoom : ℕ) where
  pub record Takes (s : State) (piece : List ℕ) (s' : State) : Type 0 where
    pub takes :
        (at : ℕ) (rest : List ℕ)
        → run prefixRoom clauseRoom s (tokens_from at [] (piece ++ rest))
        ≡ run prefixRoom clauseRoom s' (tokens_from (at + length piece) [] rest)

  pub takes_none : (s : State) → Takes s [] s
  takes_none s = record { takes = λ at rest. rw (add-zero at) }

  pub takes_append : {s s' s'' : State} {xs ys : List ℕ} → Takes s xs s' → Takes s' ys s'' → Takes s (xs ++ ys) s''
  takes_append {s} {s'} {s''} {xs} {ys} f g =
      record {
        takes = λ at rest.
            rw append_assoc
            (f.takes at (ys ++ rest)
            ∙ g.takes (at + length xs) rest
            ∙ ap (λ k. run prefixRoom clauseRoom s'' (tokens_from k [] rest)) (place_append at xs ys));
      }

  run_first :
      (s : State) (t : Token) (ts : List Token)
      → run prefixRoom clauseRoom s (t ∷ ts) ≡ run prefixRoom clauseRoom (step prefixRoom clauseRoom s t) ts
  unfolding run
  run_first s t ts = refl

  -- A token and the blank behind it.
  pub takes_token :
      {s : State} {bytes : List ℕ} (b : ℕ) (s' : State)
      → IsRun bytes → is_blank b ≡ true → ((at : ℕ) → step prefixRoom clauseRoom s (record { bytes = bytes; place = at }) ≡ s') → Takes s (bytes ++ (b ∷ [])) s'
  takes_token {s} {bytes} b s' r e g =
      record {
        takes = λ at rest.
            rw append_assoc
            (ap (run prefixRoom clauseRoom s) (goes_on at [] bytes (b ∷ rest) r.no_blank ∙ blank_ends at bytes b rest r.full e)
            ∙ run_first s (record { bytes = bytes; place = at }) (tokens_from (at + length bytes + 1) [] rest)
            ∙ ap (λ q. run prefixRoom clauseRoom q (tokens_from (at + length bytes + 1) [] rest)) (g at)
            ∙ ap (λ k. run prefixRoom clauseRoom s' (tokens_from k [] rest)) (place_append at bytes (b ∷ [])));
      }
