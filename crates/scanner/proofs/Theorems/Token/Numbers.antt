-- Laws of digits: what the code reads of a run byte by byte, and what it shows of a number. Assumes nothing.
use Rattle.std.specs.Prelude.{ℕ, suc, ◌+◌, ◌*◌, ◌-◌, ◌<◌, ◌≤◌, min, ◌≡◌, Bool, ◌&&◌, List, [], ◌∷◌, ◌++◌, length, get_or, take, drop, eqb, if◌then◌else◌, Option, Some, None}
use Rattle.std.proofs.Math.Path.{refl}
use Rattle.std.proofs.Common.{arith, length-drop, length-take, take-suc, get_or-drop}
use Rattle.std.proofs.Math.Bool.{true, false}
use Rattle.std.proofs.Math.Dec.{ltb}
use Rattle.scanner.specs.Token.{is_digit, is_blank, same, Number, natural, negative, no_number, all_digits, value_from, number_of, tokens_at}
use Rattle.scanner.specs.Token.Scan.{too_large, numeral, shown, solid, run_at, is_plain, read_value, more_value, more_digits, next_of, DigitsRead}
use Rattle.scanner.specs.declared.token.Token.{Token as Shown}
use Rattle.scanner.specs.declared.token.Token.TheVariants.{Natural, Negative, NoNumber}
use Rattle.scanner.specs.declared.token.Digits.{Digits}
use Rattle.scanner.specs.declared.position.Position.{Position}
use Rattle.scanner.specs.declared.token.Next.TheVariants.{Found}
use Rattle.scanner.specs.Position.{text_bound}
use Rattle.scanner.specs.Position.Cursor.{along, PositionIn}
use Rattle.scanner.proofs.Theorems.Token.Laws.{solid_first, run_first, run_inside, next_is}

-- Digits with one more.
pub all_snoc : (ds : List ℕ) (b : ℕ) → all_digits (ds ++ (b ∷ [])) ≡ (all_digits ds && is_digit b)
unfolding all_digits
all_snoc [] b = grind arith
all_snoc (a ∷ ds) b = grind (arith, all_snoc ds b)

pub value_snoc : (n : ℕ) (ds : List ℕ) (b : ℕ) → value_from n (ds ++ (b ∷ [])) ≡ 10 * value_from n ds + (b - 48)
unfolding value_from
value_snoc n [] b = refl
value_snoc n (a ∷ ds) b = value_snoc (10 * n + (a - 48)) ds b

value_least : (n : ℕ) (ds : List ℕ) → n ≤ value_from n ds
unfolding value_from
value_least n [] = omega arith
value_least n (b ∷ ds) = omega (arith, value_least (10 * n + (b - 48)) ds)

-- As the code keeps it: the value so far, at most one more than the largest word.
abbrev pub capped : List ℕ → ℕ
capped ds = min (value_from 0 ds) too_large

pub capped_more : (ds : List ℕ) (b : ℕ) → capped (ds ++ (b ∷ [])) ≡ numeral (capped ds) b
unfolding numeral
capped_more ds b = omega (arith, value_snoc 0 ds b)

pub capped_none : capped [] ≡ 0
unfolding value_from
capped_none = refl

-- One more byte of a run: it stays plain where the byte is a digit, and the first of the run or behind a value that is not 0.
pub plain_first : (b : ℕ) → is_plain (b ∷ []) ≡ is_digit b
unfolding all_digits
plain_first b = grind arith

pub plain_more : (a : ℕ) (ds : List ℕ) (b : ℕ) → is_plain ((a ∷ ds) ++ (b ∷ [])) ≡ ((is_plain (a ∷ ds) && is_digit b) && ltb 0 (capped (a ∷ ds)))
unfolding all_digits value_from
plain_more a [] b = grind arith
plain_more a (c ∷ ds) b = grind (arith, all_snoc (a ∷ c ∷ ds) b, value_least (10 * (10 * 0 + (a - 48)) + (c - 48)) ds)

-- What is shown of a run, by the value that was read of its digits: behind a minus, or from its first byte on.
abbrev pub token_of : (minus : Bool) → Option ℕ → Shown
token_of minus None = NoNumber
token_of true (Some n) = if ltb 0 n then Negative n else NoNumber
token_of false (Some n) = Natural n

pub minus_shown : (ds : List ℕ) → shown (number_of (45 ∷ ds)) ≡ token_of true (read_value ds)
unfolding number_of same all_digits value_from
minus_shown [] = refl
minus_shown (a ∷ []) = grind arith
minus_shown (a ∷ c ∷ ds) = grind (arith, value_least (10 * (10 * 0 + (a - 48)) + (c - 48)) ds)

-- A run whose first byte is no minus. One that is not plain is a word; any other is a number, also `0`.
pub digits_shown : (a : ℕ) (ds : List ℕ) → (a ≡ 45 → ⊥) → shown (number_of (a ∷ ds)) ≡ token_of false (read_value (a ∷ ds))
unfolding number_of same all_digits value_from is_digit
digits_shown a [] n = grind arith
digits_shown a (c ∷ ds) n = grind arith

-- A number shown is told by its kind, and by its value where that is below the largest.
pub shown_natural : (m : Number) (n : ℕ) → shown m ≡ Natural n → (k : ℕ) × (m ≡ natural k) × (min k too_large ≡ n)
shown_natural (natural k) n e = (k, refl, cc)
shown_natural (negative k) n e = absurd (cc)
shown_natural no_number n e = absurd (cc)

pub shown_negative : (m : Number) (n : ℕ) → shown m ≡ Negative n → (k : ℕ) × (m ≡ negative k) × (min k too_large ≡ n)
shown_negative (natural k) n e = absurd (cc)
shown_negative (negative k) n e = (k, refl, cc)
shown_negative no_number n e = absurd (cc)

pub shown_no_number : (m : Number) → shown m ≡ NoNumber → m ≡ no_number
shown_no_number (natural k) e = cc
shown_no_number (negative k) e = cc
shown_no_number no_number e = refl

-- What was read of the run at `from`, up to a byte within it.
pub record DigitsSoFar (text : List ℕ) (from : ℕ) (r : Digits) : Type 0 where
  pub from_on : from ≤ r.end
  pub inside : r.end ≤ length text
  pub is_value : r.value ≡ read_value (take (r.end - from) (drop from text))
  pub later : solid (drop from text) ≡ (r.end - from) + solid (drop r.end text)

pub digits_begin : (text : List ℕ) (from : ℕ) → from ≤ length text → DigitsSoFar text from (record { value = Some 0; end = from })
unfolding all_digits value_from
digits_begin text from h =
    let z : from - from ≡ 0 = omega arith in
    record { from_on = omega arith; inside = h; is_value = rw z; later = omega arith }

pub digits_end : (text : List ℕ) (from : ℕ) (r : Digits) → DigitsSoFar text from r → solid (drop r.end text) ≡ 0 → DigitsRead text from r
digits_end text from r d z =
    let n : r.end - from ≡ solid (drop from text) = omega (arith, d.later) in
    record { ends = omega (arith, d.later, d.from_on); is_value = rw n at d.is_value }

-- One more byte of the run.
slice_more : (text : List ℕ) (from i : ℕ) → from ≤ i → i < length text → take (i + 1 - from) (drop from text) ≡ take (i - from) (drop from text) ++ (get_or text i 0 ∷ [])
slice_more text from i l h =
    let n : i + 1 - from ≡ suc (i - from) = omega arith in
    let m : from + (i - from) ≡ i = omega arith in
    rw (n, take-suc (drop from text) (i - from) 0 (omega (arith, length-drop from text)), get_or-drop, m)

value_more : (ds : List ℕ) (b : ℕ) → read_value (ds ++ (b ∷ [])) ≡ more_value (read_value ds) (eqb (length ds) 0) b
unfolding all_digits value_from
value_more [] b = grind (arith, plain_first b, capped_more [] b)
value_more (a ∷ ds) b = grind (arith, plain_more a ds b, capped_more (a ∷ ds) b)

pub digits_more :
    (text : List ℕ) (from : ℕ) (r : Digits) → DigitsSoFar text from r → r.end < length text → is_blank (get_or text r.end 0) ≡ false
    → DigitsSoFar text from (more_digits r (eqb r.end from) (get_or text r.end 0))
digits_more text from r d h s =
    let ds = take (r.end - from) (drop from text) in
    let few : length ds ≡ r.end - from = omega (arith, length-take (r.end - from) (drop from text), length-drop from text, d.inside) in
    record {
      from_on = omega (arith, d.from_on);
      inside = omega arith;
      is_value = rw (slice_more text from r.end d.from_on h, value_more ds (get_or text r.end 0), d.is_value, first r.end from (length ds) d.from_on few);
      later = omega (arith, d.later, solid_first text r.end h s, d.from_on);
    }
  where
    first : (e f n : ℕ) → f ≤ e → n ≡ e - f → eqb e f ≡ eqb n 0
    first e f n l q = grind arith

pub more_end : (r : Digits) (first : Bool) (b : ℕ) → (more_digits r first b).end ≡ r.end + 1
more_end r first b = refl

-- The run of a token, and how long it is, by what was read of its digits: behind a minus, or from its first byte on.
module _ (text : List ℕ) (start : ℕ) (h : start < length text) (s : is_blank (get_or text start 0) ≡ false) (r : Digits) where
  pub minus_read :
      get_or text start 0 ≡ 45 → DigitsRead text (start + 1) r
      → (shown (number_of (run_at text start)) ≡ token_of true r.value) × (r.end - start ≡ solid (drop start text))
  minus_read e d =
      (rw (run_first text start h s, e, d.is_value) (minus_shown (run_at text (start + 1))), omega (arith, d.ends, solid_first text start h s))

  pub digits_read :
      (get_or text start 0 ≡ 45 → ⊥) → DigitsRead text start r
      → (shown (number_of (run_at text start)) ≡ token_of false r.value) × (r.end - start ≡ solid (drop start text))
  digits_read n d =
      let run = run_first text start h s in
      (rw (d.is_value, run) (digits_shown (get_or text start 0) (run_at text (start + 1)) n), omega (arith, d.ends))

-- The token at a position, as `token_at` answers it: by those digits, which end in the text.
module _
    (text : List ℕ) (p : Position)
    (h : PositionIn text p × (length text ≤ text_bound) × (p.place < length text) × (is_blank (get_or text p.place 0) ≡ false)) (r : Digits) where
  abbrev IsAnswer : (minus : Bool) → Type 0
  IsAnswer minus = (Found (token_of minus r.value) p (along p (r.end - p.place)) ≡ next_of text (tokens_at text p.place)) × (r.end ≤ length text)

  pub token_read : (get_or text p.place 0 ≡ 45 → DigitsRead text (p.place + 1) r → IsAnswer true) × ((get_or text p.place 0 ≡ 45 → ⊥) → DigitsRead text p.place r → IsAnswer false)
  token_read = (λ e d. go true (minus_read text p.place h.2 h.3 r e d), λ n d. go false (digits_read text p.place h.2 h.3 r n d))
    where
      go : (minus : Bool) → (shown (number_of (run_at text p.place)) ≡ token_of minus r.value) × (r.end - p.place ≡ solid (drop p.place text)) → IsAnswer minus
      go minus m = (next_is text p h.0 h.2 h.3 (token_of minus r.value) (r.end - p.place) m.0 m.1, omega (arith, m.1, run_inside text p.place h.0.inside))
