-- Numbers by their digits: bytes that are a number are the decimal digits of its value, after a minus for one below 0. Assumes nothing.
use Rattle.std.specs.Prelude.{ℕ, ◌+◌, ◌*◌, ◌-◌, ◌/◌, ◌%◌, ◌≤◌, ◌≡◌, refl, Bool, true, false, ◌&&◌, cond, List, [], ◌∷◌, ◌++◌, eqb, leb, ltb}
use Rattle.std.proofs.Common.{ap, sym, ◌∙◌, append_assoc, append-nil, arith, eqb-true, leb-true, ltb-true}
use Rattle.std.proofs.lemmas.Bool.{false≢true}
use Rattle.qbf.specs.Connectives.{and_both}
use Rattle.formula.specs.Decimal.{decimal}
use Rattle.formula.specs.Decimal.Laws.{decimal_small, decimal_large}
use Rattle.scanner.specs.Token.{is_digit, same, Number, natural, negative, no_number, all_digits, value_from, is_numeral, negative_of, number_of}

pub same_bytes : (bs cs : List ℕ) → same bs cs ≡ true → bs ≡ cs
unfolding same
same_bytes [] [] e = refl
same_bytes [] (c ∷ cs) e = absurd (false≢true e)
same_bytes (b ∷ bs) [] e = absurd (false≢true e)
same_bytes (b ∷ bs) (c ∷ cs) e =
    let h = and_both (eqb b c) (same bs cs) e in
    rw (eqb-true b c h.0) (ap {B = List ℕ} (λ r. c ∷ r) (same_bytes bs cs h.1))

digit_range : (b : ℕ) → is_digit b ≡ true → (48 ≤ b) × (b ≤ 57)
unfolding is_digit
digit_range b e = let h = and_both (leb 48 b) (leb b 57) e in (leb-true 48 b h.0, leb-true b 57 h.1)

-- Digits behind those of a number make the digits of the value.
decimal_one : (m b : ℕ) → 1 ≤ m → 48 ≤ b → b ≤ 57 → decimal (10 * m + (b - 48)) ≡ decimal m ++ (b ∷ [])
decimal_one m b h l k =
    let q : (10 * m + (b - 48)) / 10 ≡ m = omega arith in
    let r : 48 + (10 * m + (b - 48)) % 10 ≡ b = omega arith in
    decimal_large (10 * m + (b - 48)) (omega arith) ∙ rw (q, r)

decimal_more : (m : ℕ) (bs : List ℕ) → 1 ≤ m → all_digits bs ≡ true → decimal (value_from m bs) ≡ decimal m ++ bs
unfolding all_digits value_from
decimal_more m [] h e = sym (append-nil (decimal m))
decimal_more m (b ∷ bs) h e =
    let k = and_both (is_digit b) (all_digits bs) e in
    let d = digit_range b k.0 in
    decimal_more (10 * m + (b - 48)) bs (omega arith) k.1
    ∙ rw (decimal_one m b h d.0 d.1) (append_assoc (decimal m) (b ∷ []) bs)

value_grows : (m : ℕ) (bs : List ℕ) → m ≤ value_from m bs
unfolding value_from
value_grows m [] = omega arith
value_grows m (b ∷ bs) = omega (arith, value_grows (10 * m + (b - 48)) bs)

numeral_digits : (bs : List ℕ) → is_numeral bs ≡ true → (bs ≡ decimal (value_from 0 bs)) × (1 ≤ value_from 0 bs)
unfolding all_digits value_from
numeral_digits [] e = absurd (false≢true e)
numeral_digits (a ∷ bs) e =
    let h = and_both (ltb 48 a) (all_digits (a ∷ bs)) e in
    let k = and_both (is_digit a) (all_digits bs) h.1 in
    let l = ltb-true 48 a h.0 in
    let d = digit_range a k.0 in
    let one : 10 * 0 + (a - 48) ≡ a - 48 = omega arith in
    let byte : 48 + (a - 48) ≡ a = omega (arith, d.0) in
    (rw one (sym (decimal_more (a - 48) bs (omega (arith, l)) k.1 ∙ rw (decimal_small (a - 48) (omega (arith, d.1)), byte))), omega (arith, l, value_grows (10 * 0 + (a - 48)) bs))

zero_digit : 48 ∷ [] ≡ decimal 0
zero_digit = sym (decimal_small 0 (omega arith))

abbrev NumberDigits : List ℕ → Number → Type 0
NumberDigits bs (natural n) = bs ≡ decimal n
NumberDigits bs (negative n) = (bs ≡ 45 ∷ decimal n) × (1 ≤ n)
NumberDigits bs no_number = Unit {0}

negative_digits : (bs : List ℕ) → NumberDigits bs (negative_of bs)
negative_digits [] = tt
negative_digits (b ∷ bs) = go (eqb b 45 && is_numeral bs) refl
  where
    go : (t : Bool) → (eqb b 45 && is_numeral bs) ≡ t → NumberDigits (b ∷ bs) (cond t (negative (value_from 0 bs)) no_number)
    go true e =
        let h = and_both (eqb b 45) (is_numeral bs) e in
        let d = numeral_digits bs h.1 in
        (rw (eqb-true b 45 h.0) (ap {B = List ℕ} (λ r. 45 ∷ r) d.0), d.1)
    go false e = tt

number_digits : (bs : List ℕ) → NumberDigits bs (number_of bs)
unfolding number_of
number_digits bs = go (same bs (48 ∷ [])) (is_numeral bs) refl refl
  where
    go : (s n : Bool) → same bs (48 ∷ []) ≡ s → is_numeral bs ≡ n → NumberDigits bs (cond s (natural 0) (cond n (natural (value_from 0 bs)) (negative_of bs)))
    go true n e f = same_bytes bs (48 ∷ []) e ∙ zero_digit
    go false true e f = (numeral_digits bs f).0
    go false false e f = negative_digits bs

pub natural_is : (bs : List ℕ) (n : ℕ) → number_of bs ≡ natural n → bs ≡ decimal n
natural_is bs n e = rw e at (number_digits bs)

pub negative_is : (bs : List ℕ) (n : ℕ) → number_of bs ≡ negative n → (bs ≡ 45 ∷ decimal n) × (1 ≤ n)
negative_is bs n e = rw e at (number_digits bs)
