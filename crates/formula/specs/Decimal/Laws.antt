-- How decimal digits are made, one at a time: below 10 there is one, from 10 on the last one follows those of a tenth.
-- What comes after cites these laws and not the definition. Then how many digits there are at most, and computed examples.
use Rattle.std.specs.Prelude.{ℕ, zero, suc, ◌+◌, ◌/◌, ◌%◌, ◌^◌, ◌<◌, ◌≤◌, ◌≡◌, refl, Bool, true, false, List, [], ◌∷◌, ◌++◌, ltb, length}
use Rattle.std.proofs.Common.{ap, pow-suc, div-lt_iff_lt-mul, arith, lt-ltb, le-ltb, ltb-false, length-append}
use Rattle.std.proofs.Math.Decide.{dec_lt}
use Rattle.formula.specs.Decimal.{digits, decimal}

-- The bound on the digits is of no account once it is large enough.
digits_bound : (k m n : ℕ) (small : Bool) → ltb n 10 ≡ small → n ≤ k → n ≤ m → digits k small n ≡ digits m small n
unfolding digits
digits_bound zero zero n true e h g = refl
digits_bound zero zero n false e h g = refl
digits_bound zero (suc m) n true e h g = refl
digits_bound zero (suc m) n false e h g = absurd (omega (arith, ltb-false n 10 e))
digits_bound (suc k) zero n true e h g = refl
digits_bound (suc k) zero n false e h g = absurd (omega (arith, ltb-false n 10 e))
digits_bound (suc k) (suc m) n true e h g = refl
digits_bound (suc k) (suc m) n false e h g =
    let l : 10 ≤ n = ltb-false n 10 e in
    ap {B = List ℕ} (λ r. r ++ ((48 + n % 10) ∷ [])) (digits_bound k m (n / 10) (ltb (n / 10) 10) refl (omega arith) (omega arith))

pub decimal_small : (n : ℕ) → n < 10 → decimal n ≡ (48 + n) ∷ []
unfolding decimal digits
decimal_small zero h = refl
decimal_small (suc n) h = simp (lt-ltb (suc n) 10 h)

pub decimal_large : (n : ℕ) → 10 ≤ n → decimal n ≡ decimal (n / 10) ++ ((48 + n % 10) ∷ [])
unfolding decimal digits
decimal_large zero h = absurd (omega arith)
decimal_large (suc n) h =
    rw (le-ltb (suc n) 10 h)
    (ap {B = List ℕ} (λ r. r ++ ((48 + suc n % 10) ∷ [])) (digits_bound n (suc n / 10) (suc n / 10) (ltb (suc n / 10) 10) refl (omega arith) (omega arith)))

-- What holds of one digit, and of digits with one more behind them, holds of every number's digits.
pub decimal_induction :
    (P : ℕ → List ℕ → Type 0)
    → ((n : ℕ) → n < 10 → P n ((48 + n) ∷ []))
    → ((n : ℕ) (bytes : List ℕ) → 10 ≤ n → P (n / 10) bytes → P n (bytes ++ ((48 + n % 10) ∷ [])))
    → (n : ℕ) → P n (decimal n)
decimal_induction P one more n = go n n (omega arith)
  where
    go : (k n : ℕ) → n ≤ k → P n (decimal n)
    go zero n h = rw (decimal_small n (omega arith)) (one n (omega arith))
    go (suc k) n h = side (dec_lt n 10) (λ m. go k m)
      where
        side : Dec (n < 10) → ((m : ℕ) → m ≤ k → P m (decimal m)) → P n (decimal n)
        side (yes s) shorter = rw (decimal_small n s) (one n s)
        side (no l) shorter =
            let e : 10 ≤ n = omega arith in
            rw (decimal_large n e) (more n (decimal (n / 10)) e (shorter (n / 10) (omega arith)))

-- A number below 10 ^ k has at most k digits.
pub length_decimal : (k n : ℕ) → n < 10 ^ suc k → length (decimal n) ≤ suc k
length_decimal zero n h = rw (decimal_small n h) (omega arith)
length_decimal (suc k) n h = go (dec_lt n 10) (λ m. length_decimal k m)
  where
    go : Dec (n < 10) → ((m : ℕ) → m < 10 ^ suc k → length (decimal m) ≤ suc k) → length (decimal n) ≤ suc (suc k)
    go (yes s) shorter = rw (decimal_small n s) (omega arith)
    go (no l) shorter =
        let e : 10 ≤ n = omega arith in
        let s = shorter (n / 10) ((div-lt_iff_lt-mul (omega arith)).1 (rw pow-suc at h)) in
        rw (decimal_large n e, length-append) (omega arith)

-- 0, 10 and 1,048,576.
pub decimal_examples : (decimal 0 ≡ 48 ∷ []) × (decimal 10 ≡ 49 ∷ 48 ∷ []) × (decimal 1048576 ≡ 49 ∷ 48 ∷ 52 ∷ 56 ∷ 53 ∷ 55 ∷ 54 ∷ [])
unfolding decimal digits
decimal_examples = (refl, refl, refl)
