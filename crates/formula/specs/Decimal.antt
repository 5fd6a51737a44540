-- A number in decimal digits, the bytes 48 to 57, the highest first and with no leading 0 (0 itself is one digit).
pub mod Laws
use Rattle.std.specs.Prelude.{ℕ, zero, suc, ◌+◌, ◌/◌, ◌%◌, Bool, true, false, List, [], ◌∷◌, ◌++◌, ltb}

-- The digits of n; `small` says that n is below 10. The first number bounds how many digits stand before the last one:
-- n itself always is enough.
unfoldable pub digits : ℕ → Bool → ℕ → List ℕ
digits zero true n = (48 + n) ∷ []
digits zero false n = (48 + n % 10) ∷ []
digits (suc k) true n = (48 + n) ∷ []
digits (suc k) false n = digits k (ltb (n / 10) 10) (n / 10) ++ ((48 + n % 10) ∷ [])

unfoldable pub decimal : ℕ → List ℕ
decimal n = digits n (ltb n 10) n
