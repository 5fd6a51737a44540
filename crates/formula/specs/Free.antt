-- Variables that no set binds (02, P2): those from 1 to V that occur in a clause and that no set lists stand before the whole prefix,
-- existential, in rising order. This is said of the sets' entries and the clause words once they are known; no state of the reader of text knows of
-- it. That `completed` is just that is `Completes`, proved in proofs/Theorems/Free/Laws.antt; the code's marks are in Free/Complete.antt.
pub mod Complete
use Rattle.std.specs.Prelude.{ℕ, zero, suc, ◌≤◌, ◌<◌, ◌≡◌, Bool, true, false, not, ◌&&◌, ◌||◌, cond, List, [], ◌∷◌, ◌++◌, map, eqb, ℤ, nat_abs}
use Rattle.qbf.specs.Formula.{existential, entry, Prefix, listed}
use Rattle.formula.specs.Tables.{is_in}

-- A variable, its number being 1 or more, occurs in the clauses that words make.
unfoldable pub occurs : ℕ → List ℤ → Bool
occurs n [] = false
occurs n (w ∷ ws) = eqb n (nat_abs w) || occurs n ws

-- It occurs, and no set lists it.
abbrev pub is_free : Prefix → List ℤ → ℕ → Bool
is_free P words n = occurs n words && not (is_in n (listed P))

-- The numbers from 1 to n that pass a test, rising.
unfoldable pub passing : (ℕ → Bool) → ℕ → List ℕ
passing test zero = []
passing test (suc n) = passing test n ++ cond (test (suc n)) (suc n ∷ []) []

-- The free variables, V being v.
abbrev pub free : (v : ℕ) → Prefix → List ℤ → List ℕ
free v P words = passing (is_free P words) v

abbrev pub existentials : List ℕ → Prefix
existentials ns = map (λ (n : ℕ). entry n existential) ns

-- The prefix with the free variables before it.
abbrev pub completed : (v : ℕ) → Prefix → List ℤ → Prefix
completed v P words = existentials (free v P words) ++ P

-- Numbers above k, each larger than the one before it, up to n.
abbrev pub Rising : (k n : ℕ) → List ℕ → Type 0
Rising k n [] = k ≤ n
Rising k n (x ∷ xs) = (k < x) × Rising x n xs

-- What a completion is to be: the variables added are exactly those from 1 to V that occur in a clause and in no set, each once, rising; they are
-- existential and stand ahead of the listed ones, which stay as they are.
pub record Completes (v : ℕ) (P : Prefix) (words : List ℤ) : Type 0 where
  pub added : List ℕ
  pub only : (n : ℕ) → is_in n added ≡ true → (1 ≤ n) × (n ≤ v) × (occurs n words ≡ true) × (is_in n (listed P) ≡ false)
  pub all : (n : ℕ) → 1 ≤ n → n ≤ v → occurs n words ≡ true → is_in n (listed P) ≡ false → is_in n added ≡ true
  pub rising : Rising 0 v added
  pub ahead : completed v P words ≡ existentials added ++ P
