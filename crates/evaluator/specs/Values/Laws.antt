-- Laws of values held in bytes: bytes that are all 0, and that a store is an assignment. Definitions: Values. Assumes nothing.
use Rattle.std.specs.Prelude.{ℕ, zero, suc, ◌<◌, ◌≡◌, refl, Bool, true, false, List, eqb, length, get_or, set, replicate}
use Rattle.std.proofs.Common.{sym, get_or-set_same, get_or-set_other, eqb-true}
use Rattle.std.proofs.lemmas.Bool.{eqb-false}
use Rattle.qbf.specs.Play.{assign}
use Rattle.evaluator.specs.Values.{values_of}

-- Bytes that are all 0.
zero_value : (n v : ℕ) → eqb (get_or (replicate n 0) v 0) 1 ≡ false
zero_value zero v = refl
zero_value (suc n) zero = refl
zero_value (suc n) (suc v) = zero_value n v

pub values_zero : (n : ℕ) → values_of (replicate n 0) ≡ (λ _. false)
unfolding values_of
values_zero n = λ i v. zero_value n v i

-- The store of a byte in range gives its variable that value.
pub values_set : (vs : List ℕ) (v b : ℕ) → v < length vs → values_of (set vs v b) ≡ assign (values_of vs) v (eqb b 1)
unfolding values_of
values_set vs v b h = λ i w. at w i
  where
    at : (w : ℕ) → eqb (get_or (set vs v b) w 0) 1 ≡ assign (λ x. eqb (get_or vs x 0) 1) v (eqb b 1) w
    at w = go (eqb v w) refl
      where
        go : (t : Bool) → eqb v w ≡ t → eqb (get_or (set vs v b) w 0) 1 ≡ assign (λ x. eqb (get_or vs x 0) 1) v (eqb b 1) w
        go true e = rw (e, ← eqb-true v w e, get_or-set_same vs v b 0 h)
        go false e = rw (e, get_or-set_other vs v w b 0 (λ k. eqb-false v w e (sym k)))
