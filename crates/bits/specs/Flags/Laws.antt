-- The flag at a place, storing one, the flags of bytes that are joined, cut and cleared. Definitions: Flags. Assumes nothing.
use Rattle.std.proofs.Common.{add_comm}
use Rattle.std.proofs.Common.{drop-cons}
use Rattle.std.proofs.Math.Seq.{drop-length}
use Rattle.std.specs.Prelude.{ℕ, zero, suc, ◌+◌, ◌*◌, ◌-◌, ◌/◌, ◌%◌, ◌^◌, ◌<◌, ◌≤◌, ◌≡◌, refl, ◌≢◌, Bool, true, false, not, ◌&&◌, List, [], ◌∷◌, ◌++◌, length, set, take, drop, replicate, eqb}
use Rattle.std.proofs.Math.Path.{ap, sym}
use Rattle.std.proofs.Common.{◌∙◌, div-one, eqb-true, eq-eqb, ne_eqb, get_or-set_other}
use Rattle.std.proofs.Math.Logic.{dite}
use Rattle.std.proofs.lemmas.Bool.{false≢true}
use Rattle.std.proofs.Math.Nat.{div-div-eq-div-mul}
use native.Mathlib.Omega.{arith}
use Rattle.std.proofs.Math.Decide.{ℕ_discrete, dec_lt}
use Rattle.std.proofs.Math.ListN.{get_or, length-set, get_or-eq_default}
use Rattle.std.proofs.Math.Seq.{ext_get_or, get_or-set_same, take-nil, drop-nil}
use Rattle.std.specs.Int.Bits.{bit_or, bit_and, or_zero_r, and_zero_r}
use Rattle.std.proofs.lemmas.Nat.{or_shr, or_mod, and_shr, and_mod}
use Rattle.std.specs.Int.Count.{ones, ones_step}
use Rattle.std.specs.List.{sum_by}
use Rattle.std.proofs.lemmas.List.Sums.{sum_by-cons}
use Rattle.bits.specs.Flags.{flags, flag, total, BitStored}

and_both : (a b : Bool) → (a && b) ≡ true → (a ≡ true) × (b ≡ true)
and_both true b e = (refl, e)
and_both false b e = absurd (false≢true e)

-- As patterns have it.
abbrev eight_more : ℕ → ℕ
eight_more i = suc (suc (suc (suc (suc (suc (suc (suc i)))))))

pub length_flags : (bs : List ℕ) → length (flags bs) ≡ 8 * length bs
unfolding flags
length_flags [] = refl
length_flags (b ∷ bs) = let k = length_flags bs in omega arith

pub flag_at : (bs : List ℕ) (i : ℕ) → i < 8 * length bs → get_or (flags bs) i 0 ≡ get_or bs (i / 8) 0 / 2 ^ (i % 8) % 2
unfolding flags
flag_at [] i h = absurd (omega arith)
flag_at (b ∷ bs) zero h = refl
flag_at (b ∷ bs) (suc zero) h = refl
flag_at (b ∷ bs) (suc (suc zero)) h = refl
flag_at (b ∷ bs) (suc (suc (suc zero))) h = refl
flag_at (b ∷ bs) (suc (suc (suc (suc zero)))) h = refl
flag_at (b ∷ bs) (suc (suc (suc (suc (suc zero))))) h = refl
flag_at (b ∷ bs) (suc (suc (suc (suc (suc (suc zero)))))) h = refl
flag_at (b ∷ bs) (suc (suc (suc (suc (suc (suc (suc zero))))))) h = refl
flag_at (b ∷ bs) (suc (suc (suc (suc (suc (suc (suc (suc i)))))))) h =
    let q : eight_more i / 8 ≡ suc (i / 8) = omega arith in
    let r : eight_more i % 8 ≡ i % 8 = omega arith in
    rw (q, r) (flag_at bs i (omega arith))

-- A flag is 0 or 1.
pub flag_small : (bs : List ℕ) (i : ℕ) → get_or (flags bs) i 0 < 2
flag_small bs i =
    dite (dec_lt i (8 * length bs))
    (λ h. rw (flag_at bs i h) (omega arith))
    (λ h. let k = length_flags bs in rw (get_or-eq_default (flags bs) 0 {n = i} (omega arith)) (omega arith))

-- A byte is stored that differs in one bit.
module _ (bs : List ℕ) (i value byte : ℕ) (h : i < 8 * length bs) (b : BitStored (get_or bs (i / 8) 0) (i % 8) value byte) where
  stored : List ℕ
  stored = set bs (i / 8) byte

  stored_length : length stored ≡ length bs
  unfolding stored
  stored_length = length-set bs (i / 8) byte

  at_each : (j : ℕ) → j < 8 * length bs → get_or (flags stored) j 0 ≡ get_or (set (flags bs) i value) j 0
  unfolding stored
  at_each j k =
      flag_at stored j (rw stored_length k)
      ∙ dite (ℕ_discrete (j / 8) (i / 8))
      (λ p. dite (ℕ_discrete (j % 8) (i % 8)) (same_bit p) (other_bit p))
      other_byte
    where
      same_bit : j / 8 ≡ i / 8 → j % 8 ≡ i % 8 → get_or (set bs (i / 8) byte) (j / 8) 0 / 2 ^ (j % 8) % 2 ≡ get_or (set (flags bs) i value) j 0
      same_bit p q =
          let e : j ≡ i = omega arith in
          rw (e, get_or-set_same bs (i / 8) byte 0 (omega arith), get_or-set_same (flags bs) i value 0 (rw (length_flags bs) h)) b.own

      other_bit : j / 8 ≡ i / 8 → j % 8 ≢ i % 8 → get_or (set bs (i / 8) byte) (j / 8) 0 / 2 ^ (j % 8) % 2 ≡ get_or (set (flags bs) i value) j 0
      other_bit p q =
          rw (p, get_or-set_same bs (i / 8) byte 0 (omega arith), get_or-set_other (flags bs) i j value 0 (λ e. q (ap (λ (n : ℕ). n % 8) e)))
          (b.other (j % 8) (omega arith) q ∙ sym (rw p at (flag_at bs j k)))

      other_byte : j / 8 ≢ i / 8 → get_or (set bs (i / 8) byte) (j / 8) 0 / 2 ^ (j % 8) % 2 ≡ get_or (set (flags bs) i value) j 0
      other_byte p =
          rw (get_or-set_other bs (i / 8) (j / 8) byte 0 p, get_or-set_other (flags bs) i j value 0 (λ e. p (ap (λ (n : ℕ). n / 8) e)))
          (sym (flag_at bs j k))

  pub flags_stored : flags (set bs (i / 8) byte) ≡ set (flags bs) i value
  unfolding stored
  flags_stored =
      ext_get_or 0 (flags stored) (set (flags bs) i value)
      (length_flags stored ∙ ap (λ (n : ℕ). 8 * n) stored_length ∙ sym (length-set (flags bs) i value ∙ length_flags bs))
      (λ j k. at_each j (rw (length_flags stored, stored_length) at k))

-- A test that holds of each number below n, run.
abbrev below : ℕ → (ℕ → Bool) → Bool
below zero f = true
below (suc n) f = f n && below n f

below_each : (n : ℕ) (f : ℕ → Bool) → below n f ≡ true → (i : ℕ) → i < n → f i ≡ true
below_each zero f e i h = absurd (omega arith)
below_each (suc n) f e i h =
    let both = and_both (f n) (below n f) e in
    dite (ℕ_discrete i n) (λ p. rw p both.0) (λ p. below_each n f both.1 i (omega arith))

-- The mask of a bit and its complement, bit by bit.
abbrev mask : ℕ → ℕ
mask k = 1 * 2 ^ k % 256

mask_test : below 8 (λ k. below 8 (λ j. eqb (mask k / 2 ^ j % 2) (flag (eqb j k)))) ≡ true
mask_test = refl

unmask_test : below 8 (λ k. below 8 (λ j. eqb ((255 - mask k) / 2 ^ j % 2) (flag (not (eqb j k))))) ≡ true
unmask_test = refl

mask_bit : (k j : ℕ) → k < 8 → j < 8 → mask k / 2 ^ j % 2 ≡ flag (eqb j k)
mask_bit k j h i = eqb-true _ _ (below_each 8 (λ j. eqb (mask k / 2 ^ j % 2) (flag (eqb j k))) (below_each 8 (λ k. below 8 (λ j. eqb (mask k / 2 ^ j % 2) (flag (eqb j k)))) mask_test k h) j i)

unmask_bit : (k j : ℕ) → k < 8 → j < 8 → (255 - mask k) / 2 ^ j % 2 ≡ flag (not (eqb j k))
unmask_bit k j h i = eqb-true _ _ (below_each 8 (λ j. eqb ((255 - mask k) / 2 ^ j % 2) (flag (not (eqb j k)))) (below_each 8 (λ k. below 8 (λ j. eqb ((255 - mask k) / 2 ^ j % 2) (flag (not (eqb j k))))) unmask_test k h) j i)

or_bit : (b m j : ℕ) → bit_or b m / 2 ^ j % 2 ≡ bit_or (b / 2 ^ j % 2) (m / 2 ^ j % 2)
or_bit b m j = rw (or_shr b m j) (or_mod (b / 2 ^ j) (m / 2 ^ j) 1)

and_bit : (b m j : ℕ) → bit_and b m / 2 ^ j % 2 ≡ bit_and (b / 2 ^ j % 2) (m / 2 ^ j % 2)
and_bit b m j = rw (and_shr b m j) (and_mod (b / 2 ^ j) (m / 2 ^ j) 1)

or_one : (x : ℕ) → x < 2 → bit_or x 1 ≡ 1
or_one zero h = refl
or_one (suc zero) h = refl
or_one (suc (suc x)) h = absurd (omega arith)

and_one : (x : ℕ) → x < 2 → bit_and x 1 ≡ x
and_one zero h = refl
and_one (suc zero) h = refl
and_one (suc (suc x)) h = absurd (omega arith)

pub or_stored : (b k : ℕ) → k < 8 → BitStored b k 1 (bit_or b (1 * 2 ^ k % 256))
or_stored b k h =
    record {
      own = or_bit b (mask k) k ∙ rw (mask_bit k k h h, eq-eqb k k refl) (or_one (b / 2 ^ k % 2) (omega arith));
      other = λ j i n. or_bit b (mask k) j ∙ rw (mask_bit k j h i, ne_eqb j k n) (or_zero_r (b / 2 ^ j % 2));
    }

pub and_stored : (b k : ℕ) → k < 8 → BitStored b k 0 (bit_and b (255 - 1 * 2 ^ k % 256))
and_stored b k h =
    record {
      own = and_bit b (255 - mask k) k ∙ rw (unmask_bit k k h h, eq-eqb k k refl) (and_zero_r (b / 2 ^ k % 2));
      other = λ j i n. and_bit b (255 - mask k) j ∙ rw (unmask_bit k j h i, ne_eqb j k n) (and_one (b / 2 ^ j % 2) (omega arith));
    }

-- Joined, cut, cleared.
pub flags_append : (xs bs : List ℕ) → flags (xs ++ bs) ≡ flags xs ++ flags bs
unfolding flags
flags_append [] bs = refl
flags_append (x ∷ xs) bs = rw (flags_append xs bs)

pub flags_zeros : (n : ℕ) → flags (replicate n 0) ≡ replicate (8 * n) 0
unfolding flags
flags_zeros zero = refl
flags_zeros (suc n) = let e : 8 * suc n ≡ eight_more (8 * n) = omega arith in rw (e, flags_zeros n)

pub flags_take : (n : ℕ) (bs : List ℕ) → flags (take n bs) ≡ take (8 * n) (flags bs)
unfolding flags
flags_take zero bs = refl
flags_take (suc n) [] = sym (take-nil (8 * suc n))
flags_take (suc n) (b ∷ bs) = let e : 8 * suc n ≡ eight_more (8 * n) = omega arith in rw (e, flags_take n bs)

pub flags_drop : (n : ℕ) (bs : List ℕ) → flags (drop n bs) ≡ drop (8 * n) (flags bs)
unfolding flags
flags_drop zero bs = refl
flags_drop (suc n) [] = sym (drop-nil (8 * suc n))
flags_drop (suc n) (b ∷ bs) = let e : 8 * suc n ≡ eight_more (8 * n) = omega arith in rw e (flags_drop n bs)

-- How many are 1: byte by byte, each from the lowest bit.
ones_from : (b m : ℕ) → ones (b / m) ≡ b / m % 2 + ones (b / (m * 2))
ones_from b m = ones_step (b / m) ∙ ap (λ (x : ℕ). b / m % 2 + ones x) (div-div-eq-div-mul b m 2)

ones_zero : ones 0 ≡ 0
unfolding ones
ones_zero = refl

add_eight : (a b c d e f g h n : ℕ) → a + (b + (c + (d + (e + (f + (g + (h + 0))))))) + n ≡ a + (b + (c + (d + (e + (f + (g + (h + n)))))))
add_eight a b c d e f g h n = omega arith

pub total_byte : (b : ℕ) (bs : List ℕ) → b < 256 → ones b + total (flags bs) ≡ total (flags (b ∷ bs))
unfolding flags total
total_byte b bs h =
    let z : b / 256 ≡ 0 = omega arith in
    let e : ones b ≡ ones (b / 1) = ap ones (sym (div-one b)) in
    rw (e, ones_from b 1, ones_from b 2, ones_from b 4, ones_from b 8, ones_from b 16, ones_from b 32, ones_from b 64, ones_from b 128, z, ones_zero)
    (add_eight (b / 1 % 2) (b / 2 % 2) (b / 4 % 2) (b / 8 % 2) (b / 16 % 2) (b / 32 % 2) (b / 64 % 2) (b / 128 % 2) (total (flags bs)))

pub total_bound : (bs : List ℕ) → total (flags bs) ≤ 8 * length bs
unfolding flags total
total_bound [] = omega arith
total_bound (b ∷ bs) = let k = total_bound bs in omega arith

-- The flags that are 1 are the ones of the bytes, added up.
pub total_ones : (bs : List ℕ) → ((k : ℕ) → get_or bs k 0 < 256) → sum_by ones bs ≡ total (flags bs)
unfolding flags total
total_ones [] h = refl
total_ones (b ∷ bs) h = sum_by-cons ones b bs ∙ ap (λ (n : ℕ). ones b + n) (total_ones bs (λ k. h (suc k))) ∙ total_byte b bs (h 0)

pub total_none : (bs : List ℕ) → total (flags (drop (length bs) bs)) ≡ 0
unfolding flags total
total_none bs = rw (drop-length bs)

-- One byte more, before the place i.
pub total_before : (bs : List ℕ) (i n : ℕ) → i < length bs → get_or bs i 0 < 256 → n ≡ total (flags (drop (suc i) bs)) → n + ones (get_or bs i 0) ≡ total (flags (drop i bs))
total_before bs i n h b e =
    rw (e, add_comm (total (flags (drop (suc i) bs))) (ones (get_or bs i 0)), drop-cons bs i 0 h) (total_byte (get_or bs i 0) (drop (suc i) bs) b)
