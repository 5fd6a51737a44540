-- Records one by one.
use Rattle.std.proofs.Common.{zero, suc, ◌-◌, ◌≡◌, refl, Bool, List, [], ◌++◌, ℤ, pos, negsuc, ◌+ℤ◌, ◌≤ℤ◌, ◌<ℤ◌, nat_abs, arith, append_assoc}
use Rattle.std.proofs.lemmas.Int.{ints}
use Rattle.caselist.specs.Tokens.{record_of, records, records_to}

pub records_more : (v : ℤ) (t : Bool) → pos 1 ≤ℤ v → records (nat_abs v) t ≡ records (nat_abs v - 1) t ++ record_of v t
unfolding records
records_more (pos zero) t h = absurd (omega (arith, ints))
records_more (pos (suc n)) t h = let e : suc n - 1 ≡ n = omega arith in rw e
records_more (negsuc n) t h = absurd (omega (arith, ints))

-- The records before the next number.
pub records_next : (v w : ℤ) (t : Bool) → pos 1 ≤ℤ v → w ≡ v +ℤ pos 1 → records (nat_abs w - 1) t ≡ records (nat_abs v - 1) t ++ record_of v t
records_next v w t h e = let same : nat_abs w - 1 ≡ nat_abs v = omega (arith, ints) in rw same (records_more v t h)

pub records_to-pos : (v : ℤ) (t : Bool) → pos 0 ≤ℤ v → records_to v t ≡ records (nat_abs v) t
records_to-pos (pos n) t h = refl
records_to-pos (negsuc n) t h = absurd (omega (arith, ints))

-- All records, behind the last.
pub records_last : (v last : ℤ) (t : Bool) → pos 1 ≤ℤ v → v ≡ last → records_to last t ≡ records (nat_abs v - 1) t ++ record_of v t
records_last v last t h e = let p : pos 0 ≤ℤ last = omega (arith, ints) in rw (records_to-pos last t p, ← e) (records_more v t h)

-- No record, for a last number below 1.
pub records_none : (last : ℤ) (t : Bool) → last <ℤ pos 1 → records_to last t ≡ []
unfolding records
records_none (pos zero) t h = refl
records_none (pos (suc n)) t h = absurd (omega (arith, ints))
records_none (negsuc n) t h = refl

pub records_zero : (t : Bool) → records 0 t ≡ []
unfolding records
records_zero t = refl

-- One turn: behind the record of v, the records before w stand.
pub recorded : (old new start : List ℤ) (v w : ℤ) (t : Bool) → pos 1 ≤ℤ v → w ≡ v +ℤ pos 1 → old ≡ start ++ records (nat_abs v - 1) t → new ≡ old ++ record_of v t
    → new ≡ start ++ records (nat_abs w - 1) t
recorded old new start v w t h e i p = rw (records_next v w t h e, p, i) (append_assoc start (records (nat_abs v - 1) t) (record_of v t))

-- The last turn.
pub recorded_last : (old new start : List ℤ) (v last : ℤ) (t : Bool) → pos 1 ≤ℤ v → v ≡ last → old ≡ start ++ records (nat_abs v - 1) t → new ≡ old ++ record_of v t
    → new ≡ start ++ records_to last t
recorded_last old new start v last t h e i p = rw (records_last v last t h e, p, i) (append_assoc start (records (nat_abs v - 1) t) (record_of v t))

-- No turn.
pub recorded_none : (old start : List ℤ) (v last : ℤ) (t : Bool) → v ≡ pos 1 → last <ℤ v → old ≡ start ++ records (nat_abs v - 1) t → old ≡ start ++ records_to last t
recorded_none old start v last t e h i = let b : last <ℤ pos 1 = omega (arith, ints) in rw (records_none last t b) (rw (e, records_zero t) at i)
