-- Laws of marks: the slot of a word, the marks that bytes hold, marking and ticking word by word and lists put together, lengths, and
-- whether a mark is left.
-- Definitions: Marks. Assumes nothing.
use Rattle.std.specs.Prelude.{ℕ, zero, suc, ◌+◌, ◌*◌, ◌/◌, ◌%◌, ◌-◌, ◌<◌, ◌≤◌, ◌≡◌, ◌≢◌, Bool, true, false, not, ◌&&◌, ◌||◌, eqb, length, get_or, set, drop, replicate, ℤ, pos, negsuc, neg_ℤ}
use Rattle.std.proofs.Math.Path.{refl, sym}
use Rattle.std.proofs.Common.{ap, ◌∙◌, arith, add-one, le-leb, ne_eqb, length-set, drop_of_length-le, drop-cons}
use Rattle.std.proofs.lemmas.List.{length-replicate}
use Rattle.std.proofs.Math.Logic.{dite}
use Rattle.std.proofs.lemmas.Bool.{false≢true}
use Rattle.std.proofs.Math.Bool.{or-true, or-false, or_assoc}
use mathlib.Core.List.Memᴰ
use mathlib.Core.List.{List, [], ◌∷◌, ◌++◌}
use Rattle.std.proofs.Math.Decide.{ℕ_discrete}
use Rattle.bits.specs.Flags.{flags}
use Rattle.bits.specs.Flags.Laws.{flags_zeros, flag_small, length_flags}
use Rattle.formula.specs.Word.{word_of}
use Rattle.formula.specs.Word.Laws.{slot_bound}
use Rattle.inference.specs.Words.{Words, same_word, keep, without, InRange, AllInRange}
use Rattle.inference.specs.Marks.{alone, slot_at, marks_in, clean, mark_all, meets, tick_if, tick_all, ticks, any_marked, Marked, Ticked}

-- The slot of a word in range.
pub slot_positive : (n : ℕ) → suc n ≤ 1024 → slot_at (pos (suc n)) ≡ 2 * suc n
unfolding slot_at word_of
slot_positive n h = rw (le-leb (suc n) 1024 h)

pub slot_negative : (n : ℕ) → suc n ≤ 1024 → slot_at (negsuc n) ≡ 2 * suc n + 1
unfolding slot_at word_of
slot_negative n h = rw (le-leb (suc n) 1024 h)

-- Every slot is one of the marks; that of a word in range has a bit.
pub slot_at_bound : (x : ℤ) → slot_at x < 2050
unfolding slot_at
slot_at_bound x = slot_bound x

pub slot_has_bit : (x : ℤ) → InRange x → 2 ≤ slot_at x
slot_has_bit (pos zero) r = absurd (omega (arith, r.0))
slot_has_bit (pos (suc n)) r = let e = slot_positive n r.1 in omega arith
slot_has_bit (negsuc n) r = let e = slot_negative n r.1 in omega arith

pub slot_bits : (x : ℤ) (slot : ℕ) → slot ≡ slot_at x → InRange x → (2 ≤ slot) × (slot < 2050)
slot_bits x slot at within = rw at (slot_has_bit x within, slot_at_bound x)

pub opposite_in_range : (x : ℤ) → InRange x → InRange (neg_ℤ x)
opposite_in_range (pos zero) r = r
opposite_in_range (pos (suc n)) r = r
opposite_in_range (negsuc n) r = r

-- The marks of bytes: of cleared bytes, one read, one stored, and the two that are not there.
pub marks_cleared : marks_in (replicate 256 0) ≡ clean
unfolding marks_in
marks_cleared = ap {B = List ℕ} (λ (l : List ℕ). 0 ∷ 0 ∷ l) (flags_zeros 256)

pub mark_read : (bytes : List ℕ) (s : ℕ) → 2 ≤ s → get_or (flags bytes) (s - 2) 0 ≡ get_or (marks_in bytes) s 0
unfolding marks_in
mark_read bytes zero h = absurd (omega arith)
mark_read bytes (suc zero) h = absurd (omega arith)
mark_read bytes (suc (suc s)) h = let e : suc (suc s) - 2 ≡ s = omega arith in rw e

pub mark_stored : (bytes bytes' : List ℕ) (s v : ℕ) → 2 ≤ s → flags bytes' ≡ set (flags bytes) (s - 2) v → marks_in bytes' ≡ set (marks_in bytes) s v
unfolding marks_in
mark_stored bytes bytes' zero v h k = absurd (omega arith)
mark_stored bytes bytes' (suc zero) v h k = absurd (omega arith)
mark_stored bytes bytes' (suc (suc s)) v h k = let e : suc (suc s) - 2 ≡ s = omega arith in rw (k, e)

pub mark_none : (bytes : List ℕ) (s : ℕ) → s < 2 → get_or (marks_in bytes) s 0 ≡ 0
unfolding marks_in
mark_none bytes zero h = refl
mark_none bytes (suc zero) h = refl
mark_none bytes (suc (suc s)) h = absurd (omega arith)

-- One word after another.
pub without_cons : (e x : ℤ) (C : Words) → without e (x ∷ C) ≡ without e (alone x) ++ without e C
unfolding without
without_cons e x C = go (same_word e x)
  where
    go : (b : Bool) → keep b x (without e C) ≡ keep b x [] ++ without e C
    go true = refl
    go false = refl

pub head_in_range : (x : ℤ) (C D : Words) → D ≡ x ∷ C → AllInRange D → InRange x
head_in_range x C D d h = h x (rw d (Memᴰ.head refl))

pub tail_in_range : (x : ℤ) (C D : Words) → D ≡ x ∷ C → AllInRange D → AllInRange C
tail_in_range x C D d h y k = h y (rw d (Memᴰ.tail k))

pub mark_append : (m : List ℕ) (C D : Words) → mark_all m (C ++ D) ≡ mark_all (mark_all m C) D
unfolding mark_all
mark_append m [] D = refl
mark_append m (x ∷ C) D = mark_append (set m (slot_at x) 1) C D

pub meets_append : (m : List ℕ) (C D : Words) → meets m (C ++ D) ≡ (meets m C || meets (mark_all m C) D)
unfolding meets mark_all
meets_append m [] D = refl
meets_append m (x ∷ C) D =
    ap (λ (b : Bool). eqb (get_or m (slot_at (neg_ℤ x)) 0) 1 || b) (meets_append (set m (slot_at x) 1) C D)
    ∙ sym (or_assoc (eqb (get_or m (slot_at (neg_ℤ x)) 0) 1) (meets (set m (slot_at x) 1) C) (meets (mark_all (set m (slot_at x) 1) C) D))

pub length_mark : (m : List ℕ) (C : Words) → length (mark_all m C) ≡ length m
unfolding mark_all
length_mark m [] = refl
length_mark m (x ∷ C) = length_mark (set m (slot_at x) 1) C ∙ length-set m (slot_at x) 1

-- One word.
module _ (m : List ℕ) (e x : ℤ) where
  pub mark_left_out : same_word e x ≡ true → Marked m (without e (alone x)) false m
  unfolding without meets mark_all
  mark_left_out h = rw h (record { told = refl; left = refl })

  pub mark_one : same_word e x ≡ false → Marked m (without e (alone x)) (eqb (get_or m (slot_at (neg_ℤ x)) 0) 1) (set m (slot_at x) 1)
  unfolding without meets mark_all
  mark_one h = rw h (record { told = sym (or-false (eqb (get_or m (slot_at (neg_ℤ x)) 0) 1)); left = refl })

-- Bytes whose marks are as many as all, as clean ones are, are all that hold marks.
pub marks_whole : (bytes marks : List ℕ) → marks_in bytes ≡ marks → length marks ≡ 2050 → length bytes ≡ 256
unfolding marks_in
marks_whole bytes marks e h = let k = length_flags bytes in let l : suc (suc (length (flags bytes))) ≡ 2050 = ap length e ∙ h in omega arith

pub clean_whole : (bytes : List ℕ) → marks_in bytes ≡ clean → length bytes ≡ 256
clean_whole bytes e = marks_whole bytes clean e (length-replicate {A = ℕ} 2050 0)

pub marked_whole : (bytes m : List ℕ) (C : Words) (met : Bool) → m ≡ clean → Marked m C met (marks_in bytes) → length bytes ≡ 256
marked_whole bytes m C met e h = marks_whole bytes (mark_all m C) h.left (length_mark m C ∙ ap length e ∙ length-replicate {A = ℕ} 2050 0)

pub length_tick : (m : List ℕ) (L : Words) → length (tick_all m L) ≡ length m
unfolding tick_all
length_tick m [] = refl
length_tick m (x ∷ L) = go (eqb (get_or m (slot_at x) 0) 1) (length_tick (set m (slot_at x) 0) L)
  where
    go : (b : Bool) → length (tick_all (set m (slot_at x) 0) L) ≡ length (set m (slot_at x) 0) → length (tick_if b m (tick_all (set m (slot_at x) 0) L)) ≡ length m
    go true h = h ∙ length-set m (slot_at x) 0
    go false h = refl

module _ (m : List ℕ) (x : ℤ) where
  pub tick_one : eqb (get_or m (slot_at x) 0) 1 ≡ true → Ticked m (alone x) true (set m (slot_at x) 0)
  unfolding ticks tick_all
  tick_one t = record { told = rw t; left = rw t }

  pub tick_none : eqb (get_or m (slot_at x) 0) 1 ≡ false → Ticked m (alone x) false m
  unfolding ticks tick_all
  tick_none t = record { told = rw t; left = rw t }

-- A loop over a clause but for one word: what is left to do of the clause, after what was told so far, comes to the same as the whole.
abbrev pub Continues : List ℕ → Words → List ℕ → Bool → Words → Type 0
Continues m₀ C₀ m told C = (mark_all m C ≡ mark_all m₀ C₀) × ((told || meets m C) ≡ meets m₀ C₀)

module _ (m₀ : List ℕ) (C₀ : Words) (m : List ℕ) (told : Bool) (e : ℤ) where
  pub mark_turns :
      (m' : List ℕ) (met : Bool) (x : ℤ) (D C : Words) → D ≡ x ∷ C
      → Marked m (without e (alone x)) met m'
      → Continues m₀ C₀ m told (without e D)
      → Continues m₀ C₀ m' (told || met) (without e C)
  mark_turns m' met x D C d k h =
      let split : without e D ≡ without e (alone x) ++ without e C = ap (without e) d ∙ without_cons e x C in (
        rw k.left (sym (mark_append m (without e (alone x)) (without e C)) ∙ ap (mark_all m) (sym split) ∙ h.0),
        rw (k.left, k.told)
            (or_assoc told (meets m (without e (alone x))) (meets (mark_all m (without e (alone x))) (without e C))
            ∙ ap (λ (b : Bool). told || b) (sym (meets_append m (without e (alone x)) (without e C)) ∙ ap (meets m) (sym split))
            ∙ h.1),
      )

  -- The end of the clause.
  pub mark_ends : (D : Words) → D ≡ [] → Continues m₀ C₀ m told (without e D) → Marked m₀ C₀ told m
  unfolding mark_all meets without
  mark_ends D d h = let k : Continues m₀ C₀ m told [] = rw d at h in record { told = sym (or-false told) ∙ k.1; left = k.0 }

-- Ticking, word by word.
abbrev pub TicksOn : List ℕ → Words → List ℕ → Words → Type 0
TicksOn m₀ L₀ m L = (tick_all m L ≡ tick_all m₀ L₀) × (ticks m L ≡ ticks m₀ L₀)

-- After one more word: ticking goes on, or has stopped.
abbrev After : List ℕ → Words → List ℕ → Words → Bool → Type 0
After m₀ L₀ m L true = TicksOn m₀ L₀ m L
After m₀ L₀ m L false = Ticked m₀ L₀ false m

module _ (m₀ : List ℕ) (L₀ : Words) (m m' : List ℕ) (x : ℤ) (D L : Words) where
  tick_on : (t : Bool) → D ≡ x ∷ L → Ticked m (alone x) t m' → TicksOn m₀ L₀ m D → After m₀ L₀ m' L t
  unfolding tick_all ticks
  tick_on t d k h = go (eqb (get_or m (slot_at x) 0) 1) k.told k.left (rw d at h)
    where
      go :
          (b : Bool) → t ≡ (b && true)
          → m' ≡ tick_if b m (set m (slot_at x) 0)
          → (tick_if b m (tick_all (set m (slot_at x) 0) L) ≡ tick_all m₀ L₀) × ((b && ticks (set m (slot_at x) 0) L) ≡ ticks m₀ L₀)
          → After m₀ L₀ m' L t
      go true e l q = rw (e, l) q
      go false e l q = rw e (record { told = q.1; left = l ∙ q.0 })

  pub tick_turns : D ≡ x ∷ L → Ticked m (alone x) true m' → TicksOn m₀ L₀ m D → TicksOn m₀ L₀ m' L
  tick_turns d k h = tick_on true d k h

  pub tick_stops : D ≡ x ∷ L → Ticked m (alone x) false m' → TicksOn m₀ L₀ m D → Ticked m₀ L₀ false m'
  tick_stops d k h = tick_on false d k h

pub tick_ends : (m₀ : List ℕ) (L₀ : Words) (m : List ℕ) (D : Words) → D ≡ [] → TicksOn m₀ L₀ m D → Ticked m₀ L₀ true m
unfolding tick_all ticks
tick_ends m₀ L₀ m D d h = let k : TicksOn m₀ L₀ m [] = rw d at h in record { told = k.1; left = k.0 }

-- Whether a mark is left: place by place, and byte by byte.
pub none_marked : (m : List ℕ) → ((i : ℕ) → i < length m → get_or m i 0 ≢ 1) → any_marked m ≡ false
unfolding any_marked
none_marked [] h = refl
none_marked (a ∷ m) h = rw (ne_eqb a 1 (h 0 (omega arith))) (none_marked m (λ i k. h (suc i) (omega arith)))

pub one_marked : (m : List ℕ) (i : ℕ) → get_or m i 0 ≡ 1 → any_marked m ≡ true
unfolding any_marked
one_marked [] i e = let z : ◌≡◌ {A = ℕ} 0 1 = e in absurd (omega arith)
one_marked (a ∷ m) zero e = let z : a ≡ 1 = e in rw z
one_marked (a ∷ m) (suc i) e = rw (one_marked m i e) (or-true (eqb a 1))

some_flag : (b : ℕ) (bs : List ℕ) → b < 256 → b ≢ 0 → any_marked (flags (b ∷ bs)) ≡ true
unfolding flags
some_flag b bs h n = go (any_marked (flags (b ∷ bs))) refl
  where
    off : any_marked (flags (b ∷ bs)) ≡ false → (k : ℕ) → get_or (flags (b ∷ bs)) k 0 ≢ 1
    off e k q = false≢true (sym e ∙ one_marked (flags (b ∷ bs)) k q)

    go : (t : Bool) → any_marked (flags (b ∷ bs)) ≡ t → t ≡ true
    go true e = refl
    go false e =
        let f : (k : ℕ) → get_or (flags (b ∷ bs)) k 0 ≡ 0 = (λ k. let s = flag_small (b ∷ bs) k in dite (ℕ_discrete (get_or (flags (b ∷ bs)) k 0) 0) (λ z. z) (λ z. absurd (off e k (omega arith)))) in
        let h7 : b < 128 = let q : b / 128 % 2 ≡ 0 = f 7 in omega arith in
        let h6 : b < 64 = let q : b / 64 % 2 ≡ 0 = f 6 in omega arith in
        let h5 : b < 32 = let q : b / 32 % 2 ≡ 0 = f 5 in omega arith in
        let h4 : b < 16 = let q : b / 16 % 2 ≡ 0 = f 4 in omega arith in
        let h3 : b < 8 = let q : b / 8 % 2 ≡ 0 = f 3 in omega arith in
        let h2 : b < 4 = let q : b / 4 % 2 ≡ 0 = f 2 in omega arith in
        let h1 : b < 2 = let q : b / 2 % 2 ≡ 0 = f 1 in omega arith in
        let q : b / 1 % 2 ≡ 0 = f 0 in
        absurd (n (omega arith))

any_byte : (b : ℕ) (bs : List ℕ) → b < 256 → any_marked (flags (b ∷ bs)) ≡ (not (eqb b 0) || any_marked (flags bs))
unfolding any_marked flags
any_byte b bs h = dite (ℕ_discrete b 0) (λ e. rw e) (λ n. some_flag b bs h n ∙ rw (ne_eqb b 0 n))

pub any_from : (bs : List ℕ) (i : ℕ) → i < length bs → get_or bs i 0 < 256 → any_marked (flags (drop i bs)) ≡ (not (eqb (get_or bs i 0) 0) || any_marked (flags (drop (i + 1) bs)))
any_from bs i h k = rw (drop-cons bs i 0 h, add-one i) (any_byte (get_or bs i 0) (drop (suc i) bs) k)

pub any_past : (bs : List ℕ) (i : ℕ) → length bs ≤ i → any_marked (flags (drop i bs)) ≡ false
unfolding any_marked flags
any_past bs i h = let e : drop i bs ≡ [] = drop_of_length-le bs h in rw e
