-- Marking a result and ticking its statement judges both: opposite signs are met exactly when the result holds them, the statement is
-- ticked and no mark is left exactly when it states the result.
-- Assumes nothing.
use Rattle.std.specs.Prelude.{ℕ, zero, suc, ◌+◌, ◌*◌, ◌/◌, ◌%◌, ◌<◌, ◌≡◌, ◌⊎◌, ◌≢◌, Bool, ◌&&◌, ◌||◌, leb, eqb, length, get_or, set, replicate, ℤ, pos, negsuc, neg_ℤ}
use Rattle.std.proofs.Math.Path.{refl}
use Rattle.std.proofs.Common.{ap, sym, ◌∙◌, inl, inr, arith, length-set, get_or-set_same, get_or-set_other}
use Rattle.std.proofs.Math.Logic.{dite}
use Rattle.std.proofs.Math.Bool.{true, false, not}
use Rattle.std.proofs.lemmas.Bool.{false≢true}
use mathlib.Core.List.{List, [], ◌∷◌, Memᴰ}
use Rattle.std.proofs.Math.Decide.{ℕ_discrete}
use Rattle.std.proofs.lemmas.List.{length-replicate}
use Rattle.formula.specs.Word.{word_of, slot_of, positive, negative}
use Rattle.inference.specs.Words.{Words, same_word, holds, without, InRange, AllInRange}
use Rattle.inference.specs.Words.Laws.{same_sound, same_apart, holds_sound, holds_complete, holds_absent, absent_holds, without_member, member_without}
use Rattle.inference.specs.Steps.{opposed, lists, covers, states}
use Rattle.inference.proofs.Theorems.Steps.Tests.{covers_sound}
use Rattle.inference.specs.Marks.{slot_at, clean, mark_all, meets, tick_if, tick_all, ticks, any_marked}
use Rattle.inference.specs.Marks.Laws.{slot_positive, slot_negative, slot_at_bound, tail_in_range, length_mark, length_tick, none_marked, one_marked}

-- The slot of any word.
slot_parity : (x : ℤ) → (slot_at x ≡ 0) ⊎ ((n : ℕ) × (x ≡ pos (suc n)) × (slot_at x ≡ 2 * suc n)) ⊎ ((n : ℕ) × (x ≡ negsuc n) × (slot_at x ≡ 2 * suc n + 1))
unfolding slot_at word_of
slot_parity (pos zero) = inl refl
slot_parity (pos (suc n)) = go (leb (suc n) 1024)
  where
    go : (b : Bool) → (slot_of (positive b (suc n)) ≡ 0) ⊎ ((m : ℕ) × (pos (suc n) ≡ pos (suc m)) × (slot_of (positive b (suc n)) ≡ 2 * suc m)) ⊎ ((m : ℕ) × (pos (suc n) ≡ negsuc m) × (slot_of (positive b (suc n)) ≡ 2 * suc m + 1))
    go true = inr (inl (n, refl, refl))
    go false = inl refl
slot_parity (negsuc n) = go (leb (suc n) 1024)
  where
    go : (b : Bool) → (slot_of (negative b (suc n)) ≡ 0) ⊎ ((m : ℕ) × (negsuc n ≡ pos (suc m)) × (slot_of (negative b (suc n)) ≡ 2 * suc m)) ⊎ ((m : ℕ) × (negsuc n ≡ negsuc m) × (slot_of (negative b (suc n)) ≡ 2 * suc m + 1))
    go true = inr (inr (n, refl, refl))
    go false = inl refl

-- No other word has the slot of a word in range.
pub slot_injective : (x y : ℤ) → InRange x → slot_at y ≡ slot_at x → y ≡ x
slot_injective (pos zero) y h e = absurd (omega (arith, h.0))
slot_injective (pos (suc n)) y h e = go (slot_parity y)
  where
    own : slot_at (pos (suc n)) ≡ 2 * suc n
    own = slot_positive n h.1

    go : (slot_at y ≡ 0) ⊎ ((m : ℕ) × (y ≡ pos (suc m)) × (slot_at y ≡ 2 * suc m)) ⊎ ((m : ℕ) × (y ≡ negsuc m) × (slot_at y ≡ 2 * suc m + 1)) → y ≡ pos (suc n)
    go (inl z) = absurd (omega (arith, own, e, z))
    go (inr (inl t)) = let s = t.2 in let q : t.0 ≡ n = omega (arith, own, e, s) in t.1 ∙ ap (λ (k : ℕ). pos (suc k)) q
    go (inr (inr t)) = let s = t.2 in absurd (omega (arith, own, e, s))
slot_injective (negsuc n) y h e = go (slot_parity y)
  where
    own : slot_at (negsuc n) ≡ 2 * suc n + 1
    own = slot_negative n h.1

    go : (slot_at y ≡ 0) ⊎ ((m : ℕ) × (y ≡ pos (suc m)) × (slot_at y ≡ 2 * suc m)) ⊎ ((m : ℕ) × (y ≡ negsuc m) × (slot_at y ≡ 2 * suc m + 1)) → y ≡ negsuc n
    go (inl z) = absurd (omega (arith, own, e, z))
    go (inr (inl t)) = let s = t.2 in absurd (omega (arith, own, e, s))
    go (inr (inr t)) = let s = t.2 in let q : t.0 ≡ n = omega (arith, own, e, s) in t.1 ∙ ap negsuc q

-- One store seen at every slot.
abbrev pub pick : Bool → ℕ → ℕ → ℕ
pick true a b = a
pick false a b = b

module _ (m : List ℕ) (size : length m ≡ 2050) (x : ℤ) (r : InRange x) (v : ℕ) where
  store_seen : (y : ℤ) → get_or (set m (slot_at x) v) (slot_at y) 0 ≡ pick (same_word y x) v (get_or m (slot_at y) 0)
  store_seen y = go (same_word y x) refl
    where
      go : (b : Bool) → same_word y x ≡ b → get_or (set m (slot_at x) v) (slot_at y) 0 ≡ pick b v (get_or m (slot_at y) 0)
      go true e = rw (same_sound y x e) (get_or-set_same m (slot_at x) v 0 (omega (arith, slot_at_bound x, size)))
      go false e = get_or-set_other m (slot_at x) (slot_at y) v 0 (λ q. same_apart y x e (slot_injective x y r q))

  store_size : length (set m (slot_at x) v) ≡ 2050
  store_size = length-set m (slot_at x) v ∙ size

holds_cons : (y x : ℤ) (C : Words) → holds y (x ∷ C) ≡ (same_word y x || holds y C)
unfolding holds
holds_cons y x C = refl

-- Opposite signs.
pub meets_opposed :
    (m : List ℕ) → length m ≡ 2050 → (seen R : Words) → AllInRange R
    → ((y : ℤ) → eqb (get_or m (slot_at y) 0) 1 ≡ holds y seen)
    → meets m R ≡ opposed seen R
unfolding meets opposed
meets_opposed m size seen [] r h = refl
meets_opposed m size seen (x ∷ R) r h =
    rw (h (neg_ℤ x))
    (ap (λ (b : Bool). holds (neg_ℤ x) seen || b)
    (meets_opposed (set m (slot_at x) 1) (store_size m size x (r x (Memᴰ.head refl)) 1) (x ∷ seen) R (tail_in_range x R (x ∷ R) refl r) marked))
  where
    seen_at : (y : ℤ) (b : Bool) → same_word y x ≡ b → eqb (pick b 1 (get_or m (slot_at y) 0)) 1 ≡ (b || holds y seen)
    seen_at y true e = refl
    seen_at y false e = h y

    marked : (y : ℤ) → eqb (get_or (set m (slot_at x) 1) (slot_at y) 0) 1 ≡ holds y (x ∷ seen)
    marked y = rw (store_seen m size x (r x (Memᴰ.head refl)) 1 y, holds_cons y x seen) (seen_at y (same_word y x) refl)

-- What the marks show after marking, and after ticking.
pub mark_shows : (m : List ℕ) → length m ≡ 2050 → (C : Words) → AllInRange C → (y : ℤ) → get_or (mark_all m C) (slot_at y) 0 ≡ pick (holds y C) 1 (get_or m (slot_at y) 0)
unfolding mark_all holds
mark_shows m size [] r y = refl
mark_shows m size (x ∷ C) r y =
    mark_shows (set m (slot_at x) 1) (store_size m size x (r x (Memᴰ.head refl)) 1) C (tail_in_range x C (x ∷ C) refl r) y
    ∙ rw (store_seen m size x (r x (Memᴰ.head refl)) 1 y) (joined (holds y C) (same_word y x))
  where
    joined : (a b : Bool) → pick a 1 (pick b 1 (get_or m (slot_at y) 0)) ≡ pick (b || a) 1 (get_or m (slot_at y) 0)
    joined true true = refl
    joined true false = refl
    joined false true = refl
    joined false false = refl

-- The statement, `seen` being ticked already.
abbrev Shows : List ℕ → Words → Words → Type 0
Shows m R seen = (y : ℤ) → get_or m (slot_at y) 0 ≡ pick (holds y seen) 0 (pick (holds y R) 1 0)

marked_once : (a b : Bool) → eqb (pick a 0 (pick b 1 0)) 1 ≡ (b && not a)
marked_once true true = refl
marked_once true false = refl
marked_once false true = refl
marked_once false false = refl

and_not_true : (a b : Bool) → (b && not a) ≡ true → b ≡ true
and_not_true a true h = refl
and_not_true a false h = h

module _ (R : Words) (range : AllInRange R) where
  -- One more word ticked.
  ticked_shows :
      (m : List ℕ) → length m ≡ 2050 → (seen : Words) (x : ℤ) → InRange x → Shows m R seen → Shows (set m (slot_at x) 0) R (x ∷ seen)
  unfolding holds
  ticked_shows m size seen x r h y = store_seen m size x r 0 y ∙ go (same_word y x)
    where
      go : (b : Bool) → pick b 0 (get_or m (slot_at y) 0) ≡ pick (b || holds y seen) 0 (pick (holds y R) 1 0)
      go true = refl
      go false = h y

  pub ticks_lists : (m : List ℕ) → length m ≡ 2050 → (seen L : Words) → Shows m R seen → ticks m L ≡ lists R seen L
  unfolding ticks lists
  ticks_lists m size seen [] h = refl
  ticks_lists m size seen (x ∷ L) h =
      rw (h x, marked_once (holds x seen) (holds x R))
      (go (holds x R && not (holds x seen)) refl (λ r. ticks_lists (set m (slot_at x) 0) (store_size m size x r 0) (x ∷ seen) L (ticked_shows m size seen x r h)))
    where
      go :
          (b : Bool) → (holds x R && not (holds x seen)) ≡ b
          → (InRange x → ticks (set m (slot_at x) 0) L ≡ lists R (x ∷ seen) L)
          → (b && ticks (set m (slot_at x) 0) L) ≡ (b && lists R (x ∷ seen) L)
      go true e later = later (range x (holds_sound x R (and_not_true (holds x seen) (holds x R) e)))
      go false e later = refl

  pub tick_shows : (m : List ℕ) → length m ≡ 2050 → (seen L : Words) → Shows m R seen → ticks m L ≡ true → (y : ℤ) → get_or (tick_all m L) (slot_at y) 0 ≡ pick (holds y L) 0 (get_or m (slot_at y) 0)
  unfolding ticks tick_all holds
  tick_shows m size seen [] h t y = refl
  tick_shows m size seen (x ∷ L) h t y =
      go (eqb (get_or m (slot_at x) 0) 1) refl (λ r k. tick_shows (set m (slot_at x) 0) (store_size m size x r 0) (x ∷ seen) L (ticked_shows m size seen x r h) k y)
    where
      joined : (a b : Bool) → pick a 0 (pick b 0 (get_or m (slot_at y) 0)) ≡ pick (b || a) 0 (get_or m (slot_at y) 0)
      joined true true = refl
      joined true false = refl
      joined false true = refl
      joined false false = refl

      in_range_lem : eqb (get_or m (slot_at x) 0) 1 ≡ true → InRange x
      in_range_lem e = range x (holds_sound x R (and_not_true (holds x seen) (holds x R) (sym (marked_once (holds x seen) (holds x R)) ∙ ap (λ (n : ℕ). eqb n 1) (sym (h x)) ∙ e)))

      go :
          (b : Bool) → eqb (get_or m (slot_at x) 0) 1 ≡ b
          → (InRange x → ticks (set m (slot_at x) 0) L ≡ true → get_or (tick_all (set m (slot_at x) 0) L) (slot_at y) 0 ≡ pick (holds y L) 0 (get_or (set m (slot_at x) 0) (slot_at y) 0))
          → get_or (tick_if b m (tick_all (set m (slot_at x) 0) L)) (slot_at y) 0 ≡ pick (same_word y x || holds y L) 0 (get_or m (slot_at y) 0)
      go true e later = later (in_range_lem e) (rw e at t) ∙ rw (store_seen m size x (in_range_lem e) 0 y) (joined (holds y L) (same_word y x))
      go false e later = absurd (false≢true (rw e at t))

-- Every place but 1 is the slot of a word.
slot_of_lem : (i : ℕ) → i < 2050 → i ≢ 1 → (x : ℤ) × (slot_at x ≡ i)
unfolding slot_at word_of
slot_of_lem zero h n = (pos zero, refl)
slot_of_lem (suc zero) h n = absurd (n refl)
slot_of_lem (suc (suc i)) h n =
    dite (ℕ_discrete (i % 2) 0)
    (λ e. (pos (suc (i / 2)), slot_positive (i / 2) (omega arith) ∙ omega arith))
    (λ e. (negsuc (i / 2), slot_negative (i / 2) (omega arith) ∙ omega arith))

uncovered : (L R : Words) → covers L R ≡ false → (y : ℤ) × Memᴰ y R × (holds y L ≡ false)
unfolding covers
uncovered L [] h = absurd (false≢true (sym h))
uncovered L (x ∷ R) h = go (holds x L) refl (uncovered L R)
  where
    go : (b : Bool) → holds x L ≡ b → (covers L R ≡ false → (y : ℤ) × Memᴰ y R × (holds y L ≡ false)) → (y : ℤ) × Memᴰ y (x ∷ R) × (holds y L ≡ false)
    go true e ih = let t = ih (rw e at h) in (t.0, Memᴰ.tail t.1, t.2)
    go false e ih = (x, Memᴰ.head refl, e)

pub zeros_at : (n i : ℕ) → ◌≡◌ {A = ℕ} (get_or (replicate {A = ℕ} n 0) i 0) 0
zeros_at zero i = refl
zeros_at (suc n) zero = refl
zeros_at (suc n) (suc i) = zeros_at n i

-- Marking tells whether the result holds both signs of a variable.
clean_size : length clean ≡ 2050
clean_size = length-replicate {A = ℕ} 2050 0

pub clean_meets : (R : Words) → AllInRange R → meets clean R ≡ opposed [] R
unfolding holds
clean_meets R range = meets_opposed clean clean_size [] R range (λ y. ap (λ (n : ℕ). eqb n 1) (zeros_at 2050 (slot_at y)))

-- Marks show a result: those of its words are 1, and no other.
pub record Showing (m : List ℕ) (R : Words) : Type 0 where
  pub size : length m ≡ 2050
  pub shows : (y : ℤ) → get_or m (slot_at y) 0 ≡ pick (holds y R) 1 0

pub marked_shows : (R : Words) → AllInRange R → Showing (mark_all clean R) R
marked_shows R range =
    record {
      size = length_mark clean R ∙ clean_size;
      shows = λ y. mark_shows clean clean_size R range y ∙ ap (pick (holds y R) 1) (zeros_at 2050 (slot_at y));
    }

-- With one mark taken away they show the result without that word.
pub unmarked_shows : (m : List ℕ) (R : Words) (x : ℤ) → InRange x → Showing m R → Showing (set m (slot_at x) 0) (without x R)
unmarked_shows m R x r h =
    record {
      size = store_size m h.size x r 0;
      shows = λ y. store_seen m h.size x r 0 y ∙ ap (pick (same_word y x) 0) (h.shows y) ∙ go y (same_word y x) refl;
    }
  where
    go : (y : ℤ) (b : Bool) → same_word y x ≡ b → pick b 0 (pick (holds y R) 1 0) ≡ pick (holds y (without x R)) 1 0
    go y true e = rw (absent_holds y (without x R) (λ k. (without_member y x R k).1 (same_sound y x e)))
    go y false e = ap (λ (b : Bool). pick b 1 0) (side (holds y R) refl)
      where
        side : (b : Bool) → holds y R ≡ b → b ≡ holds y (without x R)
        side true q = sym (holds_complete y (without x R) (member_without y x R (holds_sound y R q) (same_apart y x e)))
        side false q = sym (absent_holds y (without x R) (λ k. holds_absent y R q (without_member y x R k).0))

-- Ticking off a statement, from marks that show a result.
module _ (R L : Words) (range : AllInRange R) (m : List ℕ) (showing : Showing m R) where
  nothing_seen : Shows m R []
  unfolding holds
  nothing_seen y = showing.shows y

  left_shows : ticks m L ≡ true → (y : ℤ) → get_or (tick_all m L) (slot_at y) 0 ≡ pick (holds y L) 0 (pick (holds y R) 1 0)
  left_shows t y = tick_shows R range m showing.size [] L nothing_seen t y ∙ ap (pick (holds y L) 0) (showing.shows y)

  left_size : length (tick_all m L) ≡ 2050
  left_size = length_tick m L ∙ showing.size

  -- A mark is left exactly when a word of the result is unstated. No word has the slot 1.
  left_covers : ticks m L ≡ true → get_or (tick_all m L) 1 0 ≡ 0 → any_marked (tick_all m L) ≡ not (covers L R)
  left_covers t one = go (covers L R) refl
    where
      left_in : (y : ℤ) (a b : Bool) → holds y L ≡ a → holds y R ≡ b → pick a 0 (pick b 1 0) ≡ 1 → Memᴰ y R × (holds y L ≡ false)
      left_in y true b k l q = let z : ◌≡◌ {A = ℕ} 0 1 = q in absurd (omega arith)
      left_in y false true k l q = (holds_sound y R l, k)
      left_in y false false k l q = let z : ◌≡◌ {A = ℕ} 0 1 = q in absurd (omega arith)

      stated : covers L R ≡ true → (y : ℤ) → get_or (tick_all m L) (slot_at y) 0 ≢ 1
      stated e y q =
          let i = left_in y (holds y L) (holds y R) refl refl (sym (left_shows t y) ∙ q) in
          false≢true (sym i.1 ∙ holds_complete y L (covers_sound L R e y i.0))

      nowhere : covers L R ≡ true → (i : ℕ) → i < length (tick_all m L) → get_or (tick_all m L) i 0 ≢ 1
      nowhere e i h q =
          dite (ℕ_discrete i 1)
          (λ s. let z : ◌≡◌ {A = ℕ} 0 1 = sym one ∙ ap (λ (k : ℕ). get_or (tick_all m L) k 0) (sym s) ∙ q in omega arith)
          (λ n. let size = left_size in let x = slot_of_lem i (omega arith) n in stated e x.0 (ap (λ (k : ℕ). get_or (tick_all m L) k 0) x.1 ∙ q))

      go : (b : Bool) → covers L R ≡ b → any_marked (tick_all m L) ≡ not b
      go true e = none_marked (tick_all m L) (nowhere e)
      go false e =
          let u = uncovered L R e in
          one_marked (tick_all m L) (slot_at u.0) (left_shows t u.0 ∙ rw (u.2, holds_complete u.0 R u.1))

  -- Whether all is ticked off and no mark is left tells whether L states the result.
  pub shown_states : get_or (tick_all m L) 1 0 ≡ 0 → (ticks m L && not (any_marked (tick_all m L))) ≡ states R L
  unfolding states
  shown_states one = go (ticks m L) refl
    where
      not_not : (b : Bool) → not (not b) ≡ b
      not_not true = refl
      not_not false = refl

      listed : ticks m L ≡ lists R [] L
      listed = ticks_lists R range m showing.size [] L nothing_seen

      go : (b : Bool) → ticks m L ≡ b → (ticks m L && not (any_marked (tick_all m L))) ≡ (lists R [] L && covers L R)
      go true e = rw (← listed, e, left_covers e one, not_not (covers L R))
      go false e = rw (← listed, e)
