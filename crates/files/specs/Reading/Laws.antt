-- Laws of a file's reading: each outcome of a call by itself; that a reading is whole only where its calls show it; and what holds
-- from call to call: the count stays within the buffer, and what is left to read and to try falls. Assumes nothing.
use Rattle.std.specs.Prelude.{ℕ, zero, suc, ◌+◌, ◌-◌, ◌≤◌, ◌<◌, ◌≡◌, refl, Bool, true, false, cond, List, [], ◌∷◌, ltb, eqb, ℤ, pos, negsuc}
use Rattle.std.proofs.Common.{sym, ◌∙◌, arith, lt-ltb, le-ltb, eq-eqb, ne_eqb, ltb-true, eqb-true}
use Rattle.files.specs.Reading.{interrupted, outcome_of, placed, after_outcome, after_read, step, reading_from, Seen, ended, filled, more, again}
use Rattle.files.specs.declared.reading.Outcome.{Outcome}
use Rattle.files.specs.declared.reading.Outcome.TheVariants.{Moved, Interrupted, Failed}
use Rattle.files.specs.declared.reading.Reading.{Reading}
use Rattle.files.specs.declared.reading.Reading.TheVariants.{On, Whole, Unreadable}

-- After bytes that leave room, that fill the buffer, and that pass its end.
pub placed_on : (count at room tries : ℕ) → at + count < room → placed count at room tries ≡ On (at + count) tries
unfolding placed
placed_on count at room tries h = rw (lt-ltb (at + count) room h)

pub placed_full : (count at room tries : ℕ) → at + count ≡ room → placed count at room tries ≡ Whole room
unfolding placed
placed_full count at room tries h = rw (le-ltb (at + count) room (omega arith), eq-eqb (at + count) room h)

pub placed_past : (count at room tries : ℕ) → room < at + count → placed count at room tries ≡ Unreadable
unfolding placed
placed_past count at room tries h = rw (le-ltb (at + count) room (omega arith), ne_eqb (at + count) room (λ e. omega arith))

-- The step as the code takes it: by whether the count is 0, and by whether a try is left.
pub moved_end : (count at room tries : ℕ) → count ≡ 0 → after_outcome (Moved count) at room tries ≡ Whole at
unfolding after_outcome
moved_end zero at room tries h = refl
moved_end (suc n) at room tries h = absurd (omega arith)

pub moved_placed : (count at room tries : ℕ) → (count ≡ 0 → ⊥) → after_outcome (Moved count) at room tries ≡ placed count at room tries
unfolding after_outcome
moved_placed zero at room tries h = absurd (h refl)
moved_placed (suc n) at room tries h = refl

pub interrupted_last : (at room tries : ℕ) → tries ≡ 0 → after_outcome Interrupted at room tries ≡ Unreadable
unfolding after_outcome
interrupted_last at room zero h = refl
interrupted_last at room (suc tries) h = absurd (omega arith)

pub interrupted_again : (at room tries : ℕ) → (tries ≡ 0 → ⊥) → after_outcome Interrupted at room tries ≡ On at (tries - 1)
unfolding after_outcome
interrupted_again at room zero h = absurd (h refl)
interrupted_again at room (suc tries) h = let e : tries ≡ suc tries - 1 = omega arith in cc

pub failed_unreadable : (at room tries : ℕ) → after_outcome Failed at room tries ≡ Unreadable
unfolding after_outcome
failed_unreadable at room tries = refl

-- A settled reading stays, whatever later calls would answer.
pub whole_stays : (room n : ℕ) (calls : List (ℤ × ℤ)) → reading_from room (Whole n) calls ≡ Whole n
unfolding reading_from step
whole_stays room n [] = refl
whole_stays room n (call ∷ calls) = whole_stays room n calls

pub unreadable_stays : (room : ℕ) (calls : List (ℤ × ℤ)) → reading_from room Unreadable calls ≡ Unreadable
unfolding reading_from step
unreadable_stays room [] = refl
unreadable_stays room (call ∷ calls) = unreadable_stays room calls

-- The six things that a call can come to, before any later calls.
module _ (room at : ℕ) (calls : List (ℤ × ℤ)) where
  pub end_seen : (tries : ℕ) (error : ℤ) → reading_from room (On at tries) ((pos 0, error) ∷ calls) ≡ Whole at
  unfolding reading_from step after_read outcome_of after_outcome
  end_seen tries error = whole_stays room at calls

  pub more_read : (tries n : ℕ) (error : ℤ) → at + suc n < room
      → reading_from room (On at tries) ((pos (suc n), error) ∷ calls) ≡ reading_from room (On (at + suc n) tries) calls
  unfolding reading_from step after_read outcome_of after_outcome
  more_read tries n error h = rw (placed_on (suc n) at room tries h)

  pub buffer_full : (tries n : ℕ) (error : ℤ) → at + suc n ≡ room → reading_from room (On at tries) ((pos (suc n), error) ∷ calls) ≡ Whole room
  unfolding reading_from step after_read outcome_of after_outcome
  buffer_full tries n error h = rw (placed_full (suc n) at room tries h) (whole_stays room room calls)

  pub failure_unreadable : (tries n : ℕ) (error : ℤ) → interrupted error ≡ false
      → reading_from room (On at tries) ((negsuc n, error) ∷ calls) ≡ Unreadable
  unfolding reading_from step after_read outcome_of after_outcome
  failure_unreadable tries n error h = rw h (unreadable_stays room calls)

  pub interruption_tried_again : (tries n : ℕ) (error : ℤ) → interrupted error ≡ true
      → reading_from room (On at (suc tries)) ((negsuc n, error) ∷ calls) ≡ reading_from room (On at tries) calls
  unfolding reading_from step after_read outcome_of after_outcome
  interruption_tried_again tries n error h = rw h

  pub interruption_too_many : (n : ℕ) (error : ℤ) → interrupted error ≡ true → reading_from room (On at 0) ((negsuc n, error) ∷ calls) ≡ Unreadable
  unfolding reading_from step after_read outcome_of after_outcome
  interruption_too_many n error h = rw h (unreadable_stays room calls)

-- A reading is whole only where its calls show it: the end was seen, or the buffer is full.
stays_whole : (room n m : ℕ) (calls : List (ℤ × ℤ)) → reading_from room (Whole m) calls ≡ Whole n → n ≡ m
stays_whole room n m calls e = let f = whole_stays room m calls in cc

never_whole : (room n : ℕ) (calls : List (ℤ × ℤ)) → reading_from room Unreadable calls ≡ Whole n → ⊥
never_whole room n calls e = let f = unreadable_stays room calls in let z : ◌≡◌ {A = ℕ} 0 1 = cc in omega arith

placed_seen :
    (room at tries n k : ℕ) (error : ℤ) (calls : List (ℤ × ℤ)) → ((next : ℕ) → reading_from room (On next tries) calls ≡ Whole n → Seen room next calls n)
    → reading_from room (placed (suc k) at room tries) calls ≡ Whole n → Seen room at ((pos (suc k), error) ∷ calls) n
unfolding placed
placed_seen room at tries n k error calls later = go (ltb (at + suc k) room) refl
  where
    full : (b : Bool) → eqb (at + suc k) room ≡ b → reading_from room (cond b (Whole room) Unreadable) calls ≡ Whole n → Seen room at ((pos (suc k), error) ∷ calls) n
    full true f e = filled (eqb-true (at + suc k) room f) (stays_whole room n room calls e)
    full false f e = absurd (never_whole room n calls e)

    go : (b : Bool) → ltb (at + suc k) room ≡ b
        → reading_from room (cond b (On (at + suc k) tries) (cond (eqb (at + suc k) room) (Whole room) Unreadable)) calls ≡ Whole n
        → Seen room at ((pos (suc k), error) ∷ calls) n
    go true f e = more (ltb-true (at + suc k) room f) (later (at + suc k) e)
    go false f e = full (eqb (at + suc k) room) refl e

failed_seen :
    (room at tries n k : ℕ) (error : ℤ) (calls : List (ℤ × ℤ)) → ((left : ℕ) → reading_from room (On at left) calls ≡ Whole n → Seen room at calls n)
    → reading_from room (after_outcome (cond (interrupted error) Interrupted Failed) at room tries) calls ≡ Whole n → Seen room at ((negsuc k, error) ∷ calls) n
unfolding after_outcome
failed_seen room at tries n k error calls later = go (interrupted error) refl tries
  where
    go : (b : Bool) → interrupted error ≡ b → (tries : ℕ) → reading_from room (after_outcome (cond b Interrupted Failed) at room tries) calls ≡ Whole n
        → Seen room at ((negsuc k, error) ∷ calls) n
    go true f zero e = absurd (never_whole room n calls e)
    go true f (suc left) e = again f (later left e)
    go false f tries e = absurd (never_whole room n calls e)

pub whole_seen : (room at tries n : ℕ) (calls : List (ℤ × ℤ)) → reading_from room (On at tries) calls ≡ Whole n → Seen room at calls n
unfolding reading_from step after_read outcome_of after_outcome
whole_seen room at tries n [] e = let z : ◌≡◌ {A = ℕ} 0 1 = cc in absurd (omega arith)
whole_seen room at tries n ((pos zero, error) ∷ calls) e = ended (stays_whole room n at calls e)
whole_seen room at tries n ((pos (suc k), error) ∷ calls) e = placed_seen room at tries n k error calls (λ next. whole_seen room next tries n calls) e
whole_seen room at tries n ((negsuc k, error) ∷ calls) e = failed_seen room at tries n k error calls (λ left. whole_seen room at left n calls) e

-- What holds of a reading's next state: it goes on inside the buffer with less left to read or to try, or is whole within it.
abbrev Next : ℕ → ℕ → ℕ → Reading → Type 0
Next at room tries (On next left) = (next ≤ room) × (room - next + left < room - at + tries)
Next at room tries (Whole n) = n ≤ room
Next at room tries Unreadable = Unit {0}

placed_next : (n at room tries : ℕ) → Next at room tries (placed (suc n) at room tries)
unfolding placed
placed_next n at room tries = go (ltb (at + suc n) room) refl
  where
    full : (b : Bool) → Next at room tries (cond b (Whole room) Unreadable)
    full true = omega arith
    full false = tt

    go : (b : Bool) → ltb (at + suc n) room ≡ b → Next at room tries (cond b (On (at + suc n) tries) (cond (eqb (at + suc n) room) (Whole room) Unreadable))
    go true e = let h : at + suc n < room = ltb-true (at + suc n) room e in (omega arith, omega arith)
    go false e = full (eqb (at + suc n) room)

outcome_next : (o : Outcome) (at room tries : ℕ) → at ≤ room → Next at room tries (after_outcome o at room tries)
unfolding after_outcome
outcome_next (Moved zero) at room tries h = h
outcome_next (Moved (suc n)) at room tries h = placed_next n at room tries
outcome_next Interrupted at room zero h = tt
outcome_next Interrupted at room (suc tries) h = (h, omega arith)
outcome_next Failed at room tries h = tt

-- As a loop uses it: the reading goes on, or is whole.
module _ (got error : ℤ) (at room tries : ℕ) (r : Reading) (e : r ≡ after_read got error at room tries) (h : at ≤ room) where
  pub on_next : (next left : ℕ) → r ≡ On next left → (next ≤ room) × (room - next + left < room - at + tries)
  unfolding after_read
  on_next next left f = rw (sym e ∙ f) at (outcome_next (outcome_of got error) at room tries h)

  pub whole_next : (n : ℕ) → r ≡ Whole n → n ≤ room
  unfolding after_read
  whole_next n f = rw (sym e ∙ f) at (outcome_next (outcome_of got error) at room tries h)
