-- Readings of a file into a buffer of 8 bytes with one try, by computation: each list has what the calls answered, with the error
-- number after each (4: interrupted; 5: the device failed). Assumes nothing.
use Rattle.std.specs.Prelude.{◌≡◌, refl, List, [], ◌∷◌, ℤ, pos, negsuc}
use Rattle.files.specs.Reading.{interrupted, outcome_of, placed, after_outcome, after_read, step, reading_from, settled}
use Rattle.files.specs.declared.reading.Reading.{Reading}
use Rattle.files.specs.declared.reading.Reading.TheVariants.{On, Whole, Unreadable}

unfoldable pub reading : List (ℤ × ℤ) → Reading
reading calls = reading_from 8 (On 0 1) calls

-- The end is seen after two parts.
pub ends : reading ((pos 3, pos 0) ∷ (pos 2, pos 0) ∷ (pos 0, pos 0) ∷ []) ≡ Whole 5
unfolding reading reading_from step after_read outcome_of after_outcome placed
ends = refl

-- The buffer is full, and no later call counts.
pub fills : reading ((pos 3, pos 0) ∷ (pos 5, pos 0) ∷ (negsuc 0, pos 5) ∷ []) ≡ Whole 8
unfolding reading reading_from step after_read outcome_of after_outcome placed
fills = refl

-- A failure half-way: unreadable and as empty, though later calls would reach the end.
pub fails : reading ((pos 3, pos 0) ∷ (negsuc 0, pos 5) ∷ (pos 2, pos 5) ∷ (pos 0, pos 5) ∷ []) ≡ Unreadable
unfolding reading reading_from step after_read outcome_of after_outcome placed interrupted
fails = refl

pub fails_empty : settled (reading ((pos 3, pos 0) ∷ (negsuc 0, pos 5) ∷ (pos 2, pos 5) ∷ (pos 0, pos 5) ∷ [])) ≡ 0
unfolding settled reading reading_from step after_read outcome_of after_outcome placed interrupted
fails_empty = refl

-- An interruption is tried again; one too many is unreadable.
pub tries_again : reading ((pos 3, pos 0) ∷ (negsuc 0, pos 4) ∷ (pos 2, pos 4) ∷ (pos 0, pos 4) ∷ []) ≡ Whole 5
unfolding reading reading_from step after_read outcome_of after_outcome placed interrupted
tries_again = refl

pub gives_up : reading ((pos 3, pos 0) ∷ (negsuc 0, pos 4) ∷ (negsuc 0, pos 4) ∷ (pos 0, pos 4) ∷ []) ≡ Unreadable
unfolding reading reading_from step after_read outcome_of after_outcome placed interrupted
gives_up = refl

-- Before the end is seen nothing is settled: bytes alone are no whole file.
pub goes_on : reading ((pos 3, pos 0) ∷ (pos 2, pos 0) ∷ []) ≡ On 5 1
unfolding reading reading_from step after_read outcome_of after_outcome placed
goes_on = refl
