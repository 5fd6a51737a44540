-- Buffers at the end of a call (01: "past the used part they are 0"): a buffer whose elements from a place on are cleared, one
-- that holds a list and zeros behind it, and the end of a writing. Laws are in Clear/Laws.antt.
pub mod Laws
use Rattle.std.specs.Prelude.{ℕ, zero, suc, ◌-◌, ◌≡◌, Bool, true, false, List, [], ◌∷◌, ◌++◌, length, replicate, leb}

module _ {A : Type 0} where
  -- The elements before the place n, then the value z for each later one.
  unfoldable pub clear_from : A → ℕ → List A → List A
  clear_from z zero l = replicate (length l) z
  clear_from z (suc n) [] = []
  clear_from z (suc n) (x ∷ l) = x ∷ clear_from z n l

  -- All cleared.
  abbrev pub cleared : A → List A → List A
  cleared z l = replicate (length l) z

  -- A buffer of `room` elements that holds a list, and z behind it.
  abbrev pub filled_up : A → ℕ → List A → List A
  filled_up z room l = l ++ replicate (room - length l) z

-- How much is kept where so much was written: all of it if it fits, and else nothing.
abbrev pub kept_up_to : Bool → ℕ → ℕ
kept_up_to true used = used
kept_up_to false used = 0

-- The end of a writing, `used` being the place behind what was written: does it fit, and the buffer with what is not kept cleared.
pub record Keeps (buffer : List ℕ) (used : ℕ) (fits : Bool) (after : List ℕ) : Type 0 where
  pub fitting : fits ≡ leb used (length buffer)
  pub leaves : after ≡ clear_from 0 (kept_up_to (leb used (length buffer)) used) buffer
