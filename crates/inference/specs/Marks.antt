-- The marks of a step, as the code makes them: one flag a literal, and what marking a list of words, ticking one off and wiping do to the
-- marks and tell. That this judges a statement is in proofs/Theorems/Marks/Judging.antt.
pub mod Laws
use Rattle.std.specs.Prelude.{ℕ, ◌≡◌, Bool, true, false, ◌&&◌, ◌||◌, List, [], ◌∷◌, get_or, set, replicate, eqb, ℤ, neg_ℤ}
use Rattle.bits.specs.Flags.{flags}
use Rattle.formula.specs.Word.{word_of, slot_of}
use Rattle.inference.specs.Words.{Words}

-- The list of one word.
abbrev pub alone : ℤ → Words
alone x = x ∷ []

-- The slot of a word's literal: 2 to 2,049; 0 for any other word.
unfoldable pub slot_at : ℤ → ℕ
slot_at x = slot_of (word_of x)

-- The marks that bytes hold, by slot: the first two slots are no literal's and have no bit.
unfoldable pub marks_in : List ℕ → List ℕ
marks_in bytes = 0 ∷ 0 ∷ flags bytes

-- No literal is marked.
abbrev pub clean : List ℕ
clean = replicate 2050 0

-- Each word is marked; one met the mark of its opposite.
unfoldable pub mark_all : List ℕ → Words → List ℕ
mark_all marks [] = marks
mark_all marks (x ∷ C) = mark_all (set marks (slot_at x) 1) C

unfoldable pub meets : List ℕ → Words → Bool
meets marks [] = false
meets marks (x ∷ C) = eqb (get_or marks (slot_at (neg_ℤ x)) 0) 1 || meets (set marks (slot_at x) 1) C

-- Words are ticked off, their marks cleared, up to the first that is not marked; there is none.
abbrev pub tick_if : Bool → List ℕ → List ℕ → List ℕ
tick_if true marks later = later
tick_if false marks later = marks

unfoldable pub tick_all : List ℕ → Words → List ℕ
tick_all marks [] = marks
tick_all marks (x ∷ L) = tick_if (eqb (get_or marks (slot_at x) 0) 1) marks (tick_all (set marks (slot_at x) 0) L)

unfoldable pub ticks : List ℕ → Words → Bool
ticks marks [] = true
ticks marks (x ∷ L) = eqb (get_or marks (slot_at x) 0) 1 && ticks (set marks (slot_at x) 0) L

-- A mark is left.
unfoldable pub any_marked : List ℕ → Bool
any_marked [] = false
any_marked (m ∷ marks) = eqb m 1 || any_marked marks

pub record Marked (marks : List ℕ) (C : Words) (met : Bool) (exit : List ℕ) : Type 0 where
  pub told : met ≡ meets marks C
  pub left : exit ≡ mark_all marks C

pub record Ticked (marks : List ℕ) (L : Words) (all : Bool) (exit : List ℕ) : Type 0 where
  pub told : all ≡ ticks marks L
  pub left : exit ≡ tick_all marks L

pub record Wiped (marks : List ℕ) (found : Bool) (exit : List ℕ) : Type 0 where
  pub told : found ≡ any_marked marks
  pub left : exit ≡ clean
