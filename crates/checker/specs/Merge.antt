-- Opposite literals of two antecedents, as the code looks for them: by the marks of one and the flags of the universals that may be merged. That this
-- is `crosses` of inference/specs/Steps.antt is in Merge/Laws.antt.
pub mod Laws
use Rattle.std.specs.Prelude.{ℕ, ◌-◌, ◌≡◌, Bool, false, not, ◌&&◌, ◌||◌, List, [], ◌∷◌, get_or, take, drop, eqb, neg_ℤ, nat_abs}
use Rattle.bits.specs.Flags.{flags}
use Rattle.dependency.specs.Scratch.{row_at}
use Rattle.inference.specs.declared.read.Family.{Family}
use Rattle.inference.specs.declared.read.Family.TheVariants.{Ordinary, LongDistance}
use Rattle.inference.specs.Words.{Words}
use Rattle.inference.specs.Marks.{slot_at}
use Rattle.checker.specs.Step.{Clean}

-- Where in the scratch the flags of the universals begin that may be merged.
abbrev pub merge_at : ℕ
merge_at = 512

abbrev pub universals_in : List ℕ → List ℕ
universals_in scratch = flags (take 128 (drop merge_at scratch))

-- Some word's opposite is marked, and its variable may not be merged.
unfoldable pub crosses_marks : (ℕ → Bool) → List ℕ → Words → Bool
crosses_marks may marks [] = false
crosses_marks may marks (x ∷ D) = (eqb (get_or marks (slot_at (neg_ℤ x)) 0) 1 && not (may (nat_abs x))) || crosses_marks may marks D

-- The same with flags.
abbrev pub flagged : List ℕ → ℕ → Bool
flagged fs v = eqb (get_or fs (v - 1) 0) 1

abbrev pub crosses_by : List ℕ → List ℕ → Words → Bool
crosses_by marks fs D = crosses_marks (flagged fs) marks D

-- What is told, and the scratch left as it was up to those flags. Ordinary steps are not asked.
abbrev pub told_in : Family → Bool → Bool
told_in Ordinary crossed = false
told_in LongDistance crossed = crossed

pub record Crossed (family : Family) (crossed r : Bool) (scratch scratch' : List ℕ) : Type 0 where
  pub told : r ≡ told_in family crossed
  pub clean : Clean scratch'
  pub kept : take 256 (drop row_at scratch') ≡ take 256 (drop row_at scratch)
