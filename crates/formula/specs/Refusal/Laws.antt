-- Laws of refusals: what tells a reason are its numbers, and every reason has its row in the table; a test that must hold, taken apart. Definitions: Refusal. Assumes nothing.
use Rattle.std.specs.Prelude.{ℕ, ◌≤◌, ◌≡◌, refl, Bool, true, false, ◌≢◌, length, Ok, Err}
use Rattle.std.proofs.Common.{ap, sym, arith}
use Rattle.std.proofs.Math.Option.{Option, none, some}
use Rattle.formula.specs.Refusal.{numbers, number_of, number, word, TaggedNumber, Tagged, require, passes}
use Rattle.formula.specs.declared.refusal.Reason.{Reason}
use Rattle.formula.specs.declared.refusal.Reason.TheVariants.{
  Headless,
  Oversized,
  NoRoom,
  BadToken,
  OutOfRange,
  BoundTwice,
  Unbound,
  Clash,
  Unfinished,
  Miscount,
  NoTrailer,
  OtherFormula,
  BrokenStep,
  NotEarlier,
  WrongPivot,
  Tautology,
  Blocked,
  Misstated,
  NoConclusion,
  NotUniversal,
  Afterword,
}
use Rattle.formula.specs.declared.refusal.Numbers.{Numbers}
use Rattle.formula.specs.declared.refusal.Numbers.TheVariants.{Alone, Blocked as Blocking}

-- What tells a reason are its numbers.
pub tagged_numbers : (r : Reason) (t : Numbers) → Tagged r t → t ≡ numbers r
tagged_numbers r (Alone n) h = rw h.0 (sym h.1)
tagged_numbers r (Blocking b) h = rw h refl

pub tagged_number : (r : Reason) (t : Numbers) → Tagged r t → (number_of t ≡ number r) × TaggedNumber (number_of t)
tagged_number r (Alone n) h = (ap number_of (tagged_numbers r (Alone n) h), h.2)
tagged_number r (Blocking b) h = (ap number_of (tagged_numbers r (Blocking b) h), (refl, omega arith, omega arith))

-- What a check that only lets go on or refuses tells of the refusal.
pub passes_none : {R : Type 0} (o : Option R) → passes o ≡ Ok tt → o ≡ none
passes_none none e = refl
passes_none (some r) e = let z : ◌≡◌ {A = ℕ} 0 1 = cc in absurd (omega arith)

pub passes_some : {R : Type 0} (o : Option R) (r : R) → passes o ≡ Err r → o ≡ some r
passes_some none r e = let z : ◌≡◌ {A = ℕ} 0 1 = cc in absurd (omega arith)
passes_some (some s) r e = cc

-- A test that must hold: an answer that is not the refusal; no refusal at all.
pub require_passed : {A : Type 0} (b : Bool) (refused later answer : A) → refused ≢ answer → require b refused later ≡ answer → (b ≡ true) × (later ≡ answer)
require_passed true refused later answer n e = (refl, e)
require_passed false refused later answer n e = absurd (n e)

pub require_none : {A : Type 0} (b : Bool) (r : A) (later : Option A) → require b (some r) later ≡ none → (b ≡ true) × (later ≡ none)
require_none b r later e = require_passed b (some r) later none (λ q. let z : ◌≡◌ {A = ℕ} 0 1 = cc in omega arith) e

-- Every reason has its own row, with a word.
pub every_named : (r : Reason) → TaggedNumber (number r) × (1 ≤ length (word r))
every_named Headless = ((refl, omega arith, omega arith), omega arith)
every_named Oversized = ((refl, omega arith, omega arith), omega arith)
every_named NoRoom = ((refl, omega arith, omega arith), omega arith)
every_named BadToken = ((refl, omega arith, omega arith), omega arith)
every_named OutOfRange = ((refl, omega arith, omega arith), omega arith)
every_named BoundTwice = ((refl, omega arith, omega arith), omega arith)
every_named Unbound = ((refl, omega arith, omega arith), omega arith)
every_named Clash = ((refl, omega arith, omega arith), omega arith)
every_named Unfinished = ((refl, omega arith, omega arith), omega arith)
every_named Miscount = ((refl, omega arith, omega arith), omega arith)
every_named NoTrailer = ((refl, omega arith, omega arith), omega arith)
every_named OtherFormula = ((refl, omega arith, omega arith), omega arith)
every_named BrokenStep = ((refl, omega arith, omega arith), omega arith)
every_named NotEarlier = ((refl, omega arith, omega arith), omega arith)
every_named WrongPivot = ((refl, omega arith, omega arith), omega arith)
every_named Tautology = ((refl, omega arith, omega arith), omega arith)
every_named (Blocked b) = ((refl, omega arith, omega arith), omega arith)
every_named Misstated = ((refl, omega arith, omega arith), omega arith)
every_named NoConclusion = ((refl, omega arith, omega arith), omega arith)
every_named NotUniversal = ((refl, omega arith, omega arith), omega arith)
every_named Afterword = ((refl, omega arith, omega arith), omega arith)
