-- Refusals (01, "What the checker says no with"): a reason joined with its place; tests that refuse, and what answers by a refusal;
-- the number of each reason, and the table of reasons with their words. Laws are in Refusal/Laws.antt.
pub mod Laws
use Rattle.std.specs.Prelude.{ℕ, ◌-◌, ◌≤◌, ◌≡◌, Bool, true, false, cond, List, [], ◌∷◌, length, get_or, eqb, Result, Ok, Err, ⊤}
use Rattle.std.proofs.Math.Option.{Option, none, some}
use Rattle.scanner.specs.Position.{position_at}
use Rattle.scanner.specs.declared.position.Position.{Position}
use Rattle.formula.specs.declared.refusal.Reason.{Reason}
use Rattle.formula.specs.declared.refusal.Refusal.{Refusal}
use Rattle.formula.specs.declared.refusal.Blocker.{Blocker}
use Rattle.formula.specs.declared.refusal.Numbers.{Numbers}
use Rattle.formula.specs.declared.refusal.Numbers.TheVariants.{Alone, Blocked as Blocking}
use Rattle.formula.specs.declared.refusal.Reason.TheVariants.{
  Headless,
  Oversized,
  NoRoom,
  BadToken,
  OutOfRange,
  BoundTwice,
  Unbound,
  Clash,
  Unfinished,
  Miscount,
  NoTrailer,
  OtherFormula,
  BrokenStep,
  NotEarlier,
  WrongPivot,
  Tautology,
  Blocked,
  Misstated,
  NoConclusion,
  NotUniversal,
  Afterword,
}

-- A reason joined with its place, where that is in no text: line and column are 0.
abbrev pub refusal : Reason → ℕ → Refusal
refusal r p = record { reason = r; place = p; line = 0; column = 0 }

-- A test that must hold: what comes later where it does, and else the refusal, of whatever kind the answer is.
abbrev pub require : {A : Type 0} → Bool → (refused later : A) → A
require true refused later = later
require false refused later = refused

-- What answers by the refusal, or the reason of one, that there may be: without one, what is done.
abbrev pub unless : {R A : Type 0} → (R → A) → Option R → (done : A) → A
unless refuses (some r) done = refuses r
unless refuses none done = done

-- What a check answers that only lets go on or refuses.
abbrev pub passes : {R : Type 0} → Option R → Result ⊤ R
passes r = unless Err r (Ok tt)

-- The number of each reason, 01's and 02's; 17 comes with what blocks.
abbrev pub numbers : Reason → Numbers
numbers Headless = Alone 1
numbers Oversized = Alone 2
numbers NoRoom = Alone 3
numbers BadToken = Alone 4
numbers OutOfRange = Alone 5
numbers BoundTwice = Alone 6
numbers Unbound = Alone 7
numbers Clash = Alone 8
numbers Unfinished = Alone 9
numbers Miscount = Alone 10
numbers NoTrailer = Alone 11
numbers OtherFormula = Alone 12
numbers BrokenStep = Alone 13
numbers NotEarlier = Alone 14
numbers WrongPivot = Alone 15
numbers Tautology = Alone 16
numbers (Blocked b) = Blocking b
numbers Misstated = Alone 18
numbers NoConclusion = Alone 19
numbers NotUniversal = Alone 20
numbers Afterword = Alone 23

abbrev pub number_of : Numbers → ℕ
number_of (Alone n) = n
number_of (Blocking b) = 17

abbrev pub number : Reason → ℕ
number r = number_of (numbers r)

-- A reason joined with a position in a text; 2 has no place.
abbrev pub refused_at : Position → Reason → Refusal
refused_at p r =
    cond (eqb (number r) (number Oversized)) (refusal r 0) (record { reason = r; place = p.place; line = p.line; column = p.column })

-- A refusal of a text at the place of a token, or at the end.
abbrev pub in_text : List ℕ → ℕ → Reason → Refusal
in_text text at r = refused_at (position_at text at) r

-- Where nothing blocks.
abbrev pub no_blocker : Blocker
no_blocker = record { variable = record { 0 = 1 }; block = 0 }

-- A reason with the bytes of its word.
pub record Named : Type 0 where
  pub reason : Reason
  pub bytes : List ℕ

abbrev pub named : Reason → List ℕ → Named
named r bytes = record { reason = r; bytes = bytes }

-- The row of a number that no reason has, as 21 and 22, which 02 names for requests that are not built.
abbrev pub unnamed : Named
unnamed = named Headless []

-- 01's table and 02's afterword in the order of the numbers.
abbrev pub table : List Named
table =
    -- headless
    named Headless (104 ∷ 101 ∷ 97 ∷ 100 ∷ 108 ∷ 101 ∷ 115 ∷ 115 ∷ [])
    -- oversized
    ∷ named Oversized (111 ∷ 118 ∷ 101 ∷ 114 ∷ 115 ∷ 105 ∷ 122 ∷ 101 ∷ 100 ∷ [])
    -- no room
    ∷ named NoRoom (110 ∷ 111 ∷ 32 ∷ 114 ∷ 111 ∷ 111 ∷ 109 ∷ [])
    -- bad token
    ∷ named BadToken (98 ∷ 97 ∷ 100 ∷ 32 ∷ 116 ∷ 111 ∷ 107 ∷ 101 ∷ 110 ∷ [])
    -- out of range
    ∷ named OutOfRange (111 ∷ 117 ∷ 116 ∷ 32 ∷ 111 ∷ 102 ∷ 32 ∷ 114 ∷ 97 ∷ 110 ∷ 103 ∷ 101 ∷ [])
    -- bound twice
    ∷ named BoundTwice (98 ∷ 111 ∷ 117 ∷ 110 ∷ 100 ∷ 32 ∷ 116 ∷ 119 ∷ 105 ∷ 99 ∷ 101 ∷ [])
    -- unbound
    ∷ named Unbound (117 ∷ 110 ∷ 98 ∷ 111 ∷ 117 ∷ 110 ∷ 100 ∷ [])
    -- clash
    ∷ named Clash (99 ∷ 108 ∷ 97 ∷ 115 ∷ 104 ∷ [])
    -- unfinished
    ∷ named Unfinished (117 ∷ 110 ∷ 102 ∷ 105 ∷ 110 ∷ 105 ∷ 115 ∷ 104 ∷ 101 ∷ 100 ∷ [])
    -- miscount
    ∷ named Miscount (109 ∷ 105 ∷ 115 ∷ 99 ∷ 111 ∷ 117 ∷ 110 ∷ 116 ∷ [])
    -- no trailer
    ∷ named NoTrailer (110 ∷ 111 ∷ 32 ∷ 116 ∷ 114 ∷ 97 ∷ 105 ∷ 108 ∷ 101 ∷ 114 ∷ [])
    -- other formula
    ∷ named OtherFormula (111 ∷ 116 ∷ 104 ∷ 101 ∷ 114 ∷ 32 ∷ 102 ∷ 111 ∷ 114 ∷ 109 ∷ 117 ∷ 108 ∷ 97 ∷ [])
    -- broken step
    ∷ named BrokenStep (98 ∷ 114 ∷ 111 ∷ 107 ∷ 101 ∷ 110 ∷ 32 ∷ 115 ∷ 116 ∷ 101 ∷ 112 ∷ [])
    -- not earlier
    ∷ named NotEarlier (110 ∷ 111 ∷ 116 ∷ 32 ∷ 101 ∷ 97 ∷ 114 ∷ 108 ∷ 105 ∷ 101 ∷ 114 ∷ [])
    -- wrong pivot
    ∷ named WrongPivot (119 ∷ 114 ∷ 111 ∷ 110 ∷ 103 ∷ 32 ∷ 112 ∷ 105 ∷ 118 ∷ 111 ∷ 116 ∷ [])
    -- tautology
    ∷ named Tautology (116 ∷ 97 ∷ 117 ∷ 116 ∷ 111 ∷ 108 ∷ 111 ∷ 103 ∷ 121 ∷ [])
    -- blocked
    ∷ named (Blocked no_blocker) (98 ∷ 108 ∷ 111 ∷ 99 ∷ 107 ∷ 101 ∷ 100 ∷ [])
    -- misstated
    ∷ named Misstated (109 ∷ 105 ∷ 115 ∷ 115 ∷ 116 ∷ 97 ∷ 116 ∷ 101 ∷ 100 ∷ [])
    -- no conclusion
    ∷ named NoConclusion (110 ∷ 111 ∷ 32 ∷ 99 ∷ 111 ∷ 110 ∷ 99 ∷ 108 ∷ 117 ∷ 115 ∷ 105 ∷ 111 ∷ 110 ∷ [])
    -- not universal
    ∷ named NotUniversal (110 ∷ 111 ∷ 116 ∷ 32 ∷ 117 ∷ 110 ∷ 105 ∷ 118 ∷ 101 ∷ 114 ∷ 115 ∷ 97 ∷ 108 ∷ [])
    ∷ unnamed
    ∷ unnamed
    -- afterword
    ∷ named Afterword (97 ∷ 102 ∷ 116 ∷ 101 ∷ 114 ∷ 119 ∷ 111 ∷ 114 ∷ 100 ∷ [])
    ∷ []

-- The reason and the word of a number; numbers count from 1.
abbrev pub row_at : ℕ → Named
row_at n = get_or table (n - 1) unnamed

abbrev pub reason_at : ℕ → Reason
reason_at n = (row_at n).reason

-- n is the place of a row, counted from 1, and its reason's number.
abbrev pub TaggedNumber : ℕ → Type 0
TaggedNumber n = (number (reason_at n) ≡ n) × (1 ≤ n) × (n ≤ length table)

-- The numbers tell the reason.
abbrev pub Tagged : Reason → Numbers → Type 0
Tagged r (Alone n) = (r ≡ reason_at n) × (numbers (reason_at n) ≡ Alone n) × TaggedNumber n
Tagged r (Blocking b) = r ≡ Blocked b

abbrev pub word : Reason → List ℕ
word r = (row_at (number r)).bytes
