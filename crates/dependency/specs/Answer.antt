-- What the entries for a dependency row answer (01, "Order"; 02, P8): the order of their refusals, and both buffers at the end, with the bytes of scratch asked for as a rule. Laws are
-- in Answer/Laws.antt.
pub mod Laws
pub mod Sizes
use Rattle.std.specs.Prelude.{Result, Ok, Err, ⊤}
use Rattle.std.specs.Prelude.{ℕ, zero, suc, ◌-◌, ◌≡◌, Bool, false, ◌&&◌, List, [], ◌∷◌, ◌++◌, length, get_or, replicate, eqb, leb, ℤ, pos, negsuc, nat_abs}
use Rattle.std.proofs.Math.Option.{Option, none, some}
use Rattle.qbf.specs.Formula.{Formula, Prefix, universal}
use Rattle.formula.specs.Refusal.{passes, refusal, require, unless}
use Rattle.formula.specs.Prefix.{prefix_of, quantifies}
use Rattle.formula.specs.Tables.{tables_refusal, first_refusal}
use Rattle.formula.specs.Decode.{formula_of}
use Rattle.formula.specs.declared.literal.Variable.{Variable}
use Rattle.formula.specs.declared.refusal.Refusal.{Refusal}
use Rattle.formula.specs.declared.refusal.Reason.TheVariants.{NoRoom, NotUniversal}
use Rattle.dependency.specs.Row.{mark, row_of}

-- A universal is asked for by its number; anything else asks for none.
abbrev pub universal_asked : Prefix → ℤ → Bool
universal_asked P (pos v) = quantifies universal P v
universal_asked P (negsuc n) = false

-- The refusals in order: the tables', 20, then 3 for a row under 1,025 bytes or scratch under the bytes asked for, which come
-- first here.
abbrev pub room_refusal : (bytes row scratch : ℕ) → Option Refusal
room_refusal bytes row scratch = require (leb 1025 row && leb bytes scratch) (some (refusal NoRoom 0)) none

abbrev pub asked_refusal : (bytes : ℕ) → Prefix → ℤ → (row scratch : ℕ) → Option Refusal
asked_refusal bytes P variable row scratch = require (universal_asked P variable) (some (refusal NotUniversal 0)) (room_refusal bytes row scratch)

unfoldable pub row_refusal : (bytes : ℕ) → List ℤ → List ℤ → ℤ → (row scratch : ℕ) → Option Refusal
row_refusal bytes prefix clauses variable row scratch = first_refusal (tables_refusal prefix clauses) (asked_refusal bytes (prefix_of prefix) variable row scratch)

-- What answers by the refusal that there may be: without one, the variable asked for by its number.
abbrev pub asked_for : Option Refusal → ℤ → Result Variable Refusal
asked_for r variable = unless Err r (Ok (record { 0 = nat_abs variable }))

-- The row's buffer of n bytes: the row, and 0 from 1,025 on; wholly 0 after a refusal.
abbrev pub row_buffer : Option Refusal → Formula → ℕ → ℕ → List ℕ
row_buffer none F u n = row_of F u ++ replicate (n - 1025) 0
row_buffer (some r) F u n = replicate n 0

-- What an entry does that asks for so many bytes of scratch: its answer and both buffers, from the tables, the number asked for and the buffers' lengths.
pub record RowDone (bytes : ℕ) (prefix clauses : List ℤ) (variable : ℤ) (row scratch : List ℕ) (answer : Result ⊤ Refusal) (row' scratch' : List ℕ) : Type 0 where
  pub answered : answer ≡ passes (row_refusal bytes prefix clauses variable (length row) (length scratch))
  pub filled :
      row'
      ≡ row_buffer (row_refusal bytes prefix clauses variable (length row) (length scratch)) (formula_of prefix clauses) (nat_abs variable) (length row)
  pub cleared : scratch' ≡ replicate (length scratch) 0

-- The bytes for the variable numbers below n, as a row answers.
abbrev pub asked_byte : List ℕ → ℕ → ℕ
asked_byte row e = mark (eqb (get_or row e 0) 1)

unfoldable pub asked_bytes : List ℕ → ℕ → List ℕ
asked_bytes row zero = []
asked_bytes row (suc n) = asked_bytes row n ++ (asked_byte row n ∷ [])

-- The buffers after a row is written.
pub record RowFilled (F : Formula) (u : ℕ) (row scratch row' scratch' : List ℕ) : Type 0 where
  pub row_bytes : row' ≡ row_of F u ++ replicate (length row - 1025) 0
  pub scratch_bytes : scratch' ≡ replicate (length scratch) 0
