-- The evaluator's answer (01, "The game and its tables"): the tables' own refusals first, then 2 at 0 beyond 16 variables,
-- else false exactly when the first position is lost. Laws are in Evaluation/Laws.antt.
pub mod Laws
use Rattle.std.specs.Prelude.{ℕ, Bool, false, not, List, leb, ℤ, Result, Ok, Err}
use Rattle.std.proofs.Math.Option.{Option, none, some}
use Rattle.qbf.specs.Play.{Values, lost}
use Rattle.formula.specs.Refusal.{refusal, require, unless}
use Rattle.formula.specs.Prefix.{prefix_of, entry_count}
use Rattle.formula.specs.Tables.{tables_refusal}
use Rattle.formula.specs.Decode.{matrix_of}
use Rattle.formula.specs.declared.refusal.Refusal.{Refusal}
use Rattle.formula.specs.declared.refusal.Reason.TheVariants.{Oversized}

-- Variables of a game that is played.
abbrev pub game_bound : ℕ
game_bound = 16

-- The formula is false when its first position is lost, and true otherwise.
abbrev pub verdict : Bool → Result Bool Refusal
verdict l = Ok (not l)

abbrev pub after_tables : Option Refusal → Result Bool Refusal → Result Bool Refusal
after_tables r later = unless Err r later

-- The values of the first position: 0 stands where no variable is set yet.
abbrev pub unset : Values
unset v = false

unfoldable pub evaluation_of : List ℤ → List ℤ → Result Bool Refusal
evaluation_of prefix clauses =
    after_tables (tables_refusal prefix clauses)
    (require (leb (entry_count prefix) game_bound) (Err (refusal Oversized 0)) (verdict (lost (prefix_of prefix) unset (matrix_of clauses))))
