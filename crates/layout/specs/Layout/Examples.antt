-- How texts and sets are written down in examples, and 01's clause on two lines: the text, what it lays out, its tokens with what parts
-- them, and the tables that it denotes with the least room for them. That it is so is in proofs/Theorems/Layout/Examples.antt.
use Rattle.std.specs.Prelude.{ℕ, ℤ, pos}
use Prim.Native.String.{String}
use mathlib.Core.List.{List, [], ◌∷◌}
use Rattle.qbf.specs.Formula.{Quantifier, existential}
use Rattle.formula.specs.Prefix.Examples.{e}
use Rattle.formula.specs.Text.Examples.{bytes}
use Rattle.layout.specs.Layout.{Piece, QuantifierSet, LaidOut}

unfoldable pub piece : String → String → Piece
piece token gap = record { token = bytes token; gap = bytes gap }

abbrev pub set : Quantifier → List ℕ → QuantifierSet
set q ns = record { quantifier = q; variables = ns }

abbrev pub two_lines : List ℕ
two_lines = bytes "p cnf 2 1\ne 1 2 0\n1\n2 0\n"

abbrev pub two_lines_sets : List QuantifierSet
two_lines_sets = set existential (1 ∷ 2 ∷ []) ∷ []

abbrev pub two_lines_clauses : List (List ℤ)
two_lines_clauses = (pos 1 ∷ pos 2 ∷ []) ∷ []

abbrev pub two_lines_pieces : List Piece
two_lines_pieces =
    piece "p" " " ∷ piece "cnf" " " ∷ piece "2" " " ∷ piece "1" "\n"
    ∷ piece "e" " " ∷ piece "1" " " ∷ piece "2" " " ∷ piece "0" "\n"
    ∷ piece "1" "\n" ∷ piece "2" " " ∷ piece "0" "\n"
    ∷ []

abbrev pub TwoLinesTables : Type 0
TwoLinesTables = LaidOut two_lines (e 1 1 (e 2 1 [])) (pos 1 ∷ pos 2 ∷ pos 0 ∷ []) 1 6 3
