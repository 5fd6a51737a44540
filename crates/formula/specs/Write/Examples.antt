-- 01's example written out: source document 001's formula as text.
use Rattle.std.specs.Prelude.{◌≡◌, refl, pos, negsuc}
use mathlib.Core.List.{[], ◌∷◌, ◌++◌, flat_map}
use Rattle.formula.specs.Prefix.{prefix_of}
use Rattle.formula.specs.Decode.{clauses_of}
use Rattle.formula.specs.Tables.{zeros}
use Rattle.formula.specs.Word.{word_of, ordinal}
use Rattle.formula.specs.Prefix.Examples.{e, a}
use Rattle.formula.specs.Decimal.{digits, decimal}
use Rattle.formula.specs.Write.{written, header_text, largest, letter_of, runs, run_line, variables_text, clause_line, literal_text}

-- 001's formula: ∃1 ∀2 ∃3 ∃4, clauses {2,3} {−2,4} {−4,1} {−1,−3}.
pub written_example :
    written
    (e 1 1 (a 2 2 (e 3 3 (e 4 3 []))))
    (pos 2 ∷ pos 3 ∷ pos 0 ∷ negsuc 1 ∷ pos 4 ∷ pos 0 ∷ negsuc 3 ∷ pos 1 ∷ pos 0 ∷ negsuc 0 ∷ negsuc 2 ∷ pos 0 ∷ [])
    -- p cnf 4 4
    ≡ (112 ∷ 32 ∷ 99 ∷ 110 ∷ 102 ∷ 32 ∷ 52 ∷ 32 ∷ 52 ∷ 10 ∷ [])
    -- e 1 0
    ++ (101 ∷ 32 ∷ 49 ∷ 32 ∷ 48 ∷ 10 ∷ [])
    -- a 2 0
    ++ (97 ∷ 32 ∷ 50 ∷ 32 ∷ 48 ∷ 10 ∷ [])
    -- e 3 4 0
    ++ (101 ∷ 32 ∷ 51 ∷ 32 ∷ 52 ∷ 32 ∷ 48 ∷ 10 ∷ [])
    -- 2 3 0
    ++ (50 ∷ 32 ∷ 51 ∷ 32 ∷ 48 ∷ 10 ∷ [])
    -- -2 4 0
    ++ (45 ∷ 50 ∷ 32 ∷ 52 ∷ 32 ∷ 48 ∷ 10 ∷ [])
    -- -4 1 0
    ++ (45 ∷ 52 ∷ 32 ∷ 49 ∷ 32 ∷ 48 ∷ 10 ∷ [])
    -- -1 -3 0
    ++ (45 ∷ 49 ∷ 32 ∷ 45 ∷ 51 ∷ 32 ∷ 48 ∷ 10 ∷ [])
unfolding written prefix_of ordinal word_of header_text largest letter_of runs run_line variables_text clause_line literal_text flat_map clauses_of zeros digits decimal
written_example = refl
