-- The rows of 01's lettered positions a, c, e and l, whole, from the words of their tables, by computation.
use Rattle.std.specs.Prelude.{ℕ, ◌-◌, ◌≡◌, refl, [], ◌∷◌, replicate, ℤ, pos, negsuc}
use Rattle.std.proofs.Math.Decide.{ℕ_discrete}
use Rattle.qbf.specs.Literal.{same}
use Rattle.qbf.specs.Formula.{Formula, after, existentials}
use Rattle.qbf.specs.Path.{holds, together, joined, literals, reach}
use Rattle.qbf.specs.Dependency.{member, pair, depends}
use Rattle.formula.specs.Prefix.{prefix_of}
use Rattle.formula.specs.Prefix.Examples.{e, a}
use Rattle.formula.specs.Word.{word_of, ordinal}
use Rattle.formula.specs.Decode.{clauses_of, formula_of}
use Rattle.dependency.specs.Row.{row_below, row_of}

-- The word −n.
abbrev minus : ℕ → ℤ
minus n = negsuc (n - 1)

-- a: prefix ∃1 ∀2 ∃3 ∃4; {2,3} {−2,4} {−4,1} {−1,−3}.
abbrev pub position_a : Formula
position_a =
    formula_of (e 1 1 (a 2 2 (e 3 3 (e 4 3 []))))
    (pos 2 ∷ pos 3 ∷ pos 0 ∷ minus 2 ∷ pos 4 ∷ pos 0 ∷ minus 4 ∷ pos 1 ∷ pos 0 ∷ minus 1 ∷ minus 3 ∷ pos 0 ∷ [])

-- c: prefix ∀1 ∀2 ∃3; {1,2,−3} {−1,−2,3}.
abbrev pub position_c : Formula
position_c = formula_of (a 1 1 (a 2 1 (e 3 2 []))) (pos 1 ∷ pos 2 ∷ minus 3 ∷ pos 0 ∷ minus 1 ∷ minus 2 ∷ pos 3 ∷ pos 0 ∷ [])

-- e: prefix ∀1 ∃2 ∃3; {1,2} {−1,2} {−2,3} {−2,−3}.
abbrev pub position_e : Formula
position_e =
    formula_of (a 1 1 (e 2 2 (e 3 2 [])))
    (pos 1 ∷ pos 2 ∷ pos 0 ∷ minus 1 ∷ pos 2 ∷ pos 0 ∷ minus 2 ∷ pos 3 ∷ pos 0 ∷ minus 2 ∷ minus 3 ∷ pos 0 ∷ [])

-- l: prefix ∀1 ∃2; {1,2} {−1,2}.
abbrev pub position_l : Formula
position_l = formula_of (a 1 1 (e 2 2 [])) (pos 1 ∷ pos 2 ∷ pos 0 ∷ minus 1 ∷ pos 2 ∷ pos 0 ∷ [])

-- a: the row for 2 is empty. c: both rows hold 3. e: the row for 1 holds 2 and 3. l: the row for 1 is empty.
pub lettered_rows :
    (row_of position_a 2 ≡ replicate 1025 0)
    × (row_of position_c 1 ≡ 0 ∷ 0 ∷ 0 ∷ 1 ∷ replicate 1021 0)
    × (row_of position_c 2 ≡ 0 ∷ 0 ∷ 0 ∷ 1 ∷ replicate 1021 0)
    × (row_of position_e 1 ≡ 0 ∷ 0 ∷ 1 ∷ 1 ∷ replicate 1021 0)
    × (row_of position_l 1 ≡ replicate 1025 0)
unfolding prefix_of ordinal word_of row_of row_below clauses_of depends member pair reach joined together holds literals existentials after same ℕ_discrete
lettered_rows = (refl, refl, refl, refl, refl)
