-- Completions by computing: variables that occur and are not listed, rising, ahead of the sets; none twice, none that does not occur.
use Rattle.std.specs.Prelude.{◌≡◌, refl, [], ◌∷◌, pos, negsuc}
use Rattle.qbf.specs.Formula.{existential, universal, entry}
use Rattle.formula.specs.Tables.{is_in}
use Rattle.formula.specs.Free.{occurs, passing, completed}

-- V is 5, 3 is listed as universal, and the clauses are {4, −2} and {3, 4}: 2 and 4 are free, 1 and 5 do not occur.
pub two_free : completed 5 (entry 3 universal ∷ []) (pos 4 ∷ negsuc 1 ∷ pos 0 ∷ pos 3 ∷ pos 4 ∷ pos 0 ∷ []) ≡ entry 2 existential ∷ entry 4 existential ∷ entry 3 universal ∷ []
unfolding occurs passing is_in
two_free = refl

-- Without sets all that occur are free; without clauses none is.
pub no_sets : completed 2 [] (negsuc 1 ∷ pos 1 ∷ pos 0 ∷ []) ≡ entry 1 existential ∷ entry 2 existential ∷ []
unfolding occurs passing is_in
no_sets = refl

pub no_clauses : completed 2 (entry 2 existential ∷ []) [] ≡ entry 2 existential ∷ []
unfolding occurs passing is_in
no_clauses = refl
