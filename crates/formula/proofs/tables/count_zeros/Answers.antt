-- `count_zeros` adds up 1 for each word that is 0. Assumes nothing.
use Rattle.std.proofs.Common.{◌≡◌, ℕ, zero, suc, ◌+◌, ◌≤◌, cond, ℤ, pos, negsuc, List, ◌∷◌, length, sum_by, refl, ◌∙◌, one-add, zero-add, arith, rules, tests}
use mathlib.Core.List.{[]}
use Rattle.std.proofs.lemmas.Iterator.{YieldsList-from_slice, YieldsList-from_map}
use Rattle.std.proofs.lemmas.Iterator.Consumers.{sum_by_from_yields_List, fits_by_from_yields_list}
use Rattle.std.proofs.lemmas.List.Sums.{sum_by-cons}
use Rattle.formula.specs.Word.{is_zero}
use Rattle.formula.specs.Tables.{zeros}
use Rattle.formula.proofs.tables.count_zeros.Goals as goal

-- what a word adds
abbrev one : ℤ → ℕ
one w = cond (is_zero w) 1 0

zeros_sum : (ws : List ℤ) → sum_by one ws ≡ zeros ws
unfolding zeros is_zero
zeros_sum [] = refl
zeros_sum (w ∷ ws) = sum_by-cons one w ws ∙ rw (zeros_sum ws) (more w)
  where
    more : (w : ℤ) → one w + zeros ws ≡ zeros (w ∷ ws)
    more (pos zero) = one-add (zeros ws)
    more (pos (suc n)) = zero-add (zeros ws)
    more (negsuc n) = zero-add (zeros ws)

zeros_most : (ws : List ℤ) → zeros ws ≤ length ws
unfolding zeros
zeros_most [] = omega arith
zeros_most (pos zero ∷ ws) = omega (arith, zeros_most ws)
zeros_most (pos (suc n) ∷ ws) = omega (arith, zeros_most ws)
zeros_most (negsuc n ∷ ws) = omega (arith, zeros_most ws)

pub sum-requires-clause-fits : goal.sum-requires-clause-fits
sum-requires-clause-fits c =
    let ws = c.args.clauses.now in
    fits_by_from_yields_list one ws c.map.result _ (YieldsList-from_map _ one (YieldsList-from_slice ws cc) c.map.ensures.closure (λ x r q k. search (rules, tests))) (rw (zeros_sum ws) (omega (arith, zeros_most ws, c.iter.ensures.bound)))

pub returns : goal.returns
returns c =
    let ws = c.args.clauses.now in
    sum_by_from_yields_List one ws c.map.result c.sum.result c.sum.ensures.ran (YieldsList-from_map _ one (YieldsList-from_slice ws cc) c.map.ensures.closure (λ x r q k. search (rules, tests))) ∙ zeros_sum ws
