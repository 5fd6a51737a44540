-- `is_universal` asks each place of the prefix: a universal of the prefix is one of its entries. Assumes nothing.
use Prim.Native.Nat.{ℕ, zero, suc, ◌+◌, ◌≤◌, ◌<◌}
use mathlib.Core.Path.{◌≡◌, ap, ◌∙◌}
use mathlib.Core.Bool.{Bool, ◌&&◌, ◌||◌}
use mathlib.Core.List.{List}
use native.Mathlib.Omega.{arith}
use lib.Dec.{eqb}
use lib.IntN.{ℤ}
use lib.ListN.{drop, drop_of_length-le}
use Rattle.std.proofs.Common.{rules, tests}
use Rattle.std.proofs.lemmas.Iterator.{YieldsList-from_range}
use Rattle.std.proofs.lemmas.Iterator.Search.{any_from_yields_List}
use Rattle.std.specs.List.{list_any, range_with_len}
use Rattle.qbf.specs.Formula.{universal}
use Rattle.formula.specs.Prefix.{prefix_of, entry_at, entry_count, is_quantifier, quantifies}
use Rattle.formula.specs.Prefix.Laws.{entries_drop}
use Rattle.dependency.proofs.answer.is_universal.Goals as goal

-- the test at a place, and what it comes to over the places from i on
abbrev universal_at : List ℤ → ℕ → ℕ → Bool
universal_at ws v i = is_quantifier universal (entry_at ws i).quantifier && eqb (entry_at ws i).variable v

asked_from : (ws : List ℤ) (v n i : ℕ) → i + n ≡ entry_count ws → list_any (universal_at ws v) (range_with_len i n) ≡ quantifies universal (drop i (prefix_of ws)) v
unfolding quantifies
asked_from ws v zero i e =
    let past : entry_count ws ≤ i = omega arith in
    rw (drop_of_length-le (prefix_of ws) past)
asked_from ws v (suc n) i e =
    let within : i < entry_count ws = omega arith in
    let next : i + 1 ≡ suc i = omega arith in
    rw (entries_drop ws i within)
    (ap (λ (b : Bool). universal_at ws v i || b) (asked_from ws v n (i + 1) (omega arith) ∙ ap (λ (j : ℕ). quantifies universal (drop j (prefix_of ws)) v) next))

pub returns : goal.returns
returns c =
    let ws = c.args.prefix.words.now in
    let v = c.args.variable.0 in
    let n = c.count.result in
    any_from_yields_List (universal_at ws v) _ _ c.any.result c.any.ensures.ran (YieldsList-from_range 0 n n (cc) (omega arith)) (λ x b q k. search (rules, tests))
    ∙ asked_from ws v n 0 (omega arith)
