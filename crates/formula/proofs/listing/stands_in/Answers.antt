-- `stands_in` asks of each entry, three words, whether its first is the variable. Assumes nothing.
use Rattle.std.proofs.Common.{◌≡◌, ℕ, ◌<◌, Bool, List, [], ◌∷◌, ◌++◌, ◌||◌, length, get_or, eqb, ℤ, pos, refl, ap, ◌∙◌, arith, rules, tests}
use Rattle.std.specs.List.{list_any}
use Rattle.std.specs.Slice.Iter.{chunks_exact_steps, chunks_exact_rest, chunks_exact_size}
use Rattle.std.proofs.lemmas.Iterator.Splits.{YieldsList-from_shown_while}
use Rattle.std.proofs.lemmas.Iterator.Search.{any_from_yields_List}
use Rattle.formula.specs.Word.{ordinal}
use Rattle.formula.specs.Prefix.{prefix_of}
use Rattle.formula.specs.Tables.{is_in, listed_in}
use Rattle.formula.proofs.listing.stands_in.Goals as goal

-- the entries of a table, three words each
triples : List ℤ → List (List ℤ)
triples [] = []
triples (v ∷ []) = []
triples (v ∷ q ∷ []) = []
triples (v ∷ q ∷ b ∷ ws) = (v ∷ q ∷ b ∷ []) ∷ triples ws

triples_none : (ws : List ℤ) → length ws < 3 → length (triples ws) ≡ 0
unfolding triples
triples_none [] h = refl
triples_none (v ∷ []) h = refl
triples_none (v ∷ q ∷ []) h = refl
triples_none (v ∷ q ∷ b ∷ ws) h = absurd (omega arith)

triples_more : (x ws : List ℤ) → length x ≡ 3 → triples (x ++ ws) ≡ x ∷ triples ws
unfolding triples
triples_more [] ws h = absurd (omega arith)
triples_more (v ∷ []) ws h = absurd (omega arith)
triples_more (v ∷ q ∷ []) ws h = absurd (omega arith)
triples_more (v ∷ q ∷ b ∷ []) ws h = refl
triples_more (v ∷ q ∷ b ∷ c ∷ x) ws h = absurd (omega arith)

abbrev is_of : ℕ → List ℤ → Bool
is_of n x = eqb n (ordinal (get_or x 0 (pos 0)))

listed : (n : ℕ) (ws : List ℤ) → list_any (is_of n) (triples ws) ≡ listed_in ws n
unfolding triples prefix_of is_in
listed n [] = refl
listed n (v ∷ []) = refl
listed n (v ∷ q ∷ []) = refl
listed n (v ∷ q ∷ b ∷ ws) = ap (λ t. eqb n (ordinal v) || t) (listed n ws)

pub returns : goal.returns
returns c =
    let ws = c.args.table.now in
    let n = c.args.variable in
    let entries = YieldsList-from_shown_while chunks_exact_steps (λ x. x.now) (λ s. triples (chunks_exact_rest s)) (λ s. chunks_exact_size s ≡ 3) (λ s t p h. let k = h.1.0 in triples_none _ (omega arith)) (λ s x t p h. (h.0 ∙ p, ap triples h.1.0 ∙ triples_more x.now _ (h.1.1 ∙ p))) c.chunks_exact.result c.chunks_exact.ensures.size in
    any_from_yields_List (is_of n) _ _ c.any.result c.any.ensures.ran entries (λ x b q k. search (rules, tests)) ∙ ap (λ us. list_any (is_of n) (triples us)) c.chunks_exact.ensures.rest ∙ listed n ws
