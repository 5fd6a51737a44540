-- Known positions of long-distance proofs (02, P14), each a verdict on concrete tables or the answer of a game on them, by computation. Words as in
-- Positions.
use Rattle.std.specs.Prelude.{Ok, Err, false}
use Rattle.formula.specs.declared.refusal.Refusal.{Refusal}
use Rattle.checker.specs.Verdict.{Verdict, accept}
use Rattle.std.specs.Prelude.{refl, List, [], ◌∷◌, ◌++◌, ℤ, pos, negsuc}
use Rattle.std.proofs.Math.Decide.{ℕ_discrete}
use Rattle.qbf.specs.Literal.{same}
use Rattle.qbf.specs.Formula.{after, existentials}
use Rattle.qbf.specs.Path.{holds as holdsLiteral, together, joined, literals, reach}
use Rattle.qbf.specs.Dependency.{member, pair, depends}
use Rattle.qbf.specs.Play.{satisfied, falsified, lost}
use Rattle.formula.specs.Word.{word_of, ordinal, is_zero}
use Rattle.formula.specs.Prefix.{prefix_of, blocks_from, quantifies}
use Rattle.formula.specs.Prefix.Examples.{e, a}
use Rattle.formula.specs.Free.{occurs}
use Rattle.formula.specs.Decode.{first_clause, clauses_of}
use Rattle.formula.specs.Tables.{is_in, zeros, prefix_refusal, clauses_refusal, words_refusal, tables_refusal}
use Rattle.formula.specs.Refusal.{refusal}
use Rattle.formula.specs.declared.refusal.Reason.TheVariants.{BrokenStep, WrongPivot, Tautology, Blocked, Misstated, Afterword}
use Rattle.inference.specs.Words.{same_word, holds, without, closes}
use Rattle.inference.specs.Steps.{family_of, read_step, crosses, unresolvable, lists, covers, states, blocked, leftmost, blocker_of, judge_resolution, judge_reduction, judge_first, run}
use Rattle.inference.specs.Empty.{some_empty, first_empty, last_empty}
use Rattle.checker.specs.Verdict.{sized_verdict, verdict_of}
use Rattle.evaluator.specs.Evaluation.{evaluation_of}
use Rattle.judges.specs.Positions.{Position, proof, game, AllAnswered}

-- {1,2} {−1,−2}: a resolution on 1 merges 2.
abbrev pair_clauses : List ℤ
pair_clauses = pos 1 ∷ pos 2 ∷ pos 0 ∷ negsuc 0 ∷ negsuc 1 ∷ pos 0 ∷ []

abbrev merge : List ℤ
merge = pos 3 ∷ pos 1 ∷ pos 2 ∷ pos 1 ∷ pos 2 ∷ negsuc 1 ∷ pos 0 ∷ []

-- ∃1 ∀2 ∃3, {1,2,3} {−1,−2,3} and one clause more: the first step merges 2 into {2,−2,3}.
abbrev inner_prefix : List ℤ
inner_prefix = e 1 1 (a 2 2 (e 3 3 []))

abbrev inner_clauses : List ℤ → List ℤ
inner_clauses last = pos 1 ∷ pos 2 ∷ pos 3 ∷ pos 0 ∷ negsuc 0 ∷ negsuc 1 ∷ pos 3 ∷ pos 0 ∷ (last ++ (pos 0 ∷ []))

abbrev inner_merge : List ℤ → List ℤ
inner_merge rest = pos 3 ∷ pos 1 ∷ pos 2 ∷ pos 1 ∷ pos 2 ∷ negsuc 1 ∷ pos 3 ∷ pos 0 ∷ rest

-- The pair over the pivot 3, which stands right of it here, and left of it where the prefix is another.
abbrev carry : List ℤ
carry = pos 3 ∷ pos 4 ∷ pos 3 ∷ pos 3 ∷ pos 2 ∷ negsuc 1 ∷ pos 0 ∷ []

-- ∃1 ∃3 ∀2, where the pivot 3 stands left of 2.
abbrev outer_prefix : List ℤ
outer_prefix = e 1 1 (e 3 1 (a 2 2 []))

-- {1,2,4} {−1,−2,4} {3,2,−4} {−3,−2,−4}: each pair of clauses merges 2, then the pivot 4 meets both signs in both.
abbrev both_clauses : List ℤ
both_clauses =
    pos 1 ∷ pos 2 ∷ pos 4 ∷ pos 0 ∷ negsuc 0 ∷ negsuc 1 ∷ pos 4 ∷ pos 0
    ∷ pos 3 ∷ pos 2 ∷ negsuc 3 ∷ pos 0 ∷ negsuc 2 ∷ negsuc 1 ∷ negsuc 3 ∷ pos 0
    ∷ []

abbrev both_steps : List ℤ → List ℤ
both_steps rest =
    pos 3 ∷ pos 1 ∷ pos 2 ∷ pos 1 ∷ pos 2 ∷ negsuc 1 ∷ pos 4 ∷ pos 0
    ∷ pos 3 ∷ pos 3 ∷ pos 4 ∷ pos 3 ∷ pos 2 ∷ negsuc 1 ∷ negsuc 3 ∷ pos 0
    ∷ pos 3 ∷ pos 5 ∷ pos 6 ∷ pos 4 ∷ pos 2 ∷ negsuc 1 ∷ pos 0
    ∷ rest

abbrev pub long_distance_positions : List Position
long_distance_positions =
    -- merged right of the pivot, then both signs removed; and the game
    proof (e 1 1 (a 2 2 [])) pair_clauses (merge ++ (pos 4 ∷ pos 3 ∷ pos 2 ∷ pos 0 ∷ [])) (accept (record { 0 = 4 }) 2)
    ∷ game (e 1 1 (a 2 2 [])) pair_clauses (Ok false)
    -- by the other sign too; one sign left stated
    ∷ proof (e 1 1 (a 2 2 [])) pair_clauses (merge ++ (pos 4 ∷ pos 3 ∷ negsuc 1 ∷ pos 0 ∷ [])) (accept (record { 0 = 4 }) 2)
    ∷ proof (e 1 1 (a 2 2 [])) pair_clauses (merge ++ (pos 4 ∷ pos 3 ∷ pos 2 ∷ negsuc 1 ∷ pos 0 ∷ [])) (Err (refusal Misstated 4))
    -- left of the pivot; an existential
    ∷ proof (a 2 1 (e 1 2 [])) pair_clauses merge (Err (refusal Tautology 3))
    ∷ proof (e 1 1 (e 2 1 [])) pair_clauses merge (Err (refusal Tautology 3))
    -- a whole pair over a pivot to its right: with neither sign in the other clause, with one sign
    ∷ proof inner_prefix (inner_clauses (negsuc 2 ∷ [])) (inner_merge (carry ++ (pos 4 ∷ pos 5 ∷ pos 2 ∷ pos 0 ∷ []))) (accept (record { 0 = 6 }) 3)
    ∷ proof inner_prefix (inner_clauses (pos 2 ∷ negsuc 2 ∷ [])) (inner_merge carry) (Err (refusal Tautology 5))
    -- the same with one sign where the pivot stands left of the pair: in the other clause of either number
    ∷ proof outer_prefix (inner_clauses (pos 2 ∷ negsuc 2 ∷ [])) (inner_merge (carry ++ (pos 4 ∷ pos 5 ∷ pos 2 ∷ pos 0 ∷ []))) (accept (record { 0 = 6 }) 3)
    ∷ proof outer_prefix (pos 1 ∷ pos 2 ∷ negsuc 2 ∷ pos 0 ∷ negsuc 0 ∷ negsuc 1 ∷ negsuc 2 ∷ pos 0 ∷ pos 2 ∷ pos 3 ∷ pos 0 ∷ []) (pos 3 ∷ pos 1 ∷ pos 2 ∷ pos 1 ∷ pos 2 ∷ negsuc 1 ∷ negsuc 2 ∷ pos 0 ∷ pos 3 ∷ pos 3 ∷ pos 4 ∷ pos 3 ∷ pos 2 ∷ negsuc 1 ∷ pos 0 ∷ pos 4 ∷ pos 5 ∷ negsuc 1 ∷ pos 0 ∷ []) (accept (record { 0 = 6 }) 3)
    -- whole in both, with the pair right of the pivot and left of it
    ∷ proof (e 1 1 (e 3 1 (e 4 1 (a 2 2 [])))) both_clauses (both_steps (pos 4 ∷ pos 7 ∷ negsuc 1 ∷ pos 0 ∷ [])) (accept (record { 0 = 8 }) 4)
    ∷ proof (e 1 1 (e 3 1 (a 2 2 (e 4 3 [])))) both_clauses (both_steps []) (Err (refusal Tautology 7))
    -- a sign that is not there
    ∷ proof (e 1 1 (a 2 2 [])) pair_clauses (pos 4 ∷ pos 1 ∷ negsuc 1 ∷ pos 1 ∷ pos 0 ∷ []) (Err (refusal WrongPivot 3))
    -- 3 depends on 2 and blocks, in block 3
    ∷ proof inner_prefix (inner_clauses (negsuc 1 ∷ negsuc 2 ∷ [])) (inner_merge (pos 4 ∷ pos 4 ∷ pos 2 ∷ pos 3 ∷ pos 0 ∷ [])) (Err (refusal (Blocked (record { variable = record { 0 = 3 }; block = 3 })) 5))
    -- families mixed, either way
    ∷ proof (e 1 1 (a 2 2 [])) pair_clauses (merge ++ (pos 2 ∷ pos 3 ∷ pos 2 ∷ pos 0 ∷ [])) (Err (refusal BrokenStep 4))
    ∷ proof (e 1 1 (a 2 2 [])) pair_clauses (pos 2 ∷ pos 1 ∷ pos 2 ∷ pos 1 ∷ pos 0 ∷ pos 4 ∷ pos 2 ∷ negsuc 1 ∷ negsuc 0 ∷ pos 0 ∷ []) (Err (refusal BrokenStep 4))
    -- behind an empty clause the other family is not looked at
    ∷ proof (a 1 1 []) (pos 1 ∷ pos 0 ∷ []) (pos 4 ∷ pos 1 ∷ pos 1 ∷ pos 0 ∷ pos 2 ∷ pos 2 ∷ pos 1 ∷ pos 0 ∷ []) (Err (refusal Afterword 3))
    ∷ []

pub long_distance_positions_lem : AllAnswered long_distance_positions
unfolding prefix_of ordinal blocks_from occurs leftmost blocker_of same_word is_zero holds without first_clause closes family_of read_step crosses unresolvable lists covers states blocked judge_resolution judge_reduction some_empty judge_first run first_empty last_empty sized_verdict verdict_of word_of clauses_of is_in zeros prefix_refusal clauses_refusal words_refusal tables_refusal same after existentials holdsLiteral together joined literals reach member pair depends ℕ_discrete quantifies evaluation_of lost falsified satisfied
long_distance_positions_lem = (refl, (refl, (refl, (refl, (refl, (refl, (refl, (refl, (refl, (refl, (refl, (refl, (refl, (refl, (refl, (refl, (refl, tt)))))))))))))))))
