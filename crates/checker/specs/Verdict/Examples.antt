-- The lettered positions of 01 that speak of a proof, the checklist's damaged proof, too little room, and what stands behind an empty clause, by
-- computation.
use Rattle.std.specs.Prelude.{Err}
use Rattle.checker.specs.Verdict.{accept}
use Rattle.std.specs.Prelude.{◌≡◌, refl, List, [], ◌∷◌, ℤ, pos, negsuc}
use Rattle.std.proofs.Math.Decide.{ℕ_discrete}
use Rattle.qbf.specs.Literal.{same}
use Rattle.qbf.specs.Formula.{after, existentials}
use Rattle.qbf.specs.Path.{holds as holdsLiteral, together, joined, literals, reach}
use Rattle.qbf.specs.Dependency.{member, pair, depends}
use Rattle.formula.specs.Prefix.{prefix_of, blocks_from, quantifies}
use Rattle.formula.specs.Prefix.Examples.{e, a}
use Rattle.formula.specs.Free.{occurs}
use Rattle.formula.specs.Word.{word_of, ordinal}
use Rattle.formula.specs.Decode.{first_clause, clauses_of}
use Rattle.formula.specs.Tables.{is_in, zeros, prefix_refusal, clauses_refusal, words_refusal, tables_refusal}
use Rattle.formula.specs.Refusal.{refusal}
use Rattle.formula.specs.declared.refusal.Reason.TheVariants.{NoRoom, WrongPivot, Tautology, Blocked, Misstated, NoConclusion, Afterword}
use Rattle.inference.specs.Rules.{plain_rules, former_rules}
use Rattle.inference.specs.Words.{same_word, is_zero, holds, without, closes}
use Rattle.inference.specs.Steps.{family_of, read_step, unresolvable, opposed, lists, covers, states, blocked, leftmost, blocker_of, judge_resolution, judge_reduction, judge_first, run}
use Rattle.inference.specs.Empty.{some_empty, first_empty, last_empty}
use Rattle.checker.specs.Verdict.{sized_verdict, verdict_of}

-- Source document 001's formula: prefix ∃1 ∀2 ∃3 ∃4; clauses {2,3} {−2,4} {−4,1} {−1,−3}.
abbrev pub example_prefix : List ℤ
example_prefix = e 1 1 (a 2 2 (e 3 3 (e 4 3 [])))

abbrev pub example_clauses : List ℤ
example_clauses = pos 2 ∷ pos 3 ∷ pos 0 ∷ negsuc 1 ∷ pos 4 ∷ pos 0 ∷ negsuc 3 ∷ pos 1 ∷ pos 0 ∷ negsuc 0 ∷ negsuc 2 ∷ pos 0 ∷ []

-- `2 1 2 3 0`, `2 2 -2 x 0`, `1 6 3 4 1 0`, `1 5 4 3 -1 0`, `1 7 8 1 0`; x is 4 in the example.
abbrev pub example_steps : ℤ → List ℤ
example_steps x =
    pos 2 ∷ pos 1 ∷ pos 2 ∷ pos 3 ∷ pos 0
    ∷ pos 2 ∷ pos 2 ∷ negsuc 1 ∷ x ∷ pos 0
    ∷ pos 1 ∷ pos 6 ∷ pos 3 ∷ pos 4 ∷ pos 1 ∷ pos 0
    ∷ pos 1 ∷ pos 5 ∷ pos 4 ∷ pos 3 ∷ negsuc 0 ∷ pos 0
    ∷ pos 1 ∷ pos 7 ∷ pos 8 ∷ pos 1 ∷ pos 0
    ∷ []

pub positions :
    -- b: accepted, empty clause 9, 5 steps
    (verdict_of plain_rules example_prefix example_clauses (example_steps (pos 4)) 8200 9 ≡ accept (record { 0 = 9 }) 5)
    -- d: a dependent existential is in the clause: 3, in block 2
    × (verdict_of plain_rules
    (a 1 1 (a 2 1 (e 3 2 [])))
    (pos 1 ∷ pos 2 ∷ negsuc 2 ∷ pos 0 ∷ negsuc 0 ∷ negsuc 1 ∷ pos 3 ∷ pos 0 ∷ [])
    (pos 2 ∷ pos 1 ∷ pos 1 ∷ pos 2 ∷ negsuc 2 ∷ pos 0 ∷ [])
    8200
    3
    ≡ Err (refusal (Blocked (record { variable = record { 0 = 3 }; block = 2 })) 3))
    -- of two dependents the one leftmost in the prefix: 3, neither the smaller nor the first in its clause, which holds −3
    × (verdict_of plain_rules
    (a 1 1 (e 3 2 (a 4 3 (e 2 4 []))))
    (pos 1 ∷ pos 2 ∷ negsuc 2 ∷ pos 0 ∷ negsuc 0 ∷ negsuc 1 ∷ pos 3 ∷ pos 0 ∷ [])
    (pos 2 ∷ pos 1 ∷ pos 1 ∷ pos 2 ∷ negsuc 2 ∷ pos 0 ∷ [])
    8200
    3
    ≡ Err (refusal (Blocked (record { variable = record { 0 = 3 }; block = 2 })) 3))
    -- f: nothing at all
    × (verdict_of plain_rules [] [] [] 8200 0 ≡ Err (refusal NoConclusion 0))
    -- g: the clause word 0 alone
    × (verdict_of plain_rules [] (pos 0 ∷ []) [] 8200 1 ≡ accept (record { 0 = 1 }) 0)
    -- h: the step is right, no clause is empty
    × (verdict_of plain_rules
    (e 1 1 (a 2 2 []))
    (pos 1 ∷ pos 2 ∷ pos 0 ∷ [])
    (pos 2 ∷ pos 1 ∷ pos 2 ∷ pos 1 ∷ pos 0 ∷ [])
    8200
    2
    ≡ Err (refusal NoConclusion 2))
    -- i: the empty clause is the step's
    × (verdict_of plain_rules (a 1 1 []) (pos 1 ∷ pos 0 ∷ []) (pos 2 ∷ pos 1 ∷ pos 1 ∷ pos 0 ∷ []) 8200 2 ≡ accept (record { 0 = 2 }) 1)
    -- j: a universal pivot
    × (verdict_of plain_rules
    (a 1 1 [])
    (pos 1 ∷ pos 0 ∷ negsuc 0 ∷ pos 0 ∷ [])
    (pos 1 ∷ pos 1 ∷ pos 2 ∷ pos 1 ∷ pos 0 ∷ [])
    8200
    3
    ≡ Err (refusal WrongPivot 3))
    -- k: the result holds 2 and −2
    × (verdict_of plain_rules
    (e 1 1 (e 2 1 []))
    (pos 1 ∷ pos 2 ∷ pos 0 ∷ negsuc 0 ∷ negsuc 1 ∷ pos 0 ∷ [])
    (pos 1 ∷ pos 1 ∷ pos 2 ∷ pos 1 ∷ pos 2 ∷ negsuc 1 ∷ pos 0 ∷ [])
    8200
    3
    ≡ Err (refusal Tautology 3))
    -- the checklist: b with its second step's 4 made 3
    × (verdict_of plain_rules example_prefix example_clauses (example_steps (pos 3)) 8200 9 ≡ Err (refusal Misstated 6))
    -- scratch of 8,199 bytes is short; offsets are short by one, at an input clause and at the last step
    × (verdict_of plain_rules example_prefix example_clauses (example_steps (pos 4)) 8199 9 ≡ Err (refusal NoRoom 0))
    × (verdict_of plain_rules example_prefix example_clauses (example_steps (pos 4)) 8200 3 ≡ Err (refusal NoRoom 4))
    × (verdict_of plain_rules example_prefix example_clauses (example_steps (pos 4)) 8200 8 ≡ Err (refusal NoRoom 9))
    -- 02, P10: behind the empty clause of i a right step, and a lone junk word with no room for a clause; an empty input clause, with steps
    × (verdict_of plain_rules (a 1 1 []) (pos 1 ∷ pos 0 ∷ []) (pos 2 ∷ pos 1 ∷ pos 1 ∷ pos 0 ∷ pos 2 ∷ pos 1 ∷ pos 1 ∷ pos 0 ∷ []) 8200 3 ≡ Err (refusal Afterword 3))
    × (verdict_of plain_rules (a 1 1 []) (pos 1 ∷ pos 0 ∷ []) (pos 2 ∷ pos 1 ∷ pos 1 ∷ pos 0 ∷ pos 7 ∷ []) 8200 2 ≡ Err (refusal Afterword 3))
    × (verdict_of plain_rules (a 1 1 []) (pos 0 ∷ pos 1 ∷ pos 0 ∷ []) (pos 2 ∷ pos 2 ∷ pos 1 ∷ pos 0 ∷ []) 8200 3 ≡ Err (refusal Afterword 3))
    -- the first and the third by the rule before
    × (verdict_of former_rules (a 1 1 []) (pos 1 ∷ pos 0 ∷ []) (pos 2 ∷ pos 1 ∷ pos 1 ∷ pos 0 ∷ pos 2 ∷ pos 1 ∷ pos 1 ∷ pos 0 ∷ []) 8200 3 ≡ accept (record { 0 = 2 }) 2)
    × (verdict_of former_rules (a 1 1 []) (pos 0 ∷ pos 1 ∷ pos 0 ∷ []) (pos 2 ∷ pos 2 ∷ pos 1 ∷ pos 0 ∷ []) 8200 3 ≡ accept (record { 0 = 1 }) 1)
unfolding prefix_of ordinal blocks_from occurs leftmost blocker_of same_word is_zero holds without first_clause closes family_of read_step unresolvable opposed lists covers states blocked judge_resolution judge_reduction some_empty judge_first run first_empty last_empty sized_verdict verdict_of word_of clauses_of is_in zeros prefix_refusal clauses_refusal words_refusal tables_refusal same after existentials holdsLiteral together joined literals reach member pair depends ℕ_discrete quantifies
positions = (refl, refl, refl, refl, refl, refl, refl, refl, refl, refl, refl, refl, refl, refl, refl, refl, refl, refl)
