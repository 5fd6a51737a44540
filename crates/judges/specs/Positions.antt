-- The known positions of 01 that have a letter, a to l, as one list under one claim: each is an entry's answer on concrete
-- tables, by computation. Numbers are words: pos n is n, negsuc n is −(n + 1); `e v b` and `a v b` are records of the prefix.
use Rattle.std.specs.Prelude.{Result, Ok, Err, Bool, true, false}
use Rattle.formula.specs.declared.refusal.Refusal.{Refusal}
use Rattle.checker.specs.Verdict.{Verdict, accept}
use Rattle.std.specs.Prelude.{ℕ, ◌≡◌, refl, List, [], ◌∷◌, set, replicate, ℤ, pos, negsuc, nat_abs}
use Rattle.std.proofs.Math.Decide.{ℕ_discrete}
use Rattle.qbf.specs.Literal.{same}
use Rattle.qbf.specs.Formula.{after, existentials}
use Rattle.qbf.specs.Path.{holds as holdsLiteral, together, joined, literals, reach}
use Rattle.qbf.specs.Dependency.{member, pair, depends}
use Rattle.qbf.specs.Play.{satisfied, falsified, lost}
use Rattle.formula.specs.Word.{word_of, ordinal, is_zero}
use Rattle.formula.specs.Prefix.{prefix_of, blocks_from, quantifies}
use Rattle.formula.specs.Prefix.Examples.{e, a}
use Rattle.formula.specs.Free.{occurs}
use Rattle.formula.specs.Decode.{first_clause, clauses_of, formula_of}
use Rattle.formula.specs.Tables.{is_in, zeros, prefix_refusal, clauses_refusal, words_refusal, tables_refusal}
use Rattle.formula.specs.Refusal.{passes, refusal}
use Rattle.formula.specs.declared.refusal.Reason.TheVariants.{WrongPivot, Tautology, Blocked, Misstated, NoConclusion}
use Rattle.dependency.specs.Row.{row_below, row_of}
use Rattle.dependency.specs.Scratch.{scratch_bound}
use Rattle.dependency.specs.Answer.{row_refusal, row_buffer}
use Rattle.inference.specs.Rules.{plain_rules}
use Rattle.inference.specs.Words.{same_word, holds, without, closes}
use Rattle.inference.specs.Steps.{family_of, unresolvable, read_step, opposed, lists, covers, states, blocked, leftmost, blocker_of, judge_resolution, judge_reduction, judge_first, run}
use Rattle.inference.specs.Empty.{some_empty, first_empty, last_empty}
use Rattle.checker.specs.Verdict.{sized_verdict, verdict_of}
use Rattle.checker.specs.Verdict.Examples.{example_prefix, example_clauses, example_steps}
use Rattle.evaluator.specs.Evaluation.{evaluation_of}

-- A question to an entry, with its answer: the dependents in a universal's row, a proof's verdict, a game's evaluation.
pub data Position : Type 0 where
  row : (prefix clauses : List ℤ) (variable : ℤ) (dependents : List ℕ) → Position
  proof : (prefix clauses steps : List ℤ) (verdict : Verdict) → Position
  game : (prefix clauses : List ℤ) (evaluation : Result Bool Refusal) → Position

-- A row of 1,025 bytes with 1 for each of these, 0 elsewhere.
abbrev pub marked : List ℕ → List ℕ
marked [] = replicate 1025 0
marked (v ∷ vs) = set (marked vs) v 1

-- The entry answers so, with a row of 1,025 bytes, scratch of the bytes asked for and 16 clause offsets.
abbrev pub Answered : Position → Type 0
Answered (row prefix clauses variable dependents) =
    (passes (row_refusal scratch_bound prefix clauses variable 1025 scratch_bound) ≡ (Ok tt))
    × (row_buffer (row_refusal scratch_bound prefix clauses variable 1025 scratch_bound) (formula_of prefix clauses) (nat_abs variable) 1025 ≡ marked dependents)
Answered (proof prefix clauses steps verdict) = verdict_of plain_rules prefix clauses steps scratch_bound 16 ≡ verdict
Answered (game prefix clauses evaluation) = evaluation_of prefix clauses ≡ evaluation

abbrev pub AllAnswered : List Position → Type 0
AllAnswered [] = Unit {0}
AllAnswered (p ∷ ps) = Answered p × AllAnswered ps

-- Prefix ∀1 ∀2 ∃3, clauses {1,2,−3} {−1,−2,3}.
abbrev both_prefix : List ℤ
both_prefix = a 1 1 (a 2 1 (e 3 2 []))

abbrev both_clauses : List ℤ
both_clauses = pos 1 ∷ pos 2 ∷ negsuc 2 ∷ pos 0 ∷ negsuc 0 ∷ negsuc 1 ∷ pos 3 ∷ pos 0 ∷ []

-- By letter. example_prefix, example_clauses and example_steps are 001's formula and proof, its second step's 4 as an argument.
abbrev pub known_positions : List Position
known_positions =
    -- a, b
    row example_prefix example_clauses (pos 2) []
    ∷ proof example_prefix example_clauses (example_steps (pos 4)) (accept (record { 0 = 9 }) 5)
    -- c: both rows; d: 3 blocks, in block 2
    ∷ row both_prefix both_clauses (pos 1) (3 ∷ [])
    ∷ row both_prefix both_clauses (pos 2) (3 ∷ [])
    ∷ proof both_prefix both_clauses (pos 2 ∷ pos 1 ∷ pos 1 ∷ pos 2 ∷ negsuc 2 ∷ pos 0 ∷ []) (Err (refusal (Blocked (record { variable = record { 0 = 3 }; block = 2 })) 3))
    -- e
    ∷ row
    (a 1 1 (e 2 2 (e 3 2 [])))
    (pos 1 ∷ pos 2 ∷ pos 0 ∷ negsuc 0 ∷ pos 2 ∷ pos 0 ∷ negsuc 1 ∷ pos 3 ∷ pos 0 ∷ negsuc 1 ∷ negsuc 2 ∷ pos 0 ∷ [])
    (pos 1)
    (2 ∷ 3 ∷ [])
    -- f, g: the checker, and the evaluator
    ∷ proof [] [] [] (Err (refusal NoConclusion 0))
    ∷ game [] [] (Ok true)
    ∷ proof [] (pos 0 ∷ []) [] (accept (record { 0 = 1 }) 0)
    ∷ game [] (pos 0 ∷ []) (Ok false)
    -- h, i
    ∷ proof (e 1 1 (a 2 2 [])) (pos 1 ∷ pos 2 ∷ pos 0 ∷ []) (pos 2 ∷ pos 1 ∷ pos 2 ∷ pos 1 ∷ pos 0 ∷ []) (Err (refusal NoConclusion 2))
    ∷ proof (a 1 1 []) (pos 1 ∷ pos 0 ∷ []) (pos 2 ∷ pos 1 ∷ pos 1 ∷ pos 0 ∷ []) (accept (record { 0 = 2 }) 1)
    -- j, k
    ∷ proof (a 1 1 []) (pos 1 ∷ pos 0 ∷ negsuc 0 ∷ pos 0 ∷ []) (pos 1 ∷ pos 1 ∷ pos 2 ∷ pos 1 ∷ pos 0 ∷ []) (Err (refusal WrongPivot 3))
    ∷ proof
    (e 1 1 (e 2 1 []))
    (pos 1 ∷ pos 2 ∷ pos 0 ∷ negsuc 0 ∷ negsuc 1 ∷ pos 0 ∷ [])
    (pos 1 ∷ pos 1 ∷ pos 2 ∷ pos 1 ∷ pos 2 ∷ negsuc 1 ∷ pos 0 ∷ [])
    (Err (refusal Tautology 3))
    -- l
    ∷ row (a 1 1 (e 2 2 [])) (pos 1 ∷ pos 2 ∷ pos 0 ∷ negsuc 0 ∷ pos 2 ∷ pos 0 ∷ []) (pos 1) []
    -- the reviewer's checklist: b with its second step's 4 made 3
    ∷ proof example_prefix example_clauses (example_steps (pos 3)) (Err (refusal Misstated 6))
    ∷ []

pub known_positions_lem : AllAnswered known_positions
unfolding prefix_of ordinal blocks_from occurs leftmost blocker_of same_word is_zero holds without first_clause closes family_of read_step opposed unresolvable lists covers states blocked judge_resolution judge_reduction some_empty judge_first run first_empty last_empty sized_verdict verdict_of word_of clauses_of is_in zeros prefix_refusal clauses_refusal words_refusal tables_refusal same after existentials holdsLiteral together joined literals reach member pair depends ℕ_discrete quantifies row_below row_of row_refusal evaluation_of lost falsified satisfied
known_positions_lem =
    ((refl, refl), (refl, ((refl, refl), ((refl, refl), (refl, ((refl, refl), (refl, (refl, (refl, (refl, (refl, (refl, (refl, (refl, ((refl, refl), (refl, tt))))))))))))))))
