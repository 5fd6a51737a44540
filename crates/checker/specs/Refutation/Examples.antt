-- Position b of 01 and the checklist's damaged proof, through wish 2: the one is a refutation with 5 steps whose first empty
-- clause is 9, at place 8, the other, its second step's 4 made 3, is none.
use Rattle.std.specs.Prelude.{ℕ, ◌≡◌, length, pos}
use Rattle.std.proofs.Common.{sym, arith}
use Rattle.formula.specs.Decode.{clauses_of}
use Rattle.formula.specs.Tables.{zeros}
use Rattle.inference.specs.Rules.{plain_rules}
use Rattle.inference.specs.Lawful.{numbered_clauses}
use Rattle.inference.specs.Lawful.Laws.{numbered_length}
use Rattle.checker.specs.Refutation.{Refutation, FirstEmpty, Within}
use Rattle.checker.specs.Refutation.Ending.{accepting_refutation}
use Rattle.checker.specs.Refutation.Laws.{refutation_zeros, refutation_within}
use Rattle.checker.specs.Verdict.Accuracy.{accepted_refutation}
use Rattle.checker.specs.Verdict.Exact.{accepted_exactly}
use Rattle.checker.specs.Verdict.Examples.{example_prefix, example_clauses, example_steps, positions}

pub example_refutation :
    (r : Refutation example_prefix example_clauses (example_steps (pos 4)))
    × (length r.steps ≡ 5)
    × FirstEmpty (numbered_clauses (clauses_of example_clauses) r.steps) 8
example_refutation =
    let a = accepted_refutation plain_rules example_prefix example_clauses (example_steps (pos 4)) 8200 9 9 5 positions.0 in
    let eight : a.place ≡ 8 = let e = a.place_numbered in omega arith in
    (accepting_refutation example_prefix example_clauses (example_steps (pos 4)) 8200 9 9 5 a, sym a.counted, rw eight at a.first_empty_lem)

pub damaged_no_refutation : Refutation example_prefix example_clauses (example_steps (pos 3)) → ⊥
unfolding zeros clauses_of
damaged_no_refutation r =
    let words = example_steps (pos 3) in
    let admitted = (accepted_refutation plain_rules example_prefix example_clauses (example_steps (pos 4)) 8200 9 9 5 positions.0).admitted in
    let within : Within example_clauses words 8200 9 =
    refutation_within example_prefix example_clauses words 8200 9 r (omega arith) (omega arith)
    (omega (arith, refutation_zeros example_prefix example_clauses words r, numbered_length (clauses_of example_clauses) r.steps)) in
    let accepts = (accepted_exactly example_prefix example_clauses words 8200 9 admitted within).1 r in
    let refuses = positions.9 in
    let z : ◌≡◌ {A = ℕ} 0 1 = cc accepts.accepted in
    omega arith
