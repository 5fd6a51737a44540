-- `matrix_falsified` goes from clause to clause: the matrix has a clause without a true literal exactly when the clauses
-- from here on have one. Assumes nothing.
use mathlib.Core.Path.{◌≡◌, sym, ◌∙◌}
use mathlib.Core.Bool.{Bool, true, false, not, ◌||◌}
use borrow.Author.Rules.{rules}
use Prim.Native.Nat.{ℕ, ◌-◌, ◌<◌}
use mathlib.Core.List.{List}
use lib.IntN.{ℤ}
use lib.ListN.{length, drop, take}
use Rattle.std.proofs.lemmas.List.{take_rest}
use Rattle.qbf.specs.Play.{Values, satisfied, falsified}
use Rattle.formula.specs.Decode.{first_clause, clause_of, words_after, matrix_of}
use Rattle.evaluator.specs.Values.{values_of}
use Rattle.evaluator.proofs.Words.{falsified_at, falsified_at_end}
use Rattle.evaluator.proofs.matrix.matrix_falsified.Goals as goal

-- what the test of the clause at the place i, answered b, says of the matrix
tested :
    (τ : Values) (ws : List ℤ) (i : ℕ) (b : Bool) → i < length ws → b ≡ satisfied τ (clause_of (first_clause (take (length ws - i) (drop i ws))))
    → falsified τ (matrix_of (drop i ws)) ≡ falsified τ (matrix_of ws)
    → (not b || falsified τ (matrix_of (words_after ws i))) ≡ falsified τ (matrix_of ws)
tested τ ws i b h t so_far = rw (rw (take_rest ws i) at t) (sym (falsified_at τ ws i h) ∙ so_far)

pub loop-i-preserved : goal.loop-i-preserved
loop-i-preserved c =
    rw c.next_clause-i.ensures.rest
    (tested (values_of c.args.values.now) c.args.clauses.now c.loop-i.i true (search rules) (sym c.if-clause_satisfied.true ∙ c.clause_satisfied.ensures) c.loop-i.invariant)

pub returns-else-clause_satisfied : goal.returns-else-clause_satisfied
returns-else-clause_satisfied c =
    tested (values_of c.args.values.now) c.args.clauses.now c.loop-i.i false (search rules) (sym c.if-clause_satisfied.false ∙ c.clause_satisfied.ensures) c.loop-i.invariant

pub returns : goal.returns
returns c =
    sym (falsified_at_end (values_of c.args.values.now) c.args.clauses.now c.loop-i.i (search rules)) ∙ c.loop-i.invariant
