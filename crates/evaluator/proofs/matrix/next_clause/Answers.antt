-- `next_clause` goes behind the end of the clause. Assumes nothing.
use Prim.Native.Nat.{◌+◌, ◌<◌}
use mathlib.Core.Path.{◌≡◌, ap, sym, ◌∙◌}
use native.Mathlib.Omega.{arith}
use borrow.Author.Rules.{rules}
use lib.ListN.{length, drop}
use Rattle.formula.specs.Decode.{clause_at}
use Rattle.formula.specs.Decode.Places.{after_place, clause_within, close_first_clause}
use Rattle.evaluator.proofs.matrix.next_clause.Goals as goal

-- the clause's end, and that it is within the words
place : (c : goal.After-clause_end) → c.clause_end.result ≡ c.args.from + length (clause_at c.args.clauses.now c.args.from)
place c = c.clause_end.ensures ∙ close_first_clause c.args.from (drop c.args.from c.args.clauses.now)

pub overflow_add-result : goal.overflow_add-result
overflow_add-result c =
    let e = place c in
    let within = clause_within c.args.clauses.now c.args.from (search rules) in
    let short : length c.args.clauses.now < 18446744073709551615 = search rules in
    omega (arith, e, within, short)

pub returns : goal.returns
returns c =
    let e = place c in
    record {
      rest = ap (λ n. drop (n + 1) c.args.clauses.now) e ∙ sym (after_place c.args.clauses.now c.args.from);
      further = omega (arith, e);
    }
