-- `accepted_line` stores the word, then its four numbers in order. Assumes nothing.
use native.Mathlib.Omega.{arith}
use Rattle.formula.specs.Store.Laws.{stores_append}
use Rattle.report.specs.Line.{accepted_line}
use Rattle.report.proofs.line.accepted_line.Goals as goal

pub returns : goal.returns
unfolding accepted_line
returns c =
    let bytes = c.write_bytes-at.ensures in
    let variables = c.write_ended-at.ensures in
    let clauses = c.write_ended-at-2.ensures in
    let steps = c.write_ended-at-3.ensures in
    let empty = c.write_ended.ensures in
    let stored =
    stores_append bytes
    (stores_append variables.stores (stores_append clauses.stores (stores_append steps.stores empty.stores))) in
    record {
      stores = stored;
      short = omega (arith, stored.reached, bytes.reached, variables.upper_bound, clauses.upper_bound, steps.upper_bound, empty.upper_bound);
    }
