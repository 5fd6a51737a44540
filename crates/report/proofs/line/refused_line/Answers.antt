-- `refused_line` stores the word, then the number, the reason's word, the place, the line and the end. Assumes nothing.
use native.Mathlib.Omega.{arith}
use Rattle.formula.specs.Store.Laws.{stores_append}
use Rattle.report.specs.Line.{refused_line}
use Rattle.report.proofs.line.refused_line.Goals as goal

pub returns : goal.returns
unfolding refused_line
returns c =
    let bytes = c.write_bytes-at.ensures in
    let number = c.write_ended-at.ensures in
    let word = c.write_word-at.ensures in
    let space = c.put-at.ensures in
    let place = c.write_ended-at-2.ensures in
    let line = c.write_ended-at-3.ensures in
    let end = c.write_end.ensures in
    let stored =
    stores_append bytes
    (stores_append (rw c.number.ensures.0 at number.stores)
    (stores_append word.stores (stores_append space (stores_append place.stores (stores_append line.stores end.stores))))) in
    record {
      stores = stored;
      short = omega (arith, stored.reached, bytes.reached, number.upper_bound, word.upper_bound, space.reached, place.upper_bound, line.upper_bound, end.upper_bound);
    }
