-- `clause_of`: the table and the place, by the number. Assumes nothing.
use Rattle.inference.specs.Numbered.Laws.{stored_by_number, stored_in_range}
use Rattle.inference.proofs.numbered.Known.clause_of.Goals as goal

pub invariant_of-result : goal.invariant_of-result
invariant_of-result c =
    let a = c.args.self in
    let n = c.args.number.0 in
    let p = c.requires in
    record {
      in_range =
          rw (c.table_of.ensures, c.place_of.ensures, ← stored_by_number a.inputs a.clauses.now a.steps.now a.offsets.now n p.number_positive)
          (stored_in_range a.inputs a.clauses.now a.steps.now a.offsets.now a.count n p.number_positive p.number_in_count a.in_range);
    }
