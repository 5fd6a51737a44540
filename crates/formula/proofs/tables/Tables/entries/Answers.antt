-- `entries`: each entry of tables that pass the check is of a variable in range. Assumes nothing.
use Rattle.formula.proofs.Theorems.Tables.Laws.{admitted_entries}
use Rattle.formula.proofs.tables.Tables.entries.Goals as goal

pub invariant_of-result : goal.invariant_of-result
invariant_of-result c = let t = c.args.self in record { entries = admitted_entries t.prefix.now t.clauses.now t.admitted }
