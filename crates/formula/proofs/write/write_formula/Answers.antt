-- `write_formula` goes by the answer of the check of tables: it clears the text, or writes it and ends by room. Assumes nothing.
use Rattle.std.proofs.Common.{sym, ◌∙◌}
use Rattle.formula.proofs.Theorems.Tables.Laws.{answer_admitted, answer_refused}
use Rattle.formula.specs.Write.Room.{writes_refused, writes_finished}
use Rattle.formula.proofs.write.write_formula.Goals as goal

pub returns-in-Err : goal.returns-in-Err
returns-in-Err c =
    rw c.clear_tail.ensures
    (writes_refused c.args.prefix.now c.args.clauses.now c.args.text.now c.in-Err.refusal
    (answer_refused c.args.prefix.now c.args.clauses.now c.in-Err.refusal (sym c.check_tables.ensures ∙ c.in-Err.is)))

pub returns-in-Ok : goal.returns-in-Ok
returns-in-Ok c =
    let t = answer_admitted c.args.prefix.now c.args.clauses.now c.in-Ok.counts.variables c.in-Ok.counts.clauses (sym c.check_tables.ensures ∙ c.in-Ok.is) in
    writes_finished c.args.prefix.now c.args.clauses.now t.0 c.write_tables-used.ensures c.finish.ensures
