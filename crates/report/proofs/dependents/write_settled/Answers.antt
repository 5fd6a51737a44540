-- `write_settled` stores the refused line, or the lines for the used parts of the tables. Assumes nothing.
use Rattle.std.specs.Prelude.{[], Result}
use Rattle.std.proofs.Common.{ap, ◌∙◌, arith}
use Rattle.formula.specs.declared.refusal.Refusal.{Refusal}
use Rattle.formula.specs.declared.read.Filled.{Filled}
use Rattle.report.specs.Settle.{tables_read}
use Rattle.report.specs.Check.{lent}
use Rattle.report.specs.Printing.Laws.{stores_instead}
use Rattle.report.specs.Dependents.Laws.{text_refused, text_read, settled_admitted}
use Rattle.report.proofs.dependents.write_settled.Goals as goal

pub invariant_of-tables : goal.invariant_of-tables
invariant_of-tables c =
    let a = c.args in
    record {
      admitted = settled_admitted (lent a.file_bound a.prefix.now a.clauses.now [] a.scratch.now []) a.formula.now _ _ _
          (c.settle_formula.ensures.settles ∙ ap (λ (x : Result Filled Refusal). tables_read x c.settle_formula.new.prefix c.settle_formula.new.clauses) c.in-Ok.is);
    }

pub returns-in-Err : goal.returns-in-Err
returns-in-Err c =
    let a = c.args in
    let stored = c.refused_line.ensures in
    stores_instead
    (text_refused (lent a.file_bound a.prefix.now a.clauses.now [] a.scratch.now []) a.formula.now _
    (c.settle_formula.ensures.settles ∙ ap (λ (x : Result Filled Refusal). tables_read x c.settle_formula.new.prefix c.settle_formula.new.clauses) c.in-Err.is))
    (record { stores = stored.stores; short = omega (arith, stored.short) })

pub returns-in-Ok : goal.returns-in-Ok
returns-in-Ok c =
    let a = c.args in
    stores_instead
    (text_read (lent a.file_bound a.prefix.now a.clauses.now [] a.scratch.now []) a.formula.now _ _ _
    (c.settle_formula.ensures.settles ∙ ap (λ (x : Result Filled Refusal). tables_read x c.settle_formula.new.prefix c.settle_formula.new.clauses) c.in-Ok.is))
    c.write_tables.ensures
