-- `read_formula` fills the tables and clears them past the used part. Assumes nothing.
use Rattle.formula.proofs.Theorems.Text.Fill.Laws.{read_filled, read_refused}
use borrow.Author.Rules.{rules}
use Rattle.formula.proofs.read.read_formula.Goals as goal

pub returns-in-Err : goal.returns-in-Err
returns-in-Err c =
    let args = c.args in
    let post = rw c.in-Err.is at c.fill-answer.ensures in
    rw (c.in-Err.is, c.clear_tail.ensures, c.clear_tail-in-Err.ensures) (read_refused args.text.now args.prefix.now args.clauses.now _ _ _ (search rules) (search rules) post)

pub returns-in-Ok : goal.returns-in-Ok
returns-in-Ok c =
    let args = c.args in
    let post = rw c.in-Ok.is at c.fill-answer.ensures in
    rw (c.clear_tail-in-Ok.ensures, c.clear_tail-in-Ok-2.ensures) (read_filled args.text.now args.prefix.now args.clauses.now _ _ _ _ _ (search rules) (search rules) post)
