-- `reduce_on` has the row in scratch, asks it of the clause, and names what blocks or judges the result. Assumes nothing.
use Rattle.std.specs.Prelude.{Err}
use mathlib.Core.Path.{◌≡◌, ap, ◌∙◌}
use Rattle.dependency.specs.Scratch.{row_in}
use Rattle.inference.specs.Clause.{words_of}
use Rattle.formula.proofs.Theorems.Tables.Laws.{admitted_words, admitted_entries}
use Rattle.formula.specs.declared.refusal.Blocker.{Blocker}
use Rattle.formula.specs.declared.refusal.Reason.TheVariants.{Blocked}
use Rattle.inference.specs.Steps.{blocked}
use Rattle.inference.specs.Marks.Laws.{clean_whole}
use Rattle.inference.specs.Scope.{scope_of}
use Rattle.inference.proofs.Theorems.Blocked.Laws.{row_blocked, row_blocker}
use Rattle.checker.specs.Step.Laws.{none_kept, row_kept, kept_again, front_judged}
use Rattle.checker.proofs.reduce.reduce_on.Goals as goal

pub find_blocker-blocker-requires : goal.find_blocker-blocker-requires
find_blocker-blocker-requires c = let t = c.args.universal.tables in rw c.entries-entries.ensures (admitted_words t.prefix.now t.clauses.now t.admitted)

pub returns-then-row_touches : goal.returns-then-row_touches
returns-then-row_touches c =
    let prefix = c.args.universal.tables.prefix.now in
    let clauses = c.args.universal.tables.clauses.now in
    let scratch = c.row_for.new.scratch in
    let u = c.args.universal.variable.0 in
    let clause = words_of c.args.clause in
    -- the row touches the clause exactly when the clause is blocked
    let met : c.row_touches.result ≡ blocked (scope_of prefix clauses) u clause = c.row_touches.ensures ∙ row_blocked prefix clauses u (row_in scratch) c.row_for.ensures.row clause c.args.clause.in_range in
    let named = row_blocker prefix clauses u (row_in scratch) c.row_for.ensures.row (admitted_entries prefix clauses c.args.universal.tables.admitted) clause in
    rw (← met, c.if-row_touches.true) (record { answer = ap (λ (b : Blocker). Err (Blocked b)) ((rw c.entries-entries.ensures at c.find_blocker-blocker.ensures) ∙ named); ready = none_kept prefix clauses scratch c.row_for.ensures.ready })

pub returns : goal.returns
returns c =
    let prefix = c.args.universal.tables.prefix.now in
    let clauses = c.args.universal.tables.clauses.now in
    let scratch = c.row_for.new.scratch in
    let u = c.args.universal.variable.0 in
    let clause = words_of c.args.clause in
    let met : c.row_touches.result ≡ blocked (scope_of prefix clauses) u clause = c.row_touches.ensures ∙ row_blocked prefix clauses u (row_in scratch) c.row_for.ensures.row clause c.args.clause.in_range in
    let whole = clean_whole c.judge_reduct.new.marks c.judge_reduct.ensures.wiped in
    let answers = front_judged scratch c.judge_reduct.new.marks whole c.row_for.ensures.ready.size c.judge_reduct.ensures in
    rw (← met, c.if-row_touches.false) (record { answer = answers.answer; ready = kept_again prefix clauses scratch (row_kept prefix clauses scratch c.row_for.ensures) answers })
