-- `fill_tables` reads the sets, then the clauses, then completes the prefix. Assumes nothing.
use Rattle.std.specs.Prelude.{length}
use Rattle.std.proofs.Common.{◌∙◌, rules}
use Rattle.formula.proofs.Theorems.Text.Fill.Laws.{listed_none, completed_fits, fill_completed, fill_crowded}
use Rattle.formula.proofs.read.fill_tables.Goals as goal

pub read_sets-requires-clause-listed : goal.read_sets-requires-clause-listed
read_sets-requires-clause-listed c = (search rules, listed_none)

pub complete-requires-clause-prefix_fine : goal.complete-requires-clause-prefix_fine
complete-requires-clause-prefix_fine c =
    let sets = rw c.in_ok-sets.was at c.read_sets.ensures in
    let clauses = rw c.in_ok-read.was at (c.read_clauses.ensures (length c.args.prefix.now) _ sets.1) in
    completed_fits _ _ _ _ _ c.requires.counts_in_bound.0 clauses.2 sets.1.fine

pub returns-in-None : goal.returns-in-None
returns-in-None c =
    let a = c.args in
    let sets = rw c.in_ok-sets.was at c.read_sets.ensures in
    let clauses = rw c.in_ok-read.was at (c.read_clauses.ensures (length a.prefix.now) _ sets.1) in
    let done = rw c.in-None.is at c.complete.ensures in
    rw (c.in_text.ensures, clauses.3)
    (sets.0 a.count (length a.clauses.now)
    ∙ clauses.0
    ∙ fill_crowded
    (length a.prefix.now)
    a.text.now
    a.variables
    a.count
    c.in_ok-sets.sets.entries
    c.in_ok-read.read.used
    c.read_sets.new.prefix
    c.complete.new.prefix
    c.read_clauses.new.clauses
    c.read_clauses.new.marks
    c.requires.counts_in_bound.0
    sets.2
    (search rules)
    clauses.1
    clauses.2
    done)

pub returns-in-Some : goal.returns-in-Some
returns-in-Some c =
    let a = c.args in
    let sets = rw c.in_ok-sets.was at c.read_sets.ensures in
    let clauses = rw c.in_ok-read.was at (c.read_clauses.ensures (length a.prefix.now) _ sets.1) in
    let done = rw c.in-Some.is at c.complete.ensures in
    rw (sets.0 a.count (length a.clauses.now) ∙ clauses.0)
    (fill_completed
    (length a.prefix.now)
    a.text.now
    a.variables
    a.count
    c.in_ok-sets.sets.entries
    c.in_ok-read.read.used
    c.read_sets.new.prefix
    c.complete.new.prefix
    c.read_clauses.new.clauses
    c.read_clauses.new.marks
    c.requires.counts_in_bound.0
    sets.2
    (search rules)
    clauses.1
    clauses.2
    c.in-Some.total
    (search rules)
    done)
