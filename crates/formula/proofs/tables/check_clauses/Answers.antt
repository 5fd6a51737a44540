-- `check_clauses` goes on after each clause: the refusal of all words is that of the words to come. Assumes nothing.
use Rattle.std.specs.Prelude.{◌≤◌, [], length}
use Rattle.std.proofs.Common.{ap, sym, ◌∙◌, rules}
use lib.ListN.{drop_of_length-le}
use Rattle.formula.specs.Refusal.{passes}
use Rattle.formula.specs.Tables.{clauses_refusal, listed_in}
use Rattle.formula.proofs.tables.check_clauses.Goals as goal

pub returns : goal.returns
unfolding clauses_refusal
returns c =
    let l = c.loop-at in
    let a = c.args in
    let h : length a.clauses.now ≤ l.at = search rules in
    sym (ap passes (l.invariant.0 ∙ ap (clauses_refusal (listed_in a.listed.table.now) l.at []) (drop_of_length-le a.clauses.now h)))
