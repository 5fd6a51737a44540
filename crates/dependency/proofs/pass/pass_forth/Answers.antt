-- `pass_forth` runs down the clauses: those that are left give the same marks. Assumes nothing.
use Prim.Native.Nat.{◌≤◌}
use borrow.Author.Rules.{rules}
use lib.ListN.{length, drop_of_length-le}
use Rattle.formula.specs.Decode.{clauses_of}
use Rattle.dependency.specs.Marks.{pass}
use Rattle.formula.specs.Decode.Places.{clauses_at}
use Rattle.dependency.proofs.pass.pass_forth.Goals as goal

pub loop-at-preserved : goal.loop-at-preserved
unfolding pass
loop-at-preserved c =
    let l = c.loop-at in
    let ws = c.args.clauses.now in
    let r = c.pass_clause-at.ensures in
    λ s. rw (r.later, r.marks s) (rw (clauses_at ws l.at (search rules)) at (l.invariant s))

pub returns : goal.returns
unfolding pass clauses_of
returns c s =
    let l = c.loop-at in
    let ws = c.args.clauses.now in
    let h : length ws ≤ l.at = search rules in
    rw (drop_of_length-le ws h) at (l.invariant s)
