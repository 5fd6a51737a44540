-- `read_clauses` takes token after token; each need is one law of Text.Clauses. Assumes nothing.
use mathlib.Core.Path.{sym, ◌∙◌}
use mathlib.Core.List.{[]}
use native.Mathlib.Omega.{arith}
use Rattle.scanner.specs.Token.{number_of}
use Rattle.scanner.proofs.Theorems.Token.Laws.{Finds, no_token, token_found}
use Rattle.formula.proofs.Theorems.Text.Clauses.Laws.{clauses_begin, clauses_end_lem, clauses_over, clauses_refuse, clauses_literal, clauses_closed}
use borrow.Author.Rules.{rules}
use Rattle.formula.proofs.clauses.read_clauses.Tie as tie
use Rattle.formula.proofs.clauses.read_clauses.Lts as lts
use Rattle.formula.proofs.clauses.read_clauses.Reads as reads
use Rattle.formula.proofs.clauses.read_clauses.Goals as goal

pub loop-end-init : goal.loop-end-init
loop-end-init c =
    let args = c.args in
    (clauses_begin args.text.now args.from.place args.variables args.count args.clauses.now args.marks.now (search rules), c.requires.position_in.0)

-- the token that was found
found : (c : lts.Past-After-known_told2 tie.the-claims reads.Pre reads.Post goal.the-invariant-loop-end goal.the-decreases-loop-end tie.handed_clauses) → let l = c.before.before in Finds l.args.text.now l.loop-end.at.place c.in-Found.token c.in-Found.place c.in-Found.next
found c = let l = c.before.before in token_found l.args.text.now l.loop-end.at.place l.loop-end.invariant.1.inside (sym c.next_token.ensures ∙ c.in-Found.is)

pub returns-in-End : goal.returns-in-End
returns-in-End c =
    let l = c.before.before.before.before in
    let none = no_token l.args.text.now l.loop-end.at.place (sym c.next_token.ensures ∙ c.in-End.is) in
    rw (c.clauses_end.ensures, none.1) (clauses_end_lem l.loop-end.invariant.0 none.0)

pub returns-then-count-closed : goal.returns-then-count-closed
returns-then-count-closed c = rw c.in_text.ensures (clauses_over c.loop-end.invariant.0 (found c.before.before.before) c.if-count-closed.true [] [])

pub returns-in-Err : goal.returns-in-Err
returns-in-Err c =
    let t = c.before.before.before.before in
    let f = found t.before.before.before.before in
    rw c.in_text-in-Err.ensures (clauses_refuse t.loop-end.invariant.0 f t.if-count-closed.false (rw c.in-Err.is at (t.clause_token.ensures (number_of f.bytes) (sym f.shows_it))))

pub loop-end-smaller-in-Ok-Literal : goal.loop-end-smaller-in-Ok-Literal
loop-end-smaller-in-Ok-Literal c = let f = found c.before.before.before.before.before.before.before in omega (arith, f.after, f.next_in.inside)

pub loop-end-preserved-in-Ok-Literal : goal.loop-end-preserved-in-Ok-Literal
loop-end-preserved-in-Ok-Literal c =
    let t = c.before.before.before in
    let f = found t.before.before.before.before in
    (clauses_literal t.loop-end.invariant.0 f t.if-count-closed.false (search rules) (rw (c.in-Ok-Literal.is, c.in-Ok-Literal.field-0-is) at (t.clause_token.ensures (number_of f.bytes) (sym f.shows_it))), f.next_in)

pub loop-end-smaller : goal.loop-end-smaller
loop-end-smaller c = let f = found c.before.before.before.before.before.before.before in omega (arith, f.after, f.next_in.inside)

pub loop-end-preserved : goal.loop-end-preserved
loop-end-preserved c =
    let t = c.before.before.before in
    let f = found t.before.before.before.before in
    (clauses_closed t.loop-end.invariant.0 f t.if-count-closed.false (search rules) (rw (c.in-Ok-Closed.is, c.in-Ok-Closed.field-0-is) at (t.clause_token.ensures (number_of f.bytes) (sym f.shows_it))), f.next_in)
