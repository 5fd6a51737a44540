-- `read_set` takes token after token of a set; each need is one law of Text.Sets. Assumes nothing.
use mathlib.Core.Path.{sym, ◌∙◌}
use mathlib.Core.List.{[]}
use native.Mathlib.Omega.{arith}
use Rattle.scanner.specs.Token.{number_of}
use Rattle.scanner.proofs.Theorems.Token.Laws.{Finds, no_token, token_found}
use Rattle.formula.proofs.Theorems.Text.Sets.Laws.{set_ends, set_closes, set_refuses, set_lists}
use borrow.Author.Rules.{rules}
use Rattle.formula.proofs.sets.read_set.Tie as tie
use Rattle.formula.proofs.sets.read_set.Lts as lts
use Rattle.formula.proofs.sets.read_set.Reads as reads
use Rattle.formula.proofs.sets.read_set.Goals as goal

-- the token that was found
found : (c : lts.Past-After-known_told2 tie.the-claims reads.Pre reads.Post goal.the-invariant-loop-end goal.the-decreases-loop-end tie.handed_clauses) → let l = c.before.before in Finds l.args.text.now l.loop-end.at.place c.in-Found.token c.in-Found.place c.in-Found.next
found c = let l = c.before.before in token_found l.args.text.now l.loop-end.at.place l.loop-end.invariant.1.inside (sym c.next_token.ensures ∙ c.in-Found.is)

pub returns-in-End : goal.returns-in-End
returns-in-End c =
    let l = c.before.before.before.before in
    let none = no_token l.args.text.now l.loop-end.at.place (sym c.next_token.ensures ∙ c.in-End.is) in
    rw (c.in_text.ensures, none.1) (set_ends l.loop-end.invariant.0 none.0 [] [])

pub returns-in-Err : goal.returns-in-Err
returns-in-Err c =
    let t = c.before.before.before.before in
    let f = found t.before.before.before in
    rw c.in_text-in-Err.ensures (set_refuses t.loop-end.invariant.0 f (rw c.in-Err.is at (t.set_token.ensures (number_of f.bytes) (sym f.shows_it))))

pub returns-in-Ok-Closed : goal.returns-in-Ok-Closed
returns-in-Ok-Closed c =
    let t = c.before.before.before in
    let f = found t.before.before.before in
    set_closes t.loop-end.invariant.0 f (rw (c.in-Ok-Closed.is, c.in-Ok-Closed.field-0-is) at (t.set_token.ensures (number_of f.bytes) (sym f.shows_it)))

pub loop-end-smaller : goal.loop-end-smaller
loop-end-smaller c = let f = found c.before.before.before.before.before.before in omega (arith, f.after, f.next_in.inside)

pub loop-end-preserved : goal.loop-end-preserved
loop-end-preserved c =
    let t = c.before.before.before in
    let f = found t.before.before.before in
    rw c.in-Ok-Listed.field-0-is
    (set_lists t.loop-end.invariant.0 f (search rules) (rw (c.in-Ok-Listed.is, c.in-Ok-Listed.field-0-is) at (t.set_token.ensures (number_of f.bytes) (sym f.shows_it))), f.next_in)
