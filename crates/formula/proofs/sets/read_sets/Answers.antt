-- `read_sets` takes set after set; each goal is one law of Text.Sets. Assumes nothing.
use Rattle.std.specs.Prelude.{◌≡◌, []}
use Rattle.std.proofs.Common.{sym, ◌∙◌, arith}
use borrow.Author.Rules.{rules}
use Rattle.scanner.specs.Token.{same, a_text, e_text}
use Rattle.scanner.proofs.Theorems.Token.Laws.{no_token, token_found}
use Rattle.formula.proofs.Theorems.Text.Sets.Laws.{sets_begin, sets_end, sets_over, sets_refuse, sets_on}
use Rattle.std.proofs.lemmas.Result.{err_from_is_err_and}
use Rattle.formula.proofs.sets.read_sets.Goals as goal

pub loop-place-init : goal.loop-place-init
loop-place-init c =
    let args = c.args in
    (sets_begin args.text.now args.from.place args.variables args.prefix.now args.marks.now c.requires.listed.1, c.requires.position_in.0)

pub returns-in-End : goal.returns-in-End
returns-in-End c =
    let l = c.loop-place in
    sets_end l.invariant.1 l.invariant.0 (no_token c.args.text.now l.at.place (sym c.next_token.ensures ∙ c.in-End.is)).0

pub is_word-e-requires : goal.is_word-e-requires
is_word-e-requires c =
    let l = c.loop-place in
    let f = token_found c.args.text.now l.at.place l.invariant.1.inside (sym c.next_token.ensures ∙ c.in-Found.is) in
    (f.from_place, f.next_in.inside)

pub is_word-a-requires : goal.is_word-a-requires
is_word-a-requires c =
    let l = c.loop-place in
    let f = token_found c.args.text.now l.at.place l.invariant.1.inside (sym c.next_token.ensures ∙ c.in-Found.is) in
    (f.from_place, f.next_in.inside)

pub read_set-requires-clause-position_in : goal.read_set-requires-clause-position_in
read_set-requires-clause-position_in c =
    let l = c.loop-place in
    let f = token_found c.args.text.now l.at.place l.invariant.1.inside (sym c.next_token.ensures ∙ c.in-Found.is) in
    (f.next_in, c.requires.position_in.1)

pub returns-in_err-set-in-Found : goal.returns-in_err-set-in-Found
returns-in_err-set-in-Found c =
    let l = c.loop-place in
    let f = token_found c.args.text.now l.at.place l.invariant.1.inside (sym c.next_token.ensures ∙ c.in-Found.is) in
    let e : c.is_word-e.result ≡ same f.bytes e_text = rw f.slice c.is_word-e.ensures in
    let a : c.is_word-a.result ≡ same f.bytes a_text = rw f.slice c.is_word-a.ensures in
    let x = err_from_is_err_and c.from_residual.result c.from_residual.ensures.1 in
    rw (x.1, x.2) (sets_refuse l.invariant.1 l.invariant.0 f (rw (e, a) at c.if-e-a.true) (rw (c.in_err-set-in-Found.was, e) at c.read_set.ensures) [] [])

pub loop-place-smaller : goal.loop-place-smaller
loop-place-smaller c =
    let l = c.loop-place in
    let f = token_found c.args.text.now l.at.place l.invariant.1.inside (sym c.next_token.ensures ∙ c.in-Found.is) in
    let post = rw c.in_ok-set-in-Found.was at c.read_set.ensures in
    omega (arith, f.after, f.next_in.inside, post.3, post.4.inside)

pub loop-place-preserved : goal.loop-place-preserved
loop-place-preserved c =
    let l = c.loop-place in
    let f = token_found c.args.text.now l.at.place l.invariant.1.inside (sym c.next_token.ensures ∙ c.in-Found.is) in
    let e : c.is_word-e.result ≡ same f.bytes e_text = rw f.slice c.is_word-e.ensures in
    let a : c.is_word-a.result ≡ same f.bytes a_text = rw f.slice c.is_word-a.ensures in
    let post = rw (c.in_ok-set-in-Found.was, e) at c.read_set.ensures in
    (sets_on l.invariant.1 l.invariant.0 f (rw (e, a) at c.if-e-a.true) _ _ _ _ (search rules) post, post.4)

pub returns-else-e-a : goal.returns-else-e-a
returns-else-e-a c =
    let l = c.loop-place in
    let f = token_found c.args.text.now l.at.place l.invariant.1.inside (sym c.next_token.ensures ∙ c.in-Found.is) in
    let e : c.is_word-e.result ≡ same f.bytes e_text = rw f.slice c.is_word-e.ensures in
    let a : c.is_word-a.result ≡ same f.bytes a_text = rw f.slice c.is_word-a.ensures in
    sets_over l.invariant.1 l.invariant.0 f (rw (e, a) at c.if-e-a.false)
