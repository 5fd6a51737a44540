-- `read_header` reads `p` and `cnf`, then the numbers. Assumes nothing.
use Rattle.std.proofs.Common.{sym, ◌∙◌}
use Rattle.formula.specs.Text.Header.Laws.{p_read, cnf_read, header_before}
use Rattle.std.proofs.lemmas.Result.{err_from_is_err_and}
use Rattle.formula.proofs.header.read_header.Goals as goal

pub returns-in_err-p : goal.returns-in_err-p
returns-in_err-p c =
    let x = err_from_is_err_and c.from_residual.result c.from_residual.ensures.1 in
    rw (x.1, x.2)
    (let first = c.first_token in
    λ rp rc. rw (← first.ensures.0) (p_read rp rc c.args.text.now first.result.place first.ensures.1.inside _ (sym c.in_err-p.was ∙ c.header_field.ensures)))

pub header_field-requires-2 : goal.header_field-requires-2
header_field-requires-2 c =
    let first = c.first_token in
    ((p_read 0 0 c.args.text.now first.result.place first.ensures.1.inside _ (sym c.in_ok-p.was ∙ c.header_field.ensures)).1, c.requires)

pub returns-in_err-cnf : goal.returns-in_err-cnf
returns-in_err-cnf c =
    let x = err_from_is_err_and c.from_residual-in_err-cnf.result c.from_residual-in_err-cnf.ensures.1 in
    rw (x.1, x.2)
    (let text = c.args.text.now in
    let first = c.first_token in
    λ rp rc.
    let p = p_read rp rc text first.result.place first.ensures.1.inside _ (sym c.in_ok-p.was ∙ c.header_field.ensures) in
    rw (← first.ensures.0) (p.0.1 ∙ cnf_read rp rc text c.in_ok-p.p.next.place p.1.inside _ (sym c.in_err-cnf.was ∙ c.header_field-2.ensures)))

pub header_numbers-requires : goal.header_numbers-requires
header_numbers-requires c =
    let text = c.args.text.now in
    let first = c.first_token in
    let p = p_read 0 0 text first.result.place first.ensures.1.inside _ (sym c.in_ok-p.was ∙ c.header_field.ensures) in
    ((cnf_read 0 0 text c.in_ok-p.p.next.place p.1.inside _ (sym c.in_ok-cnf.was ∙ c.header_field-2.ensures)).1, c.requires)

pub returns : goal.returns
returns c =
    let text = c.args.text.now in
    let first = c.first_token in
    rw (← first.ensures.0)
    (header_before text _ _ _ _
    (λ rp rc.
    let p = p_read rp rc text first.result.place first.ensures.1.inside _ (sym c.in_ok-p.was ∙ c.header_field.ensures) in
    p.0.1 ∙ (cnf_read rp rc text c.in_ok-p.p.next.place p.1.inside _ (sym c.in_ok-cnf.was ∙ c.header_field-2.ensures)).0.1)
    c.header_numbers.result
    c.header_numbers.ensures)
