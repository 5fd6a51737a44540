-- `header_numbers` reads V, within its bound, then C. Assumes nothing.
use Rattle.std.proofs.Common.{sym, ◌∙◌, leb-true}
use Rattle.formula.specs.Bounds.{variable_bound}
use Rattle.formula.specs.Bounds.Laws.{within_bound, above_bound}
use Rattle.formula.specs.Text.{wantsV, wants_c}
use Rattle.formula.specs.Text.Header.Laws.{v_read, within_read, above_read, header_before}
use Rattle.std.proofs.lemmas.Result.{err_from_is_err_and}
use Rattle.formula.proofs.header.header_numbers.Goals as goal

pub returns-in_err-field : goal.returns-in_err-field
returns-in_err-field c =
    let x = err_from_is_err_and c.from_residual.result c.from_residual.ensures.1 in
    rw (x.1, x.2)
    (let a = c.args in
    λ rp rc. v_read rp rc a.text.now a.at.place c.requires.0.inside _ (sym c.in_err-field.was ∙ c.header_field.ensures))

pub returns-in_default : goal.returns-in_default
returns-in_default c =
    let a = c.args in
    let f = c.in_ok-field.field in
    let large = above_bound _ (sym c.new.ensures ∙ c.in_default.is) in
    λ rp rc.
    let r = v_read rp rc a.text.now a.at.place c.requires.0.inside _ (sym c.in_ok-field.was ∙ c.header_field.ensures) in
    rw c.new-in_default.ensures (r.0.1 ∙ above_read rp rc a.text.now variable_bound f.value r.0.0 f.next.place wants_c large)

pub header_clauses-requires : goal.header_clauses-requires
header_clauses-requires c =
    let a = c.args in
    let f = c.in_ok-field.field in
    let made = within_bound f.value c.in-Some.variables (sym c.new.ensures ∙ c.in-Some.is) in
    let r = v_read 0 0 a.text.now a.at.place c.requires.0.inside _ (sym c.in_ok-field.was ∙ c.header_field.ensures) in
    (r.1, c.requires.1, rw (← made.1) (leb-true f.value variable_bound made.0))

pub returns : goal.returns
returns c =
    let a = c.args in
    let f = c.in_ok-field.field in
    let made = within_bound f.value c.in-Some.variables (sym c.new.ensures ∙ c.in-Some.is) in
    header_before a.text.now wantsV (wants_c c.in-Some.variables.0) a.at.place f.next.place
    (λ rp rc.
    let r = v_read rp rc a.text.now a.at.place c.requires.0.inside _ (sym c.in_ok-field.was ∙ c.header_field.ensures) in
    rw (← made.1) (r.0.1 ∙ within_read rp rc a.text.now variable_bound f.value r.0.0 f.next.place wants_c made.0))
    c.header_clauses.result
    c.header_clauses.ensures
