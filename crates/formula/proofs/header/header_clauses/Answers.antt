-- `header_clauses` reads C, within its bound. Assumes nothing.
use Rattle.std.specs.Prelude.{[]}
use Rattle.std.proofs.Common.{sym, ◌∙◌, leb-true}
use Rattle.formula.specs.Bounds.{count_bound}
use Rattle.formula.specs.Bounds.Laws.{within_bound, above_bound}
use Rattle.formula.specs.Text.{between_sets}
use Rattle.formula.specs.Text.Header.Laws.{c_read, within_read, above_read}
use Rattle.std.proofs.lemmas.Result.{err_from_is_err_and}
use Rattle.formula.proofs.header.header_clauses.Goals as goal

pub returns-in_err-field : goal.returns-in_err-field
returns-in_err-field c =
    let x = err_from_is_err_and c.from_residual.result c.from_residual.ensures.1 in
    rw (x.1, x.2)
    (let a = c.args in
    λ rp rc. c_read rp rc a.text.now a.at.place c.requires.0.inside _ a.variables.0 (sym c.in_err-field.was ∙ c.header_field.ensures))

pub returns-in_default : goal.returns-in_default
returns-in_default c =
    let a = c.args in
    let f = c.in_ok-field.field in
    let large = above_bound _ (sym c.new.ensures ∙ c.in_default.is) in
    λ rp rc.
    let r = c_read rp rc a.text.now a.at.place c.requires.0.inside _ a.variables.0 (sym c.in_ok-field.was ∙ c.header_field.ensures) in
    rw c.new-in_default.ensures (r.0.1 ∙ above_read rp rc a.text.now count_bound f.value r.0.0 f.next.place (λ k. between_sets a.variables.0 k []) large)

pub returns : goal.returns
returns c =
    let a = c.args in
    let f = c.in_ok-field.field in
    let made = within_bound f.value c.in-Some.clauses (sym c.new.ensures ∙ c.in-Some.is) in (
      (λ rp rc.
          let r = c_read rp rc a.text.now a.at.place c.requires.0.inside _ a.variables.0 (sym c.in_ok-field.was ∙ c.header_field.ensures) in
          rw (← made.1) (r.0.1 ∙ within_read rp rc a.text.now count_bound f.value r.0.0 f.next.place (λ k. between_sets a.variables.0 k []) made.0)),
      c.requires.2,
      rw (← made.1) (leb-true f.value count_bound made.0),
      (c_read 0 0 a.text.now a.at.place c.requires.0.inside _ a.variables.0 (sym c.in_ok-field.was ∙ c.header_field.ensures)).1,
    )
