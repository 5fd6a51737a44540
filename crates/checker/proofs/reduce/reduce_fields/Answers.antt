-- `reduce_fields` makes the reduced word a literal; a word that is none is no universal one. Assumes nothing.
use Rattle.std.specs.Prelude.{◌≡◌, nat_abs}
use Rattle.std.proofs.Common.{sym, ◌∙◌, rules, to_z}
use mir.Syntax.{w32}
use mir.Val.{of_z}
use Rattle.formula.specs.Bounds.{in_range}
use Rattle.formula.specs.Bounds.Laws.{literal_made, literal_refused}
use Rattle.formula.proofs.Theorems.Tables.Laws.{admitted_entries}
use Rattle.inference.specs.Steps.{judge_reduction}
use Rattle.inference.specs.Existentials.Laws.{universal_outside}
use Rattle.checker.specs.Step.Laws.{refused_ready}
use Rattle.checker.proofs.reduce.reduce_fields.Goals as goal

pub returns-in_default : goal.returns-in_default
unfolding judge_reduction
returns-in_default c =
    let a = c.args in
    let word = a.step.pivot in
    let e : to_z w32 (of_z w32 word) ≡ word = search rules in
    let none = literal_refused (in_range (nat_abs word) 1024) word (rw e at (sym c.new.ensures) ∙ c.in_default.is) in
    rw (universal_outside a.tables.prefix.now (admitted_entries a.tables.prefix.now a.tables.clauses.now c.args.tables.admitted) word none)
    (refused_ready a.tables.prefix.now a.tables.clauses.now a.scratch.now c.requires)

pub returns : goal.returns
returns c =
    let word = c.args.step.pivot in
    let e : to_z w32 (of_z w32 word) ≡ word = search rules in
    let made = literal_made (in_range (nat_abs word) 1024) word c.in-Some.literal (rw e at (sym c.new.ensures) ∙ c.in-Some.is) in
    rw made.1 c.reduce_literal.ensures
