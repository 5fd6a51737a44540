-- `write_entry_line` stores a line for a universal, and nothing for an existential. Assumes nothing.
use mathlib.Core.Path.{◌≡◌, sym, ◌∙◌}
use Rattle.qbf.specs.Formula.{Entry, Formula, Prefix, entry, universal}
use Rattle.formula.specs.Prefix.{prefix_of, entry_at}
use Rattle.formula.specs.Prefix.Laws.{shown_existential, shown_universal}
use Rattle.formula.specs.Store.Laws.{stores_none}
use Rattle.report.specs.Dependents.{entry_line, universal_line}
use Rattle.report.specs.Dependents.Laws.{universal_at}
use Rattle.report.proofs.dependents.write_entry_line.Goals as goal

-- the line of a universal's entry
line_of : (F : Formula) (P : Prefix) (x : Entry) (u : _) → x ≡ entry u universal → entry_line F P x ≡ universal_line F P u
unfolding entry_line
line_of F P x u e = rw e

pub invariant_of-universal : goal.invariant_of-universal
invariant_of-universal c =
    let t = c.args.tables in
    let is : entry_at t.prefix.now c.args.place ≡ entry c.in-Universal.variable.0 universal = shown_universal _ _ (rw c.entries.ensures at (sym c.entry_at.ensures ∙ c.in-Universal.is)) in
    record { listed = universal_at t.prefix.now c.args.place c.requires.place_in _ is }

pub write_universal-requires : goal.write_universal-requires
write_universal-requires c =
    let t = c.args.tables in
    let is : entry_at t.prefix.now c.args.place ≡ entry c.in-Universal.variable.0 universal = shown_universal _ _ (rw c.entries.ensures at (sym c.entry_at.ensures ∙ c.in-Universal.is)) in
    rw (line_of _ (prefix_of t.prefix.now) _ _ is) at c.requires.place_fits

pub returns-in-Existential : goal.returns-in-Existential
unfolding entry_line
returns-in-Existential c =
    let t = c.args.tables in
    rw (shown_existential (entry_at t.prefix.now c.args.place) _ (rw c.entries.ensures at (sym c.entry_at.ensures ∙ c.in-Existential.is))) (stores_none _ _)

pub returns-in-Universal : goal.returns-in-Universal
returns-in-Universal c =
    let t = c.args.tables in
    let is : entry_at t.prefix.now c.args.place ≡ entry c.in-Universal.variable.0 universal = shown_universal _ _ (rw c.entries.ensures at (sym c.entry_at.ensures ∙ c.in-Universal.is)) in
    rw (line_of _ (prefix_of t.prefix.now) _ _ is) c.write_universal.ensures
