-- `reduce_literal` asks whether the reduced literal is universal, and looks for it in the clause. Assumes nothing.
use Rattle.std.specs.Prelude.{◌≡◌, nat_abs}
use Rattle.std.proofs.Common.{sym, ◌∙◌, rules, to_z}
use mir.Syntax.{w32}
use mir.Val.{of_z}
use Rattle.qbf.specs.Formula.{universal}
use Rattle.formula.specs.Prefix.{prefix_of, quantifies}
use Rattle.formula.proofs.Theorems.Tables.Laws.{admitted_entries}
use Rattle.inference.specs.Steps.{judge_reduction}
use Rattle.inference.specs.Existentials.Laws.{listed_ranged, fit_found, fit_missed}
use Rattle.checker.specs.Step.Laws.{refused_ready, literal_within}
use Rattle.checker.proofs.reduce.reduce_literal.Goals as goal

pub invariant_of-universal : goal.invariant_of-universal
invariant_of-universal c =
    let found = fit_found _ _ c.in-Some.variable (sym c.in-Some.is ∙ (rw c.entries.ensures at c.universal_of.ensures)) in
    record { listed = rw found.0 found.1 }

pub reduce_on-requires-clause-literal_in_range : goal.reduce_on-requires-clause-literal_in_range
reduce_on-requires-clause-literal_in_range c =
    let a = c.args in
    let found = fit_found _ _ c.in-Some.variable (sym c.in-Some.is ∙ (rw c.entries.ensures at c.universal_of.ensures)) in
    listed_ranged a.tables.prefix.now (admitted_entries a.tables.prefix.now a.tables.clauses.now c.args.tables.admitted) universal (nat_abs a.literal.0) found.1

pub returns-in_default : goal.returns-in_default
unfolding judge_reduction
returns-in_default c =
    let a = c.args in
    let none = fit_missed (quantifies universal (prefix_of a.tables.prefix.now) (nat_abs a.literal.0)) (nat_abs a.literal.0) (sym c.in_default.is ∙ (rw c.entries.ensures at c.universal_of.ensures)) in
    rw none (refused_ready a.tables.prefix.now a.tables.clauses.now a.scratch.now c.requires)

pub returns-then-has_word : goal.returns-then-has_word
unfolding judge_reduction
returns-then-has_word c =
    let a = c.args in
    let e : to_z w32 (of_z w32 a.literal.0) ≡ a.literal.0 = search rules in
    let found = fit_found _ _ c.in-Some.variable (sym c.in-Some.is ∙ (rw c.entries.ensures at c.universal_of.ensures)) in
    let held = rw e at c.has_word.ensures in
    let range = listed_ranged a.tables.prefix.now (admitted_entries a.tables.prefix.now a.tables.clauses.now c.args.tables.admitted) universal (nat_abs a.literal.0) found.1 in
    rw (found.1, ← held, c.if-has_word.true, literal_within a.literal.0 range.0 range.1) (rw found.0 at c.reduce_on.ensures)

pub returns : goal.returns
unfolding judge_reduction
returns c =
    let a = c.args in
    let e : to_z w32 (of_z w32 a.literal.0) ≡ a.literal.0 = search rules in
    let found = fit_found _ _ c.in-Some.variable (sym c.in-Some.is ∙ (rw c.entries.ensures at c.universal_of.ensures)) in
    let held = rw e at c.has_word.ensures in
    rw (found.1, ← held, c.if-has_word.false) (refused_ready a.tables.prefix.now a.tables.clauses.now a.scratch.now c.requires)
