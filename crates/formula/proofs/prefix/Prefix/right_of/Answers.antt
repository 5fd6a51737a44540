-- `right_of` runs down the prefix: what stands right of the variable is found in what is left. Assumes nothing.
use Prim.Native.Nat.{◌≤◌, ◌<◌}
use mathlib.Core.Path.{ap, sym, ◌∙◌}
use mathlib.Core.Bool.{false≢true}
use borrow.Author.Tests.{eqb-true, eq-eqb}
use native.Mathlib.Numerals.{add-one}
use native.Mathlib.Omega.{arith}
use lib.ListN.{length, drop_of_length-le}
use Rattle.qbf.specs.Formula.{after}
use Rattle.qbf.specs.Formula.Laws.{after_own, after_other}
use Rattle.formula.specs.Prefix.{prefix_of, entry_count}
use Rattle.formula.specs.Prefix.Laws.{entries_drop}
use Rattle.formula.proofs.prefix.Prefix.right_of.Goals as goal

pub returns-then-eq : goal.returns-then-eq
returns-then-eq c =
    let v = c.args.variable.0 in
    let within : c.loop-i.i < entry_count c.args.self.words.now = omega arith in
    rw add-one
    (sym (after_own v _ _ (sym c.variable_at.ensures ∙ eqb-true _ _ (sym c.eq.ensures ∙ c.if-eq.true)))
    ∙ ap (after v) (sym (entries_drop c.args.self.words.now c.loop-i.i within))
    ∙ c.loop-i.invariant)

pub loop-i-preserved : goal.loop-i-preserved
loop-i-preserved c =
    let v = c.args.variable.0 in
    let within : c.loop-i.i < entry_count c.args.self.words.now = omega arith in
    rw add-one
    (sym (after_other v _ _ (λ e. false≢true (sym c.if-eq.false ∙ c.eq.ensures ∙ eq-eqb _ _ (c.variable_at.ensures ∙ e))))
    ∙ ap (after v) (sym (entries_drop c.args.self.words.now c.loop-i.i within))
    ∙ c.loop-i.invariant)

pub returns : goal.returns
unfolding after
returns c =
    let P = prefix_of c.args.self.words.now in
    let past : length P ≤ c.loop-i.i = omega arith in
    let all : length P ≤ c.count-count.result = omega arith in
    rw (drop_of_length-le P all) (rw (drop_of_length-le P past) at c.loop-i.invariant)
