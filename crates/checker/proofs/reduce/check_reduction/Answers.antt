-- `check_reduction` finds the antecedent. Assumes nothing.
use Rattle.std.proofs.Math.Option.{none}
use mathlib.Core.Path.{◌≡◌, sym}
use mir.Syntax.{w32}
use mir.Val.{to_z, of_z}
use borrow.Author.Rules.{rules}
use Rattle.inference.specs.Steps.{antecedent, judge_reduction}
use Rattle.inference.specs.Known.{known_in}
use Rattle.checker.specs.Step.Laws.{refused_ready}
use Rattle.checker.proofs.reduce.check_reduction.Goals as goal

pub returns-in_default : goal.returns-in_default
unfolding judge_reduction
returns-in_default c =
    let w : to_z w32 (of_z w32 c.args.step.first) ≡ c.args.step.first = search rules in
    let e : antecedent (known_in c.args.known) c.args.step.first ≡ none = sym (rw (w, c.in_default.is) at c.find.ensures) in
    rw e (refused_ready c.args.tables.prefix.now c.args.tables.clauses.now c.args.scratch.now c.requires)
