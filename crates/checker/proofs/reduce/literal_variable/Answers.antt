-- `literal_variable`: the word's variable, where it is within the bound, is the word's magnitude. Assumes nothing.
use Rattle.std.specs.Prelude.{◌≡◌}
use Rattle.std.proofs.Common.{◌∙◌, rules, to_z}
use mir.Syntax.{w32}
use mir.Val.{of_z}
use Rattle.checker.specs.Step.Laws.{literal_found}
use Rattle.checker.proofs.reduce.literal_variable.Goals as goal

pub returns : goal.returns
returns c =
    let w = c.args.word in
    let e : to_z w32 (of_z w32 w) ≡ w = search rules in
    rw (rw e at c.variable.ensures) at c.new.ensures ∙ literal_found w
