-- `universal_of` asks the prefix about the literal's variable; a word out of range has none there. Assumes nothing.
use Rattle.std.specs.Prelude.{◌≡◌, nat_abs}
use Rattle.std.proofs.Common.{sym, ◌∙◌, rules, to_z}
use mir.Syntax.{w32}
use mir.Val.{of_z}
use Rattle.formula.specs.Bounds.{in_range}
use Rattle.inference.specs.Existentials.Laws.{fit_missed, universal_outside}
use Rattle.checker.proofs.reduce.universal_of.Goals as goal

pub returns-in_err-variable : goal.returns-in_err-variable
returns-in_err-variable c =
    let w = c.args.literal.0 in
    let e : to_z w32 (of_z w32 w) ≡ w = search rules in
    let none = fit_missed (in_range (nat_abs w) 1024) _ (sym c.in_err-variable.was ∙ rw e at c.literal_variable.ensures) in
    rw (c.from_residual.ensures, universal_outside c.args.prefix.words.now c.args.prefix.entries w none)
