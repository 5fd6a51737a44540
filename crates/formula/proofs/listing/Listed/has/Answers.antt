-- `is_listed` reads the variable's bit where there are marks, and goes through the table where there are none. Assumes nothing.
use mathlib.Core.Path.{◌∙◌}
use native.Mathlib.Omega.{arith}
use Rattle.formula.specs.Tables.Scan.{marked}
use Rattle.formula.proofs.listing.Listed.has.Goals as goal

pub returns : goal.returns
unfolding marked
returns c =
    let s = c in
    c.is_set.ensures ∙ s.args.self.listing.says (omega arith) s.args.variable s.requires.0 s.requires.1
