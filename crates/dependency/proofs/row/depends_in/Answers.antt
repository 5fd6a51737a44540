-- `depends_in` reads the row's flag of a variable. Assumes nothing.
use Prim.Native.Nat.{ℕ}
use mathlib.Core.Path.{ap, sym, ◌∙◌}
use lib.Dec.{eqb}
use Rattle.dependency.specs.Scratch.Laws.{row_first, row_flag}
use Rattle.dependency.proofs.row.depends_in.Goals as goal

pub returns-then-variable-eq0 : goal.returns-then-variable-eq0
returns-then-variable-eq0 c = rw (c.if-variable-eq0.true, row_first c.args.scratch.now)

pub returns : goal.returns
returns c =
    let s = c in
    c.is_set.ensures ∙ ap (λ (n : ℕ). eqb n 1) (sym (row_flag s.args.scratch.now s.args.variable c.if-variable-eq0.false s.requires.in_bound))
