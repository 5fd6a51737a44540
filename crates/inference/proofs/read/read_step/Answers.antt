-- `read_step` by the kind word and the closing 0. Assumes nothing.
use Rattle.std.specs.Prelude.{◌≡◌, ◌+◌, ◌-◌, pos, get_or}
use Rattle.std.proofs.Common.{ap, sym, ◌∙◌, rules, to_z, refl}
use mir.Syntax.{w32}
use mir.Val.{of_z}
use Rattle.inference.specs.Read.{kind_is}
use Rattle.inference.specs.Read.Laws.{second_by, fields_read}
use Rattle.inference.proofs.Signed.{read_back}
use Rattle.inference.proofs.read.read_step.Goals as goal
use Rattle.inference.proofs.read.read_step.Goals.{in-Resolution, in-Reduction}

pub returns : goal.returns
returns c =
    let a = c.args in
    let w = ap (kind_is a.family) (read_back (get_or a.steps.now a.at (pos 0)) (search rules)) in
    let first : to_z w32 (of_z w32 (get_or a.steps.now (a.at + 1) (pos 0))) ≡ get_or a.steps.now (a.at + 1) (pos 0) = search rules in
    let second : to_z w32 c.match-kind.second-bits ≡ second_by c.in_ok-kind.kind (get_or a.steps.now (a.at + 2) (pos 0)) =
    elim c.match-kind.branch [
      | in-Resolution w ↦ w.second-is ∙ rw w.in-Resolution.is (read_back _ (search rules))
      | in-Reduction w ↦ w.second-is ∙ rw w.in-Reduction.is refl
    ] in
    let pivot : to_z w32 (of_z w32 (get_or a.steps.now (c.statement_by-statement.result - 1) (pos 0))) ≡ get_or a.steps.now (c.statement_by-statement.result - 1) (pos 0) = search rules in
    rw (first, second, pivot, c.statement_by-statement.ensures)
    (fields_read a.family a.steps.now a.at c.requires c.in_ok-kind.kind c.in_ok-next.next (sym c.in_ok-kind.was ∙ c.kind_of.ensures ∙ w) (rw c.statement_by-statement.ensures at (sym c.in_ok-next.was ∙ c.close_of.ensures)))
