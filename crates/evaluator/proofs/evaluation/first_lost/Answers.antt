-- `first_lost` begins with the side that is due, all values being 0. Assumes nothing.
use mathlib.Core.Path.{ap, sym, ◌∙◌}
use Rattle.qbf.specs.Play.{Values, lost}
use native.Mathlib.Omega.{arith}
use Rattle.formula.specs.Prefix.{prefix_of}
use Rattle.formula.specs.Decode.{matrix_of}
use Rattle.evaluator.specs.Values.Laws.{values_zero}
use Rattle.evaluator.proofs.Position.{due_universal, due_existential}
use Rattle.evaluator.proofs.evaluation.first_lost.Goals as goal

pub universal_turn-requires : goal.universal_turn-requires
universal_turn-requires c =
    let s = c in
    due_universal 1025 s.args.prefix.words.now (omega arith) (sym c.universal_due.ensures ∙ c.if-universal_due.true)

pub existential_turn-requires : goal.existential_turn-requires
existential_turn-requires c =
    let s = c in
    due_existential 1025 s.args.prefix.words.now (omega arith) (sym c.universal_due.ensures ∙ c.if-universal_due.false)

pub returns-then-universal_due : goal.returns-then-universal_due
returns-then-universal_due c =
    let s = c in
    c.universal_turn.ensures.value
    ∙ ap (λ (τ : Values). lost (prefix_of s.args.prefix.words.now) τ (matrix_of s.args.clauses.now)) (values_zero 1025)

pub returns-else-universal_due : goal.returns-else-universal_due
returns-else-universal_due c =
    let s = c in
    c.existential_turn.ensures.value
    ∙ ap (λ (τ : Values). lost (prefix_of s.args.prefix.words.now) τ (matrix_of s.args.clauses.now)) (values_zero 1025)
