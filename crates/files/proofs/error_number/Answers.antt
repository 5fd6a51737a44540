-- `error_number` gives an interruption's number to that kind alone. Assumes nothing.
use Rattle.std.proofs.Common.{refl, sym, ◌∙◌}
use Rattle.files.specs.Reading.{interrupted}
use Rattle.files.proofs.error_number.Goals as goal

pub returns-in-Interrupted : goal.returns-in-Interrupted
unfolding interrupted
returns-in-Interrupted c = (λ k. refl, λ k. sym c.kind.ensures ∙ c.in-Interrupted.is)

pub returns-in_default : goal.returns-in_default
unfolding interrupted
returns-in_default c = (λ k. absurd (c.in_default.not-Interrupted (c.kind.ensures ∙ k)), λ k. cc)
