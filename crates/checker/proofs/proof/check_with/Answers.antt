-- `check_with` judges and clears. Assumes nothing.
use Prim.Native.Nat.{ℕ}
use mathlib.Core.Path.{ap, ◌∙◌}
use lib.ListN.{length, replicate}
use Rattle.inference.specs.Rules.{resized, plain_rules}
use Rattle.checker.specs.Verdict.Accuracy.{accepted_lost}
use Rattle.checker.proofs.proof.check_with.Goals as goal

pub returns : goal.returns
returns c =
    let cleared = c in
    let judged = cleared.before.before.before.before.before.before.before in
    let start = judged.before.before.before.before.before in
    let prefix = start.args.prefix.now in
    let clauses = start.args.clauses.now in
    let steps = start.args.steps.now in
    record {
      verdict = judged.judge_proof-verdict.ensures;
      scratch_cleared = cleared.clear_lent.ensures.0 ∙ ap (λ (n : ℕ). replicate {A = ℕ} n 0) judged.judge_proof-verdict.auto.scratch;
      offsets_cleared = cleared.clear_lent.ensures.1 ∙ ap (λ (n : ℕ). replicate {A = ℕ} n 0) judged.judge_proof-verdict.auto.offsets;
      lost = λ empty count e. accepted_lost (resized start.args.bytes plain_rules) prefix clauses steps (length start.args.scratch.now) (length start.args.offsets.now) empty.0 count (rw judged.judge_proof-verdict.ensures at e);
    }
