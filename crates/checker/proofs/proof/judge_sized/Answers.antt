-- `judge_sized`: the tests before the steps, in order. Assumes nothing.
use Rattle.std.specs.Prelude.{◌<◌, ◌≤◌, length}
use Rattle.std.proofs.Common.{sym, ◌∙◌, arith, le-leb}
use Rattle.std.proofs.lemmas.Bool.{lt-leb}
use native.Mathlib.Numerals.{add-one}
use Rattle.formula.specs.Decode.{clauses_of}
use Rattle.formula.specs.Bounds.Laws.{within_bound, above_bound}
use Rattle.formula.specs.Tables.{zeros}
use Rattle.inference.specs.Rules.{plain_rules}
use Rattle.inference.specs.Steps.{family_of}
use Rattle.checker.specs.Verdict.{sized_verdict}
use Rattle.inference.specs.Scope.{scope_of}
use Rattle.checker.specs.Verdict.Sizes.{conclude_resized}
use Rattle.std.proofs.Common.{leb-true}
use Rattle.checker.proofs.proof.judge_sized.Goals as goal

pub returns-in_default : goal.returns-in_default
unfolding sized_verdict
returns-in_default c = rw (above_bound _ (sym c.new.ensures ∙ c.in_default.is), c.new-in_default.ensures)

pub returns-then-scratch-bytes : goal.returns-then-scratch-bytes
unfolding sized_verdict
returns-then-scratch-bytes c =
    let w = (within_bound _ _ (sym c.new.ensures ∙ c.in-Some.is)).0 in
    rw (w, lt-leb c.args.bytes (length c.args.scratch.now) c.if-scratch-bytes.true, c.new-then-scratch-bytes.ensures)

pub returns-then-offsets-inputs : goal.returns-then-offsets-inputs
unfolding sized_verdict
returns-then-offsets-inputs c =
    let a = c.args in
    let w = (within_bound _ _ (sym c.new.ensures ∙ c.in-Some.is)).0 in
    let few : length a.offsets.now < zeros a.tables.clauses.now = omega (arith, c.if-offsets-inputs.true, c.requires.inputs_counted) in
    rw (w, le-leb a.bytes (length a.scratch.now) c.if-scratch-bytes.false, lt-leb (zeros a.tables.clauses.now) (length a.offsets.now) few, c.new-then-offsets-inputs.ensures, add-one (length a.offsets.now))

pub judge_steps-requires-clause-steps_in_bound : goal.judge_steps-requires-clause-steps_in_bound
judge_steps-requires-clause-steps_in_bound c = leb-true _ _ (within_bound _ _ (sym c.new.ensures ∙ c.in-Some.is)).0

pub returns : goal.returns
unfolding sized_verdict
returns c =
    let a = c.args in
    let w = (within_bound _ _ (sym c.new.ensures ∙ c.in-Some.is)).0 in
    let enough : zeros a.tables.clauses.now ≤ length a.offsets.now = omega (arith, c.if-offsets-inputs.false, c.requires.inputs_counted) in
    rw (w, le-leb a.bytes (length a.scratch.now) c.if-scratch-bytes.false, le-leb (zeros a.tables.clauses.now) (length a.offsets.now) enough, ← c.requires.inputs_counted, conclude_resized a.bytes plain_rules (family_of a.steps.now) (scope_of a.tables.prefix.now a.tables.clauses.now) (length a.offsets.now) a.inputs (clauses_of a.tables.clauses.now) a.steps.now)
    c.judge_steps.ensures
