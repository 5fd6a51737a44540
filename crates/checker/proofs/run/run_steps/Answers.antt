-- `run_steps`: what is left to run comes to the same as the whole. Assumes nothing.
use native.Mathlib.Omega.{arith}
use Rattle.checker.specs.Run.Laws.{going_begins, going_takes, going_fits, going_turns, going_refused, going_afterwards, going_ends}
use Rattle.checker.proofs.run.run_steps.Goals as goal

pub loop-at-init : goal.loop-at-init
loop-at-init c =
    (going_begins c.args.strict c.args.tables.prefix.now c.args.tables.clauses.now c.args.steps.now c.args.inputs c.args.scratch.now c.args.offsets.now c.args.first c.requires.ready c.args.tables.admitted c.requires.first_told c.requires.inputs_have_room c.requires.inputs_stored)

-- a step after an empty clause
pub returns-then-strict-is_some : goal.returns-then-strict-is_some
returns-then-strict-is_some c = rw c.new.ensures (going_afterwards c.loop-at.invariant c.loop-at-test.true (rw c.is_some.ensures at c.if-strict-is_some.true))

pub returns-in-Err : goal.returns-in-Err
returns-in-Err c =
    rw c.new-in-Err.ensures (going_refused c.loop-at.invariant c.in-Err.reason c.check_step.new.scratch c.loop-at-test.true (rw c.is_some.ensures at c.if-strict-is_some.false) (rw (c.in-Err.is, c.family_of-family.ensures) at c.check_step.ensures.answer) c.check_step.ensures.ready.ready)

pub bounds-offsets-numbered : goal.bounds-offsets-numbered
bounds-offsets-numbered c = going_fits c.loop-at.invariant c.loop-at-test.true c.family_of-family.ensures (rw c.in-Ok.is at c.check_step.ensures.answer)

pub loop-at-smaller : goal.loop-at-smaller
loop-at-smaller c =
    let t = going_takes c.loop-at.invariant c.loop-at-test.true c.family_of-family.ensures (rw c.in-Ok.is at c.check_step.ensures.answer) in
    omega (arith, c.loop-at-test.true, t.onward)

pub loop-at-preserved : goal.loop-at-preserved
loop-at-preserved c =
    let t = going_takes c.loop-at.invariant c.loop-at-test.true c.family_of-family.ensures (rw c.in-Ok.is at c.check_step.ensures.answer) in
    rw c.empty_after-empty.ensures (going_turns c.loop-at.invariant c.in-Ok.taken.next c.in-Ok.taken.kept c.in-Ok.taken.empty c.at.result c.check_step.new.scratch c.at.ensures (rw c.is_some.ensures at c.if-strict-is_some.false) t (rw c.in-Ok.is at c.check_step.ensures.ready))

pub returns : goal.returns
returns c = going_ends c.loop-at.invariant c.loop-at-test.false
