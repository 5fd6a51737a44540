-- `judge_steps`: the scratch is made ready, the offsets are filled, the run is concluded. Assumes nothing.
use Rattle.std.specs.Prelude.{◌≡◌, ℕ, List, length, take, replicate}
use Rattle.std.proofs.Common.{ap, sym, ◌∙◌, arith, rules}
use Rattle.formula.specs.Decode.{clauses_of}
use Rattle.formula.proofs.Theorems.Tables.Laws.{admitted_clauses_length, admitted_closed}
use Rattle.checker.specs.Step.Laws.{filled_ready}
use Rattle.inference.specs.Rules.{plain_rules}
use Rattle.inference.specs.Steps.{family_of}
use Rattle.inference.specs.Numbered.{stored}
use Rattle.inference.specs.Numbered.Laws.{stored_length}
use Rattle.inference.specs.Scope.{scope_of}
use Rattle.checker.specs.Verdict.Conclusion.{concluded_run}
use Rattle.checker.proofs.proof.judge_steps.Goals as goal

-- the scratch, cleared
cleared : (old new : List ℕ) → new ≡ replicate (length old) 0 → length old ≡ 640 → new ≡ replicate 640 0
cleared old new e l = e ∙ ap (λ (n : ℕ). replicate {A = ℕ} n 0) l

pub fill_offsets-first-requires : goal.fill_offsets-first-requires
fill_offsets-first-requires c =
    let prefix = c.args.tables.prefix.now in
    let clauses = c.args.tables.clauses.now in
    record { table_in_bound = admitted_clauses_length prefix clauses c.args.tables.admitted; inputs_have_room = omega (arith, admitted_closed prefix clauses c.args.tables.admitted, c.requires.inputs_counted, c.requires.inputs_have_room, c.clear_lent.auto.offsets) }

pub run_steps-requires : goal.run_steps-requires
run_steps-requires c =
    record {
      ready =
          filled_ready
          c.args.tables.prefix.now
          c.clear_lent.new.scratch
          c.fill_quantified.new.bytes
          (search rules)
          c.fill_quantified.auto.bytes
          (ap (take 256) (cleared _ _ c.clear_lent.ensures.0 (search rules)))
          (rw c.entries.ensures at c.fill_quantified.ensures);
      steps_in_bound = c.requires.steps_in_bound;
      first_told = c.fill_offsets-first.ensures.first_empty_lem;
      inputs_have_room = omega (arith, c.fill_offsets-first.auto.offsets, c.clear_lent.auto.offsets, c.requires.inputs_have_room);
      inputs_stored = rw (admitted_closed c.args.tables.prefix.now c.args.tables.clauses.now c.args.tables.admitted ∙ sym c.requires.inputs_counted) at (c.fill_offsets-first.ensures.input_clauses c.args.steps.now);
    }

pub returns : goal.returns
returns c =
    let a = c.args in
    let e = c.in_ok-ended.ended in
    let offsets = c.run_steps.new.offsets in
    let done = rw c.in_ok-ended.was at c.run_steps.ensures in
    let outcome = rw (c.run_steps.auto.offsets ∙ c.fill_offsets-first.auto.offsets ∙ c.clear_lent.auto.offsets) at done.outcome in
    c.conclude_run.ensures
    ∙ concluded_run
    plain_rules
    (family_of a.steps.now)
    (scope_of a.tables.prefix.now a.tables.clauses.now)
    (length a.offsets.now)
    (clauses_of a.tables.clauses.now)
    a.steps.now
    (stored a.inputs a.tables.clauses.now a.steps.now offsets e.numbered)
    a.inputs
    e.numbered
    e.empty
    (admitted_closed a.tables.prefix.now a.tables.clauses.now c.args.tables.admitted ∙ sym c.requires.inputs_counted)
    outcome
    (stored_length a.inputs a.tables.clauses.now a.steps.now offsets e.numbered)
    done.empty_told
