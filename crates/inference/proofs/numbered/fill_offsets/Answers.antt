-- `fill_offsets`: what is stored and what stands from here on are the clauses of the table, and so with the first empty one. Assumes nothing.
use mathlib.Core.Path.{refl}
use native.Mathlib.Omega.{arith}
use lib.ListN.{length-set}
use Rattle.inference.specs.Numbered.Laws.{filling_begins, filling_room, filling_turns, finding_turns, filling_ends}
use Rattle.inference.proofs.numbered.fill_offsets.Goals as goal

pub loop-from-init : goal.loop-from-init
loop-from-init c = (filling_begins c.args.clauses.now c.args.offsets.now, refl, refl)

pub at-requires : goal.at-requires
at-requires c =
    let l = c.loop-from in
    let h = filling_room _ l.offsets l.n l.from _ l.invariant.0 c.loop-from-test.true l.invariant.2 c.requires.inputs_have_room in
    let e = l.invariant.2 in let g = c.well_formed.1.0.1 in omega arith

pub offset_bounds-offsets-n : goal.offset_bounds-offsets-n
offset_bounds-offsets-n c =
    let l = c.loop-from in
    let h = filling_room _ l.offsets l.n l.from _ l.invariant.0 c.loop-from-test.true l.invariant.2 c.requires.inputs_have_room in
    let e = l.invariant.2 in let g = c.well_formed.1.0.1 in omega arith

pub bounds-offsets-n : goal.bounds-offsets-n
bounds-offsets-n c =
    let l = c.loop-from in
    filling_room _ l.offsets l.n l.from _ l.invariant.0 c.loop-from-test.true l.invariant.2 c.requires.inputs_have_room

pub loop-from-preserved : goal.loop-from-preserved
loop-from-preserved c =
    let l = c.loop-from in
    let h = c.loop-from-test.true in
    let clauses = c.args.clauses.now in (
      rw c.end_of-from.ensures
          (filling_turns clauses l.offsets l.n l.from l.invariant.0 h (filling_room clauses l.offsets l.n l.from _ l.invariant.0 h l.invariant.2 c.requires.inputs_have_room)),
      rw (c.end_of-from.ensures, c.empty_after-empty.ensures, c.is_empty.ensures) (finding_turns clauses l.n l.empty l.from c.at.result c.at.ensures l.invariant.1 h),
      simp length-set l.invariant.2,
    )

pub returns : goal.returns
returns c =
    let l = c.loop-from in
    filling_ends c.args.clauses.now l.offsets l.n l.empty l.from l.invariant.0 l.invariant.1 c.loop-from-test.false
