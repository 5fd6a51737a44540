-- `placed` compares the count with the room that is left, which no sum can overflow. Assumes nothing.
use Rattle.std.proofs.Common.{sym, arith}
use Rattle.files.specs.Reading.Laws.{placed_on, placed_full, placed_past}
use Rattle.files.proofs.reading.placed.Goals as goal

pub returns-then-room-at : goal.returns-then-room-at
returns-then-room-at c = let a = c.args in sym (placed_past a.count a.at a.room a.tries (omega (arith, c.if-room-at.true)))

pub returns-then-count-room : goal.returns-then-count-room
returns-then-count-room c =
    let a = c.args in
    sym (placed_on a.count a.at a.room a.tries (omega (arith, c.if-room-at.false, c.if-count-room.true)))

pub returns-then-room-at-2 : goal.returns-then-room-at-2
returns-then-room-at-2 c =
    let a = c.args in
    sym (placed_past a.count a.at a.room a.tries (omega (arith, c.if-room-at.false, c.if-room-at-2.true)))

pub returns : goal.returns
returns c =
    let a = c.args in
    sym (placed_full a.count a.at a.room a.tries (omega (arith, c.if-room-at.false, c.if-count-room.false, c.if-room-at-2.false)))
