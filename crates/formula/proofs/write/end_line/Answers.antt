-- `end_line` stores nothing where no line is open, else 0 and LF. Assumes nothing.
use Rattle.formula.specs.Store.Laws.{stores_none}
use Rattle.formula.specs.Write.Stream.{line_end}
use Rattle.formula.specs.Write.Laws.{line_end_open}
use Rattle.formula.proofs.write.end_line.Goals as goal

pub returns-then-last-eq0 : goal.returns-then-last-eq0
unfolding line_end
returns-then-last-eq0 c = rw c.if-last-eq0.true (stores_none _ _)

pub write_bytes-requires : goal.write_bytes-requires
write_bytes-requires c =
    let s = c in
    rw (line_end_open s.args.last c.if-last-eq0.false) at s.requires

pub returns : goal.returns
returns c =
    let other = c in
    rw (line_end_open other.args.last other.if-last-eq0.false) c.write_bytes.ensures
