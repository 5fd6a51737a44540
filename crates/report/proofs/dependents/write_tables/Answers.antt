-- `write_tables` refuses where scratch is too short, else stores the lines. Assumes nothing.
use native.Mathlib.Omega.{arith}
use borrow.Author.Tests.{le-leb, lt-leb}
use lib.ListN.{length}
use Rattle.dependency.specs.Scratch.{scratch_bound}
use Rattle.report.specs.Dependents.{tables_text}
use Rattle.report.specs.Dependents.Length.{universal_lines_short}
use Rattle.report.proofs.dependents.write_tables.Goals as goal

pub returns-then-scratch-lt-SCRATCH : goal.returns-then-scratch-lt-SCRATCH
unfolding tables_text
returns-then-scratch-lt-SCRATCH c =
    let other = c in
    let s = other.before.before.before in
    let stored = rw c.new.ensures at c.refused_line.ensures in
    rw (lt-leb scratch_bound (length s.args.scratch.now) other.if-scratch-lt-SCRATCH.true) (record { stores = stored.stores; short = omega (arith, stored.short) })

pub returns : goal.returns
unfolding tables_text
returns c =
    let other = c in
    let s = other.before.before.before in
    rw (le-leb scratch_bound (length s.args.scratch.now) other.if-scratch-lt-SCRATCH.false)
    (record { stores = c.write_lines.ensures; short = universal_lines_short _ _ s.args.tables.admitted })
