-- `program_line` lends `check_line` the programs' room. Assumes nothing.
use Prim.Native.Nat.{ℕ}
use lib.IntN.{ℤ, pos}
use lib.ListN.{replicate, length-replicate}
use Rattle.dependency.specs.Scratch.{scratch_bound}
use Rattle.report.specs.Check.{lent}
use Rattle.report.specs.Line.{file_bound}
use Rattle.report.specs.Program.Laws.{line_printed}
use Rattle.report.proofs.program.program_line.Goals as goal

pub returns : goal.returns
returns c =
    let called = c in
    line_printed
    {room = lent file_bound (replicate 3072 (pos 0)) (replicate 16384 (pos 0)) (replicate 16384 (pos 0)) (replicate scratch_bound 0) (replicate 16384 0)}
    (rw (length-replicate {0} {A = ℤ} 3072 (pos 0), length-replicate {0} {A = ℤ} 16384 (pos 0), length-replicate {0} {A = ℕ} scratch_bound 0, length-replicate {0} {A = ℕ} 16384 0))
    called.check_line.ensures
