-- `number_at` reads four bytes within the slice. Assumes nothing.
use native.Mathlib.Omega.{arith}
use Rattle.prooffile.specs.File.{number4, number_at}
use Rattle.prooffile.proofs.file.number_at.Goals as goal

pub returns : goal.returns
unfolding number_at number4
returns c = omega (arith, c.from_le_bytes.ensures)
