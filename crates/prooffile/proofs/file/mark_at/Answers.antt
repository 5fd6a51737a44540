-- `mark_at` compares the number that the four bytes write. Assumes nothing.
use Prim.Native.Nat.{ℕ}
use mathlib.Core.Path.{ap, ◌∙◌}
use native.Mathlib.Omega.{arith}
use lib.Dec.{eqb}
use Rattle.prooffile.specs.File.Laws.{mark_number}
use Rattle.prooffile.proofs.file.mark_at.Goals as goal

pub returns : goal.returns
returns c =
    let s = c.args in
    ap (λ (n : ℕ). eqb n 827475025) c.number_at.ensures
    ∙ mark_number s.bytes.now s.at (λ i. omega (arith, c.shared_slice_known-1.given i))
