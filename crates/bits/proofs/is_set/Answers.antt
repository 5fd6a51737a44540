-- `is_set` reads its bit. Assumes nothing.
use mathlib.Core.Path.{ap, sym}
use Prim.Native.Nat.{ℕ}
use lib.Dec.{eqb}
use Rattle.bits.specs.Flags.Laws.{flag_at}
use Rattle.bits.proofs.is_set.Goals as goal

pub returns : goal.returns
returns c =
    let a = c.before.args in
    ap (λ (n : ℕ). eqb n 1) (sym (flag_at a.bytes.now a.i c.before.requires))
