-- `find_blocker`: the first entry from here on that blocks is the first of all, none before having blocked. Assumes nothing.
use Prim.Native.Nat.{◌<◌}
use mathlib.Core.Path.{ap}
use native.Mathlib.Omega.{arith}
use lib.ListN.{length}
use Rattle.formula.specs.Prefix.{prefix_of}
use Rattle.formula.specs.Prefix.Laws.{block_variable, entry_at_ranged}
use Rattle.formula.specs.declared.refusal.Blocker.{Blocker}
use Rattle.inference.proofs.blocked.find_blocker.Goals as goal

pub blocks-requires : goal.blocks-requires
blocks-requires c =
    let prefix = c.args.prefix.words.now in
    let i = c.loop-i.i in
    let below : i < length (prefix_of prefix) = omega (arith, c.count-i-end.ensures, c.loop-i-test.true) in
    let v = block_variable 0 0 (prefix_of prefix) i below in
    let b = ap (λ (b : Blocker). b.variable.0) c.blocker_at-blocker.ensures in
    omega (arith, b, v, (entry_at_ranged prefix c.args.prefix.entries i below).1)
