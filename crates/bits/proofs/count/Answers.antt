-- The chain adds up each byte's ones, and those are the flags that are 1. Assumes nothing.
use Rattle.std.proofs.Common.{◌∙◌, arith, rules, tests}
use Rattle.std.specs.Int.Count.{ones}
use Rattle.std.proofs.lemmas.Iterator.{YieldsList-from_slice, YieldsList-from_map}
use Rattle.std.proofs.lemmas.Iterator.Consumers.{sum_by_from_yields_List}
use Rattle.bits.specs.Flags.Laws.{total_ones}
use Rattle.bits.proofs.count.Goals as goal

pub returns : goal.returns
returns c =
    let bs = c.args.bytes.now in
    sum_by_from_yields_List ones bs c.map.result c.sum.result c.sum.ensures.ran (YieldsList-from_map _ ones (YieldsList-from_slice bs cc) c.map.ensures.closure (λ x r q k. search (rules, tests))) ∙ total_ones bs (λ k. let b = c.type_inv.bytes k in omega arith)
