-- `count_free` counts the marks of free variables. Assumes nothing.
use Rattle.std.proofs.Common.{◌≡◌, ◌∙◌, arith, ◌-◌, ◌+◌, take, drop, rules, tests}
use Rattle.std.proofs.lemmas.Iterator.{YieldsList-from_slice}
use Rattle.std.proofs.lemmas.Iterator.Consumers.{YieldsList-from_filter, count_from_yields_List}
use Rattle.std.proofs.lemmas.List.Sums.{length-filter}
use Rattle.formula.specs.Free.Complete.{is_free_mark}
use Rattle.formula.proofs.Theorems.Free.Complete.Laws.{marked_free}
use Rattle.formula.proofs.free.count_free.Goals as goal

pub returns : goal.returns
returns c =
    let marks = c.args.marks.now in
    let part = take (c.args.variables + 1 - 1) (drop 1 marks) in
    let all : c.args.variables + 1 - 1 ≡ c.args.variables = omega arith in
    count_from_yields_List c.filter.result c.count.result c.count.ensures.ran (YieldsList-from_filter _ is_free_mark (YieldsList-from_slice part cc) c.filter.ensures.closure (λ x r q k. search (rules, tests)))
    ∙ length-filter is_free_mark part ∙ rw all (marked_free marks c.args.variables (omega arith))
