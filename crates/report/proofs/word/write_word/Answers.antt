-- `write_word`: the reason's row of the list, up to its first dot, is the word of its row of the table. Assumes nothing.
use Prim.Native.Nat.{ℕ, ◌-◌, ◌≤◌}
use mathlib.Core.Path.{◌≡◌, sym, ◌∙◌}
use mathlib.Core.List.{List, []}
use native.Mathlib.Omega.{arith}
use lib.ListN.{length, get_or, take, length-take}
use Rattle.formula.specs.Refusal.{word}
use Rattle.report.specs.Word.Laws.{word_first, word_shorter, row_length, row_word}
use Rattle.report.proofs.word.write_word.Tie as tie
use Rattle.report.proofs.word.write_word.Lts as lts
use Rattle.report.proofs.word.write_word.Reads as reads
use Rattle.report.proofs.word.write_word.Goals as goal

abbrev row : (c : lts.After-number tie.the-claims reads.Pre reads.Post tie.handed_clauses) → List ℕ
row c = get_or c.words-rows.result (c.number.result - 1) []

long : (c : lts.After-number tie.the-claims reads.Pre reads.Post tie.handed_clauses) → length (row c) ≡ 14
long c = row_length c.words-rows.result c.words-rows.ensures c.number.result c.number.ensures.1

-- what stands before the dot, and how much that is
spelled : (c : lts.After-undotted tie.the-claims reads.Pre reads.Post tie.handed_clauses) → take c.undotted-length.result (row c.before.before.before) ≡ word c.args.reason
spelled c =
    let n = c.before.before.before in
    rw c.undotted-length.ensures (word_first (row n) ∙ row_word n.words-rows.result n.words-rows.ensures n.number.result n.number.ensures.1 n.args.reason n.number.ensures.0)

short : (c : lts.After-undotted tie.the-claims reads.Pre reads.Post tie.handed_clauses) → c.undotted-length.result ≤ 14
short c = omega (arith, c.undotted-length.ensures, word_shorter (row c.before.before.before), long c.before.before.before)

counted : (c : lts.After-undotted tie.the-claims reads.Pre reads.Post tie.handed_clauses) → length (take c.undotted-length.result (row c.before.before.before)) ≡ c.undotted-length.result
counted c = omega (arith, length-take c.undotted-length.result (row c.before.before.before), short c, long c.before.before.before)

pub write_bytes-requires : goal.write_bytes-requires
write_bytes-requires c =
    let u = c.before.before in
    omega (arith, counted u, short u, u.requires)

pub returns : goal.returns
returns c =
    let wrote = c.before.before.before in
    let u = wrote.before.before.before in record { stores = rw (spelled u) at wrote.write_bytes.ensures; upper_bound = omega (arith, wrote.write_bytes.ensures.reached, counted u, short u) }

pub slice_bounds-undotted-end : goal.slice_bounds-undotted-end
slice_bounds-undotted-end c = sym (long c.before.before.before)

pub slice_bounds-bytes-end : goal.slice_bounds-bytes-end
slice_bounds-bytes-end c = omega (arith, short c.before, long c.before.before.before.before)

pub slice_bounds-write_bytes-end : goal.slice_bounds-write_bytes-end
slice_bounds-write_bytes-end c = omega (arith, counted c.before.before)
