-- `make_row` searches, stores the row and clears all else. Assumes nothing.
use Prim.Native.Nat.{ℕ}
use mathlib.Core.Path.{◌≡◌}
use mathlib.Core.List.{List}
use native.Mathlib.Omega.{arith}
use lib.ListN.{length, take}
use lib.Seq.{length-take-le}
use Rattle.dependency.specs.Row.Laws.{universal_range}
use Rattle.dependency.specs.Scratch.{row_in}
use Rattle.dependency.specs.Scratch.Laws.{row_alone}
use Rattle.dependency.specs.Bits.Row.{row_stored}
use Rattle.dependency.proofs.row.make_row.Goals as goal

pub search-requires : goal.search-requires
search-requires c =
    let u = c.args.universal in
    let t = u.tables in
    universal_range t.prefix.now t.clauses.now t.admitted u.variable.0 u.listed

-- the bytes before the row
front_length : (work : List ℕ) → length work ≡ 640 → length (take 256 work) ≡ 256
front_length work size = length-take-le 256 work (omega (arith, size))

pub returns : goal.returns
unfolding row_in
returns c =
    let a = c.args in
    let u = a.universal in
    let t = u.tables in
    let filled = c.fill_row.new.work in
    let size = c.fill_row.array_long in
    let range = universal_range t.prefix.now t.clauses.now t.admitted u.variable.0 u.listed in
    row_alone _ _ filled c.clear_tail.new.buffer _ size (front_length filled size) c.clear_tail.ensures c.clear_tail-2.ensures
    (row_stored t.prefix.now t.clauses.now t.admitted u.variable.0 range c.search.new.marks c.search.ensures filled size c.fill_row.ensures)
