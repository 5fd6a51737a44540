-- `write_universal` makes the row of its universal and stores the line from it. Assumes nothing.
use mathlib.Core.Path.{◌≡◌}
use mathlib.Core.List.{List}
use Prim.Native.Nat.{ℕ}
use lib.IntN.{ℤ}
use Rattle.formula.specs.Decode.{formula_of}
use Rattle.formula.specs.Prefix.{prefix_of}
use Rattle.formula.specs.Tables.{Admitted}
use Rattle.formula.proofs.Theorems.Tables.Laws.{admitted_entries}
use Rattle.dependency.specs.Scratch.{row_in, RowMade}
use Rattle.report.specs.Dependents.{universal_line}
use Rattle.report.specs.Dependents.Listing.{row_line}
use Rattle.report.specs.Dependents.Laws.{row_line_is}
use Rattle.report.proofs.dependents.write_universal.Goals as goal

-- the line from the row that was made
line_at :
    (p q : List ℤ) → Admitted p q → (u : ℕ) (made : List ℕ) → RowMade (formula_of p q) u made
    → row_line (row_in made) (prefix_of p) u ≡ universal_line (formula_of p q) (prefix_of p) u
line_at p q a u made r = row_line_is (formula_of p q) u (row_in made) r.row p (admitted_entries p q a)

pub write_row_line-requires : goal.write_row_line-requires
write_row_line-requires c =
    let u = c.args.universal in
    let t = u.tables in
    rw (c.entries-entries.ensures, line_at t.prefix.now t.clauses.now t.admitted u.variable.0 c.make_row.new.work c.make_row.ensures) c.requires

pub returns : goal.returns
returns c =
    let u = c.args.universal in
    let t = u.tables in
    rw (← line_at t.prefix.now t.clauses.now t.admitted u.variable.0 c.make_row.new.work c.make_row.ensures) (rw c.entries-entries.ensures at c.write_row_line.ensures)
