-- `write_tables` stores the header, the prefix lines and the clause lines. Assumes nothing.
use Rattle.std.proofs.Common.{ℤ, ℕ, ◌≡◌, List, ◌+◌, ◌++◌, ◌<◌, ◌^◌, length, arith}
use Rattle.formula.specs.Store.Laws.{stores_append, below_first, below_rest}
use Rattle.formula.specs.Prefix.{prefix_of}
use Rattle.formula.specs.Tables.{zeros, Admitted}
use Rattle.formula.specs.Write.{largest, header_text}
use Rattle.formula.specs.Write.Stream.{prefix_text, clauses_text}
use Rattle.formula.proofs.Theorems.Write.Lines.{written_parts}
use Rattle.formula.proofs.Theorems.Write.Length.{clauses_bounded, written_below}
use Rattle.formula.proofs.write.write_tables.Goals as goal

-- the text in its parts stays below what a place can be
below_parts :
    (p q : List ℤ) (top count : ℕ) → Admitted p q → top ≡ largest (prefix_of p) → count ≡ zeros q
    → 0 + length (header_text top count ++ (prefix_text 0 (prefix_of p) ++ clauses_text q)) < 2 ^ 64
below_parts p q top count a t e = rw (written_parts p q top count a t e) at (written_below p q a)

pub write_header-at-requires : goal.write_header-at-requires
write_header-at-requires c =
    let t = c.args.tables in
    let top = c.largest_variable-top in
    omega (
      arith,
      below_first 0 (header_text top.result c.args.count) (prefix_text 0 (prefix_of t.prefix.now) ++ clauses_text t.clauses.now)
          (below_parts t.prefix.now t.clauses.now top.result c.args.count t.admitted (rw c.entries-prefix.ensures at top.ensures) c.requires),
    )

pub write_prefix-at-requires : goal.write_prefix-at-requires
write_prefix-at-requires c =
    let t = c.args.tables in
    let top = c.largest_variable-top in
    let parts = below_parts t.prefix.now t.clauses.now top.result c.args.count t.admitted (rw c.entries-prefix.ensures at top.ensures) c.requires in
    let behind = below_rest (prefix_text 0 (prefix_of t.prefix.now) ++ clauses_text t.clauses.now) parts c.write_header-at.ensures in
    rw c.entries-prefix.ensures (below_first c.write_header-at.result (prefix_text 0 (prefix_of t.prefix.now)) (clauses_text t.clauses.now) behind)

pub write_clauses-requires-clause-bounded : goal.write_clauses-requires-clause-bounded
write_clauses-requires-clause-bounded c = let t = c.args.tables in clauses_bounded t.prefix.now t.clauses.now t.admitted

pub write_clauses-requires-clause-place_fits : goal.write_clauses-requires-clause-place_fits
write_clauses-requires-clause-place_fits c =
    let t = c.args.tables in
    let top = c.largest_variable-top in
    let parts = below_parts t.prefix.now t.clauses.now top.result c.args.count t.admitted (rw c.entries-prefix.ensures at top.ensures) c.requires in
    let behind = below_rest (prefix_text 0 (prefix_of t.prefix.now) ++ clauses_text t.clauses.now) parts c.write_header-at.ensures in
    below_rest (clauses_text t.clauses.now) behind (rw c.entries-prefix.ensures at c.write_prefix-at.ensures)

pub returns : goal.returns
returns c =
    let t = c.args.tables in
    let top = c.largest_variable-top in
    rw (written_parts t.prefix.now t.clauses.now top.result c.args.count t.admitted (rw c.entries-prefix.ensures at top.ensures) c.requires)
    (stores_append c.write_header-at.ensures (stores_append (rw c.entries-prefix.ensures at c.write_prefix-at.ensures) c.write_clauses.ensures))
