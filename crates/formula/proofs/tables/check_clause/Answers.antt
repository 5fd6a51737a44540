-- `check_clause`: the run of literals, the search for a clash among them, then the word after them; each outcome is a law of
-- Scan.antt. Assumes nothing.
use Prim.Native.Nat.{ℕ, ◌+◌, ◌-◌, ◌≤◌}
use mathlib.Core.Path.{◌≡◌, ap, ◌∙◌}
use mathlib.Core.List.{List, []}
use native.Mathlib.Omega.{arith}
use lib.ListN.{length, get_or, take, drop, length-drop}
use lib.IntN.{ℤ, pos}
use Rattle.formula.specs.Word.{word_of, variable_of}
use Rattle.formula.specs.Word.Laws.{variable_zero, variable_above, variable_within}
use Rattle.formula.specs.Tables.{listed_in}
use Rattle.formula.specs.Tables.Scan.{plain_run, clash_free}
use Rattle.formula.proofs.Scan.{run_within, run_range, clause_clash, clause_unfinished, clause_closed, clause_large, clause_unbound}
use borrow.Author.Rules.{rules}
use Rattle.formula.proofs.tables.check_clause.Goals as goal

-- the run from a place, how far it goes without a clash, and the word after it
abbrev run : List ℤ → List ℤ → ℕ → ℕ
run ps ws from = plain_run (listed_in ps) (drop from ws)

abbrev free : List ℤ → List ℤ → ℕ → ℕ
free ps ws from = clash_free [] (take (run ps ws from) (drop from ws))

abbrev stop : List ℤ → List ℤ → ℕ → ℤ
stop ps ws from = get_or ws (from + run ps ws from) (pos 0)

-- the run is within the table
run_fits : (ps ws : List ℤ) (from end : ℕ) → from ≤ length ws → end ≡ from + run ps ws from → end ≤ length ws
run_fits ps ws from end l e =
    let w : run ps ws from ≤ length ws - from = rw (length-drop from ws) at (run_within (listed_in ps) (drop from ws)) in
    omega arith

-- its length is where it ends less where it begins
run_length : (ps ws : List ℤ) (from end : ℕ) → end ≡ from + run ps ws from → end - from ≡ run ps ws from
run_length ps ws from end e = omega arith

-- the variable of the word after it, read back from its bits
stop_variable :
    (ps ws : List ℤ) (from end : ℕ) (v : ℤ) (n : ℕ) → end ≡ from + run ps ws from → n ≡ variable_of (word_of v) → v ≡ get_or ws end (pos 0)
    → n ≡ variable_of (word_of (stop ps ws from))
stop_variable ps ws from end v n e q p = q ∙ ap (λ (k : ℤ). variable_of (word_of k)) p ∙ ap (λ (k : ℕ). variable_of (word_of (get_or ws k (pos 0)))) e

pub slice_bounds-find_clash-end : goal.slice_bounds-find_clash-end
slice_bounds-find_clash-end c = let a = c.args in run_fits a.listed.table.now a.clauses.now a.from _ (search rules) c.literals_end-end.ensures

pub find_clash-clash-requires : goal.find_clash-clash-requires
find_clash-clash-requires c =
    let a = c.args in
    rw (run_length a.listed.table.now a.clauses.now a.from _ c.literals_end-end.ensures) (run_range (listed_in a.listed.table.now) (drop a.from a.clauses.now))

pub returns-then-clash-end : goal.returns-then-clash-end
returns-then-clash-end c =
    let a = c.args in
    let l = run_length a.listed.table.now a.clauses.now a.from _ c.literals_end-end.ensures in
    let f : c.find_clash-clash.result ≡ free a.listed.table.now a.clauses.now a.from = rw l at c.find_clash-clash.ensures in
    rw (c.new.ensures, f) (clause_clash (listed_in a.listed.table.now) a.clauses.now a.from (omega (arith, f, l, c.if-clash-end.true)))

pub returns-then-clauses-end : goal.returns-then-clauses-end
returns-then-clauses-end c =
    let a = c.args in
    let e = c.literals_end-end.ensures in
    let l = run_length a.listed.table.now a.clauses.now a.from _ e in
    let f : c.find_clash-clash.result ≡ free a.listed.table.now a.clauses.now a.from = rw l at c.find_clash-clash.ensures in
    rw (c.new-then-clauses-end.ensures, e)
    (clause_unfinished (listed_in a.listed.table.now) a.clauses.now a.from (omega (arith, f, l, c.if-clash-end.false)) (search rules) (rw e at c.if-clauses-end.true))

pub returns-then-v-lt1 : goal.returns-then-v-lt1
returns-then-v-lt1 c =
    let a = c.args in
    let e = c.literals_end-end.ensures in
    let l = run_length a.listed.table.now a.clauses.now a.from _ e in
    let f : c.find_clash-clash.result ≡ free a.listed.table.now a.clauses.now a.from = rw l at c.find_clash-clash.ensures in
    let v = stop_variable a.listed.table.now a.clauses.now a.from _ _ _ e c.variable-v.ensures (search rules) in
    rw e
    (clause_closed (listed_in a.listed.table.now) a.clauses.now a.from (omega (arith, f, l, c.if-clash-end.false)) (omega (arith, e, c.if-clauses-end.false)) (variable_zero _ (rw v at c.if-v-lt1.true)))

pub returns-then-v-gt-MAX : goal.returns-then-v-gt-MAX
returns-then-v-gt-MAX c =
    let a = c.args in
    let e = c.literals_end-end.ensures in
    let l = run_length a.listed.table.now a.clauses.now a.from _ e in
    let f : c.find_clash-clash.result ≡ free a.listed.table.now a.clauses.now a.from = rw l at c.find_clash-clash.ensures in
    let v = stop_variable a.listed.table.now a.clauses.now a.from _ _ _ e c.variable-v.ensures (search rules) in
    rw (c.new-then-v-gt-MAX.ensures, e)
    (clause_large (listed_in a.listed.table.now) a.clauses.now a.from (omega (arith, f, l, c.if-clash-end.false)) (omega (arith, e, c.if-clauses-end.false)) (variable_above _ (rw v at c.if-v-gt-MAX.true)))

pub returns : goal.returns
returns c =
    let a = c.args in
    let e = c.literals_end-end.ensures in
    let l = run_length a.listed.table.now a.clauses.now a.from _ e in
    let f : c.find_clash-clash.result ≡ free a.listed.table.now a.clauses.now a.from = rw l at c.find_clash-clash.ensures in
    let v = stop_variable a.listed.table.now a.clauses.now a.from _ _ _ e c.variable-v.ensures (search rules) in
    let w = v ∙ variable_within _ (rw v at c.if-v-gt-MAX.false) in
    rw (c.new-2.ensures, e)
    (clause_unbound (listed_in a.listed.table.now) a.clauses.now a.from (omega (arith, f, l, c.if-clash-end.false)) (omega (arith, e, c.if-clauses-end.false)) (rw w at c.if-v-lt1.false) (rw w at c.if-v-gt-MAX.false))
