-- `literals_end` goes on while words are literals of listed variables: the end found from here is the same. Assumes nothing.
use Prim.Native.Nat.{ℕ, ◌≤◌}
use mathlib.Core.Path.{◌≡◌, ap, sym, ◌∙◌}
use native.Mathlib.Numerals.{add-one}
use native.Mathlib.Omega.{arith}
use borrow.Author.Rules.{rules}
use lib.ListN.{length, get_or, drop, drop_of_length-le}
use lib.IntN.{ℤ, pos, nat_abs}
use Rattle.formula.specs.Bounds.{variable_bound}
use Rattle.formula.specs.Word.{word_of, variable_of}
use Rattle.formula.specs.Word.Laws.{variable_zero, variable_above, variable_within}
use Rattle.formula.specs.Tables.{listed_in}
use Rattle.formula.specs.Tables.Scan.{plain_run}
use Rattle.formula.proofs.Scan.{plain_at_zero, plain_at_large, plain_at_unknown, plain_at_known}
use Rattle.formula.proofs.tables.literals_end.Goals as goal

-- a word read back from its bits
read : (w v : ℤ) (n : ℕ) → n ≡ variable_of (word_of v) → v ≡ w → n ≡ variable_of (word_of w)
read w v n e p = e ∙ ap (λ (k : ℤ). variable_of (word_of k)) p

-- a number that is not above the bound is the word's magnitude
magnitude : (w : ℤ) (n : ℕ) → n ≡ variable_of (word_of w) → n ≤ variable_bound → n ≡ nat_abs w
magnitude w n e l = e ∙ variable_within w (rw e at l)

pub returns-then-v-lt1 : goal.returns-then-v-lt1
returns-then-v-lt1 c =
    let l = c.loop-i in
    let a = c.args in
    let w = get_or a.clauses.now l.i (pos 0) in
    let v : c.variable-v.result ≡ variable_of (word_of w) = read _ _ _ c.variable-v.ensures (search rules) in
    let e = plain_at_zero (listed_in a.listed.table.now) a.clauses.now l.i (search rules) (variable_zero w (rw v at c.if-v-lt1.true)) in
    omega (arith, e, l.invariant)

pub returns-then-v-gt-MAX : goal.returns-then-v-gt-MAX
returns-then-v-gt-MAX c =
    let l = c.loop-i in
    let a = c.args in
    let w = get_or a.clauses.now l.i (pos 0) in
    let v : c.variable-v.result ≡ variable_of (word_of w) = read _ _ _ c.variable-v.ensures (search rules) in
    let e = plain_at_large (listed_in a.listed.table.now) a.clauses.now l.i (search rules) (variable_above w (rw v at c.if-v-gt-MAX.true)) in
    omega (arith, e, l.invariant)

pub loop-i-preserved : goal.loop-i-preserved
loop-i-preserved c =
    let l = c.loop-i in
    let a = c.args in
    let w = get_or a.clauses.now l.i (pos 0) in
    let v : c.variable-v.result ≡ nat_abs w = magnitude w _ (read _ _ _ c.variable-v.ensures (search rules)) c.if-v-gt-MAX.false in
    let listed = rw v at c.has.ensures in
    let e = plain_at_known (listed_in a.listed.table.now) a.clauses.now l.i (search rules) (rw v at c.if-v-lt1.false) (rw v at c.if-v-gt-MAX.false) (sym listed ∙ c.if-not-has.false) in
    rw add-one (omega (arith, e, l.invariant))

pub returns-then-not-has : goal.returns-then-not-has
returns-then-not-has c =
    let l = c.loop-i in
    let a = c.args in
    let w = get_or a.clauses.now l.i (pos 0) in
    let v : c.variable-v.result ≡ nat_abs w = magnitude w _ (read _ _ _ c.variable-v.ensures (search rules)) c.if-v-gt-MAX.false in
    let listed = rw v at c.has.ensures in
    let e = plain_at_unknown (listed_in a.listed.table.now) a.clauses.now l.i (search rules) (sym listed ∙ c.if-not-has.true) in
    omega (arith, e, l.invariant)

pub returns : goal.returns
unfolding plain_run
returns c =
    let l = c.loop-i in
    let a = c.args in
    let h : length a.clauses.now ≤ l.i = omega arith in
    let e : plain_run (listed_in a.listed.table.now) (drop l.i a.clauses.now) ≡ 0 =
    ap (plain_run (listed_in a.listed.table.now)) (drop_of_length-le a.clauses.now h) in
    omega (arith, e, l.invariant)
