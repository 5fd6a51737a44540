-- `check_entry` judges the record word by word. Assumes nothing.
use Prim.Native.Nat.{ℕ, ◌+◌, ◌≤◌, ◌<◌}
use mathlib.Core.Path.{◌≡◌, refl, ap, sym, ◌∙◌}
use mathlib.Core.Bool.{Bool, true, false, ◌||◌}
use mathlib.Core.List.{List, ◌∷◌}
use native.Mathlib.Omega.{arith}
use borrow.Author.Rules.{rules}
use borrow.Author.Tests.{lt-ltb, eq-eqb, ne_eqb}
use lib.ListN.{get_or, take, drop}
use lib.Dec.{eqb}
use lib.IntN.{ℤ, pos}
use Rattle.formula.specs.Bounds.{variable_bound}
use Rattle.formula.specs.Word.{ordinal}
use Rattle.formula.specs.Word.Laws.{ordinal_bounded}
use Rattle.formula.specs.Prefix.{next_block}
use Rattle.formula.specs.Prefix.Laws.{block_bound}
use Rattle.formula.specs.Tables.{is_in, listed_in, prefix_refusal}
use Rattle.formula.specs.Tables.Scan.{Lists}
use Rattle.formula.proofs.Record.{record_judged, listed_before}
use Rattle.formula.proofs.Scan.{listing_add}
use Rattle.formula.proofs.tables.check_entry.Goals as goal

-- the number that a word is
abbrev number : List ℤ → ℕ → ℕ
number ws k = ordinal (get_or ws k (pos 0))

-- the variable is in range
bounded : (ws : List ℤ) (at v : ℕ) → v ≡ number ws at → v ≤ variable_bound
bounded ws at v e = omega (arith, e, ordinal_bounded (get_or ws at (pos 0)))

-- a word read back from its bits
read : (w v : ℤ) (n : ℕ) → n ≡ ordinal v → v ≡ w → n ≡ ordinal w
read w v n e p = e ∙ ap ordinal p

pub returns-then-v-lt1 : goal.returns-then-v-lt1
returns-then-v-lt1 c seen m =
    let a = c.args in
    let ws = a.prefix.now in
    let v : c.ordinal-v.result ≡ number ws a.at = read _ _ _ c.ordinal-v.ensures (search rules) in
    let none : number ws a.at ≡ 0 = omega (arith, v, c.if-v-lt1.true) in
    record_judged ws a.at c.requires.at_in_bounds.0 seen a.last.quantifier a.last.block ∙ rw (none, c.new.ensures)

pub has-requires : goal.has-requires
has-requires c =
    let a = c.args in
    (search rules, bounded a.prefix.now a.at _ (read _ _ _ c.ordinal-v.ensures (search rules)))

pub mark-requires-clause-in_range : goal.mark-requires-clause-in_range
mark-requires-clause-in_range c =
    let a = c.args in
    (search rules, bounded a.prefix.now a.at _ (read _ _ _ c.ordinal-v.ensures (search rules)))

-- a variable that was looked for among those listed, said of the variables seen
looked_for :
    (ws : List ℤ) (at v : ℕ) (r : Bool) (seen : List ℕ) → v ≡ number ws at → r ≡ listed_in (take at ws) v → Lists (take at ws) seen
    → is_in (number ws at) seen ≡ r
looked_for ws at v r seen e l m = m.says (number ws at) ∙ ap (listed_in (take at ws)) (sym e) ∙ sym l

pub returns-then-has : goal.returns-then-has
returns-then-has c seen m =
    let a = c.args in
    let ws = a.prefix.now in
    let v : c.ordinal-v.result ≡ number ws a.at = read _ _ _ c.ordinal-v.ensures (search rules) in
    let positive : 0 < number ws a.at = omega (arith, v, c.if-v-lt1.false) in
    let again : is_in (number ws a.at) seen ≡ true = looked_for ws a.at _ _ seen v c.has.ensures m ∙ c.if-has.true in
    record_judged ws a.at c.requires.at_in_bounds.0 seen a.last.quantifier a.last.block ∙ rw (lt-ltb 0 (number ws a.at) positive, again, c.new-then-has.ensures)

pub returns-then-ordinal-due : goal.returns-then-ordinal-due
returns-then-ordinal-due c =
    let a = c.args in
    let ws = a.prefix.now in
    let at = a.at in
    let v : c.ordinal-v.result ≡ number ws at = read _ _ _ c.ordinal-v.ensures (search rules) in
    let q : c.ordinal-quantifier.result ≡ number ws (at + 1) = read _ _ _ c.ordinal-quantifier.ensures (search rules) in
    let r : c.ordinal.result ≡ number ws (at + 2) = read _ _ _ c.ordinal.ensures (search rules) in
    let due = rw q at c.next_block-due.ensures in
    let known = rw q at c.if-quantifier.true in
    let b : number ws (at + 2) ≡ next_block a.last.quantifier a.last.block (number ws (at + 1)) = sym r ∙ c.if-ordinal-due.true ∙ due in (
      λ seen m.
          let positive : 0 < number ws at = omega (arith, v, c.if-v-lt1.false) in
          let new : is_in (number ws at) seen ≡ false = looked_for ws at _ _ seen v c.has.ensures m ∙ c.if-has.false in
          record_judged ws at c.requires.at_in_bounds.0 seen a.last.quantifier a.last.block
          ∙ rw (lt-ltb 0 (number ws at) positive, new, known, b, eq-eqb (next_block a.last.quantifier a.last.block (number ws (at + 1))) _ refl)
          (λ i. prefix_refusal (at + 3) (number ws at ∷ seen) (sym q i) (sym due i) (drop (at + 3) ws)),
      listing_add
          c.ordinal-v.result
          c.if-v-lt1.false
          (bounded ws at _ v)
          c.requires.listing
          c.mark.auto.marks
          c.mark.ensures
          (λ u. listed_before ws at c.requires.at_in_bounds.1 c.requires.at_in_bounds.0 u ∙ ap (λ (n : ℕ). listed_in (take at ws) u || eqb u n) (sym v)),
      rw c.next_block-due.ensures (block_bound a.last.quantifier a.last.block c.ordinal-quantifier.result),
    )

pub returns-then-quantifier : goal.returns-then-quantifier
returns-then-quantifier c seen m =
    let a = c.args in
    let ws = a.prefix.now in
    let at = a.at in
    let v : c.ordinal-v.result ≡ number ws at = read _ _ _ c.ordinal-v.ensures (search rules) in
    let q : c.ordinal-quantifier.result ≡ number ws (at + 1) = read _ _ _ c.ordinal-quantifier.ensures (search rules) in
    let r : c.ordinal.result ≡ number ws (at + 2) = read _ _ _ c.ordinal.ensures (search rules) in
    let due = rw q at c.next_block-due.ensures in
    let known = rw q at c.if-quantifier.true in
    let positive : 0 < number ws at = omega (arith, v, c.if-v-lt1.false) in
    let new : is_in (number ws at) seen ≡ false = looked_for ws at _ _ seen v c.has.ensures m ∙ c.if-has.false in
    let b : number ws (at + 2) ≡ next_block a.last.quantifier a.last.block (number ws (at + 1)) → ⊥ = λ e. c.if-ordinal-due.false (r ∙ e ∙ sym due) in
    record_judged ws at c.requires.at_in_bounds.0 seen a.last.quantifier a.last.block
    ∙ rw (lt-ltb 0 (number ws at) positive, new, known, ne_eqb (number ws (at + 2)) (next_block a.last.quantifier a.last.block (number ws (at + 1))) b, c.new-then-quantifier.ensures)

pub returns : goal.returns
returns c seen m =
    let a = c.args in
    let ws = a.prefix.now in
    let at = a.at in
    let v : c.ordinal-v.result ≡ number ws at = read _ _ _ c.ordinal-v.ensures (search rules) in
    let q : c.ordinal-quantifier.result ≡ number ws (at + 1) = read _ _ _ c.ordinal-quantifier.ensures (search rules) in
    let positive : 0 < number ws at = omega (arith, v, c.if-v-lt1.false) in
    let new : is_in (number ws at) seen ≡ false = looked_for ws at _ _ seen v c.has.ensures m ∙ c.if-has.false in
    let unknown = rw q at c.if-quantifier.false in
    record_judged ws at c.requires.at_in_bounds.0 seen a.last.quantifier a.last.block
    ∙ rw (lt-ltb 0 (number ws at) positive, new, unknown, c.new-2.ensures)
