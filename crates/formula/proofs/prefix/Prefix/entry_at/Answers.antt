-- `entry_at` shows the entry of the words at its place. Assumes nothing.
use Prim.Native.Nat.{◌+◌, ◌*◌, ◌≤◌, ◌<◌}
use mathlib.Core.Path.{◌≡◌, ap, sym, ◌∙◌}
use native.Mathlib.Omega.{arith}
use borrow.Author.Rules.{rules}
use borrow.Author.Tests.{ne_eqb}
use lib.ListN.{length, get_or}
use lib.IntN.{ℤ, pos}
use mir.Syntax.{w32}
use mir.Val.{to_z, of_z}
use Rattle.qbf.specs.Formula.{Entry}
use Rattle.formula.specs.Bounds.{variable_bound, in_range}
use Rattle.formula.specs.Bounds.Laws.{variable_made, variable_refused, above_range}
use Rattle.formula.specs.Word.{ordinal}
use Rattle.formula.specs.Word.Laws.{ordinal_bounded}
use Rattle.formula.specs.Prefix.{entry_at}
use Rattle.formula.specs.Prefix.Laws.{entry_count_lem, entry_word_lem, entry_at_ranged}
use Rattle.formula.proofs.prefix.Prefix.entry_at.Tie as tie
use Rattle.formula.proofs.prefix.Prefix.entry_at.Lts as lts
use Rattle.formula.proofs.prefix.Prefix.entry_at.Reads as reads
use Rattle.formula.proofs.prefix.Prefix.entry_at.Goals as goal

-- the record is one of the table
below : (c : lts.Start tie.the-claims reads.Pre reads.Post) → 3 * c.args.place + 2 < length c.args.self.words.now
below c = omega (arith, entry_count_lem c.args.self.words.now, c.requires)

-- its first two words
abbrev first : (c : lts.Start tie.the-claims reads.Pre reads.Post) → ℤ
first c = get_or c.args.self.words.now (3 * c.args.place) (pos 0)

abbrev second : (c : lts.Start tie.the-claims reads.Pre reads.Post) → ℤ
second c = get_or c.args.self.words.now (3 * c.args.place + 1) (pos 0)

told : (c : lts.After-ordinal tie.the-claims reads.Pre reads.Post) → c.ordinal.result ≡ ordinal (first c.before.before)
told c = let e : to_z w32 (of_z w32 (first c.before.before)) ≡ first c.before.before = search rules in rw e at c.ordinal.ensures

told_2 : (c : lts.After-ordinal2 tie.the-claims reads.Pre reads.Post) → c.ordinal-in-Some.result ≡ ordinal (second c.before.before.before.before.before.before)
told_2 c =
    let s = c.before.before.before.before.before.before in
    let e : to_z w32 (of_z w32 (second s)) ≡ second s = search rules in
    rw e at c.ordinal-in-Some.ensures

-- the variable made
made : (c : lts.Past-After-known_told tie.the-claims reads.Pre reads.Post) → ordinal (first c.before.before.before.before) ≡ c.in-Some.v.0
made c =
    let n = c.ordinal.result in
    let m = variable_made (in_range n variable_bound) n c.in-Some.v (sym c.new.ensures ∙ c.in-Some.is) in
    sym (told c.before.before) ∙ m.1

pub overflow_mul-at : goal.overflow_mul-at
overflow_mul-at c = let h = below c in search rules

pub offset_bounds-self-at : goal.offset_bounds-self-at
offset_bounds-self-at c = let h = below c in search rules

pub bounds-self-at : goal.bounds-self-at
bounds-self-at c = omega (arith, below c)

pub overflow_add-at : goal.overflow_add-at
overflow_add-at c = let h = below c.before.before.before.before in search rules

pub offset_bounds-self-at-in-Some : goal.offset_bounds-self-at-in-Some
offset_bounds-self-at-in-Some c = let h = below c.before.before.before.before in search rules

pub bounds-self-at-in-Some : goal.bounds-self-at-in-Some
bounds-self-at-in-Some c = omega (arith, below c.before.before.before.before)

pub returns-then-ordinal-eq2 : goal.returns-then-ordinal-eq2
returns-then-ordinal-eq2 c =
    let s = c.before.before.before.before.before.before.before in
    let q : ordinal (second s) ≡ 2 = sym (told_2 c.before) ∙ c.if-ordinal-eq2.true in
    rw (entry_word_lem s.args.self.words.now s.args.place s.requires, made c.before.before.before, q)

pub returns-in-None : goal.returns-in-None
returns-in-None c =
    let s = c.before.before.before.before.before in
    let n = c.ordinal.result in
    let outside = variable_refused (in_range n variable_bound) n (sym c.new.ensures ∙ c.in-None.is) in
    let w : (entry_at s.args.self.words.now s.args.place).variable ≡ ordinal (first s) = ap (λ (x : Entry). x.variable) (entry_word_lem s.args.self.words.now s.args.place s.requires) in
    let least : 1 ≤ n = rw (told c.before.before.before, ← w) (entry_at_ranged s.args.self.words.now s.args.self.entries s.args.place s.requires).0 in
    absurd (omega (arith, above_range n variable_bound least outside, told c.before.before.before, ordinal_bounded (first s)))

pub returns-else-ordinal-eq2 : goal.returns-else-ordinal-eq2
returns-else-ordinal-eq2 c =
    let s = c.before.before.before.before.before.before.before in
    let q : ordinal (second s) ≡ 2 → ⊥ = λ e. c.if-ordinal-eq2.false (told_2 c.before ∙ e) in
    rw (entry_word_lem s.args.self.words.now s.args.place s.requires, made c.before.before.before, ne_eqb (ordinal (second s)) 2 q)
