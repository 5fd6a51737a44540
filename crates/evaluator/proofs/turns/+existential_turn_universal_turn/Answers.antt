-- The two turns. Each answer is that of the position's definition: what the laws of proofs/Position.antt say of the first
-- variable left, at the values that the calls leave. Assumes nothing.
use Prim.Native.Nat.{ℕ}
use mathlib.Core.Path.{◌≡◌, sym, ◌∙◌}
use mathlib.Core.Bool.{Bool}
use mathlib.Core.List.{List}
use native.Mathlib.Omega.{arith}
use lib.IntN.{ℤ}
use lib.ListN.{length, set, length-set}
use Rattle.qbf.specs.Literal.{Matrix}
use Rattle.qbf.specs.Formula.{Quantifier, existential, universal}
use Rattle.qbf.specs.Play.{lost}
use Rattle.formula.specs.Prefix.{prefix_of, entry_at, entry_count, later_entries, Entries}
use Rattle.evaluator.specs.Values.{values_of}
use Rattle.evaluator.specs.Turns.{Due}
use Rattle.evaluator.proofs.Position.{Opened, opened, universal_left, lost_none, hand_universal, hand_existential, Once, once_length, once_turn, Twice, twice_turn}
use Rattle.evaluator.proofs.turns.+existential_turn_universal_turn.Goals as goal

-- the first variable left, where the count of the variables is not 0, and where the universal side is due
module _ {n v : ℕ} {prefix rest : List ℤ} where
  opened_existential : {count : ℕ} → Entries prefix → Due existential n prefix → count ≡ entry_count prefix → (count ≡ 0 → ⊥)
      → v ≡ (entry_at prefix 0).variable → rest ≡ later_entries prefix → Opened existential n prefix v rest
  opened_existential r d k h e f = opened existential n prefix v rest r d (omega (arith, k, h)) e f

  opened_universal : Entries prefix → Due universal n prefix
      → v ≡ (entry_at prefix 0).variable → rest ≡ later_entries prefix → Opened universal n prefix v rest
  opened_universal r d e f = opened universal n prefix v rest r d (universal_left prefix d) e f

-- what the first call answered, and the second
module _ {q : Quantifier} {prefix rest : List ℤ} {v : ℕ} {M : Matrix} {zero-lost : Bool} {left : List ℕ} where
  once : (vs : List ℕ) → Opened q (length vs) prefix v rest
      → zero-lost ≡ lost (prefix_of rest) (values_of (set vs v 0)) M → left ≡ set vs v 0
      → Once q prefix rest vs v M zero-lost left
  once vs o e k = record { opening = o; zero = e; kept = k }

  twice : {vs last : List ℕ} {one-lost : Bool} → Once q prefix rest vs v M zero-lost left
      → one-lost ≡ lost (prefix_of rest) (values_of (set left v 1)) M → last ≡ set left v 1
      → Twice q prefix rest vs v M zero-lost one-lost left last
  twice w e k = record { once = w; one = e; kept = k }

pub existential_turn-returns-then-count-eq0-clause-value : goal.existential_turn-returns-then-count-eq0-clause-value
existential_turn-returns-then-count-eq0-clause-value t c =
    c.matrix_falsified.ensures ∙ sym (lost_none c.args.prefix.words.now _ _ (sym c.count.ensures ∙ c.if-count-eq0.true))

pub existential_turn-universal_turn-requires : goal.existential_turn-universal_turn-requires
existential_turn-universal_turn-requires t c =
    let o = opened_existential c.args.prefix.entries c.requires c.count.ensures c.if-count-eq0.false c.first_variable-e.ensures.value c.later-rest.ensures in
    hand_universal t _ o c.universal_due.result c.decreases (simp length-set) c.universal_due.ensures c.if-universal_due.true

pub existential_turn-universal_turn-lost-requires : goal.existential_turn-universal_turn-lost-requires
existential_turn-universal_turn-lost-requires t c =
    let o = opened_existential c.args.prefix.entries c.requires c.count.ensures c.if-count-eq0.false c.first_variable-e.ensures.value c.later-rest.ensures in
    let w = once c.args.values.now o c.universal_turn.ensures.value c.universal_turn.ensures.values_unchanged in
    hand_universal t _ o c.universal_due.result c.decreases (once_length w 1) c.universal_due.ensures c.if-universal_due.true

pub existential_turn-returns-then-universal_turn-clause-value : goal.existential_turn-returns-then-universal_turn-clause-value
existential_turn-returns-then-universal_turn-clause-value t c =
    let o = opened_existential c.args.prefix.entries c.requires c.count.ensures c.if-count-eq0.false c.first_variable-e.ensures.value c.later-rest.ensures in
    let w = once c.args.values.now o c.universal_turn.ensures.value c.universal_turn.ensures.values_unchanged in
    let x = twice w c.universal_turn-lost.ensures.value c.universal_turn-lost.ensures.values_unchanged in
    sym (rw c.if-universal_turn.true at (twice_turn x))

pub existential_turn-returns-else-universal_turn-clause-value : goal.existential_turn-returns-else-universal_turn-clause-value
existential_turn-returns-else-universal_turn-clause-value t c =
    let o = opened_existential c.args.prefix.entries c.requires c.count.ensures c.if-count-eq0.false c.first_variable-e.ensures.value c.later-rest.ensures in
    let w = once c.args.values.now o c.universal_turn.ensures.value c.universal_turn.ensures.values_unchanged in
    sym (rw c.if-universal_turn.false at (once_turn w))

pub existential_turn-existential_turn-requires : goal.existential_turn-existential_turn-requires
existential_turn-existential_turn-requires t c =
    let o = opened_existential c.args.prefix.entries c.requires c.count.ensures c.if-count-eq0.false c.first_variable-e.ensures.value c.later-rest.ensures in
    hand_existential t _ o c.universal_due.result c.decreases (simp length-set) c.universal_due.ensures c.if-universal_due.false

pub existential_turn-existential_turn-lost-requires : goal.existential_turn-existential_turn-lost-requires
existential_turn-existential_turn-lost-requires t c =
    let o = opened_existential c.args.prefix.entries c.requires c.count.ensures c.if-count-eq0.false c.first_variable-e.ensures.value c.later-rest.ensures in
    let w = once c.args.values.now o c.existential_turn.ensures.value c.existential_turn.ensures.values_unchanged in
    hand_existential t _ o c.universal_due.result c.decreases (once_length w 1) c.universal_due.ensures c.if-universal_due.false

pub existential_turn-returns-then-existential_turn-clause-value : goal.existential_turn-returns-then-existential_turn-clause-value
existential_turn-returns-then-existential_turn-clause-value t c =
    let o = opened_existential c.args.prefix.entries c.requires c.count.ensures c.if-count-eq0.false c.first_variable-e.ensures.value c.later-rest.ensures in
    let w = once c.args.values.now o c.existential_turn.ensures.value c.existential_turn.ensures.values_unchanged in
    let x = twice w c.existential_turn-lost.ensures.value c.existential_turn-lost.ensures.values_unchanged in
    sym (rw c.if-existential_turn.true at (twice_turn x))

pub existential_turn-returns-else-existential_turn-clause-value : goal.existential_turn-returns-else-existential_turn-clause-value
existential_turn-returns-else-existential_turn-clause-value t c =
    let o = opened_existential c.args.prefix.entries c.requires c.count.ensures c.if-count-eq0.false c.first_variable-e.ensures.value c.later-rest.ensures in
    let w = once c.args.values.now o c.existential_turn.ensures.value c.existential_turn.ensures.values_unchanged in
    sym (rw c.if-existential_turn.false at (once_turn w))

pub universal_turn-universal_turn-requires : goal.universal_turn-universal_turn-requires
universal_turn-universal_turn-requires t c =
    let o = opened_universal c.args.prefix.entries c.requires c.first_variable-u.ensures.value c.later-rest.ensures in
    hand_universal t _ o c.universal_due.result c.decreases (simp length-set) c.universal_due.ensures c.if-universal_due.true

pub universal_turn-universal_turn-lost-requires : goal.universal_turn-universal_turn-lost-requires
universal_turn-universal_turn-lost-requires t c =
    let o = opened_universal c.args.prefix.entries c.requires c.first_variable-u.ensures.value c.later-rest.ensures in
    let w = once c.args.values.now o c.universal_turn.ensures.value c.universal_turn.ensures.values_unchanged in
    hand_universal t _ o c.universal_due.result c.decreases (once_length w 1) c.universal_due.ensures c.if-universal_due.true

pub universal_turn-returns-else-universal_turn-clause-value : goal.universal_turn-returns-else-universal_turn-clause-value
universal_turn-returns-else-universal_turn-clause-value t c =
    let o = opened_universal c.args.prefix.entries c.requires c.first_variable-u.ensures.value c.later-rest.ensures in
    let w = once c.args.values.now o c.universal_turn.ensures.value c.universal_turn.ensures.values_unchanged in
    let x = twice w c.universal_turn-lost.ensures.value c.universal_turn-lost.ensures.values_unchanged in
    sym (rw c.if-universal_turn.false at (twice_turn x))

pub universal_turn-returns-then-universal_turn-clause-value : goal.universal_turn-returns-then-universal_turn-clause-value
universal_turn-returns-then-universal_turn-clause-value t c =
    let o = opened_universal c.args.prefix.entries c.requires c.first_variable-u.ensures.value c.later-rest.ensures in
    let w = once c.args.values.now o c.universal_turn.ensures.value c.universal_turn.ensures.values_unchanged in
    sym (rw c.if-universal_turn.true at (once_turn w))

pub universal_turn-existential_turn-requires : goal.universal_turn-existential_turn-requires
universal_turn-existential_turn-requires t c =
    let o = opened_universal c.args.prefix.entries c.requires c.first_variable-u.ensures.value c.later-rest.ensures in
    hand_existential t _ o c.universal_due.result c.decreases (simp length-set) c.universal_due.ensures c.if-universal_due.false

pub universal_turn-existential_turn-lost-requires : goal.universal_turn-existential_turn-lost-requires
universal_turn-existential_turn-lost-requires t c =
    let o = opened_universal c.args.prefix.entries c.requires c.first_variable-u.ensures.value c.later-rest.ensures in
    let w = once c.args.values.now o c.existential_turn.ensures.value c.existential_turn.ensures.values_unchanged in
    hand_existential t _ o c.universal_due.result c.decreases (once_length w 1) c.universal_due.ensures c.if-universal_due.false

pub universal_turn-returns-else-existential_turn-clause-value : goal.universal_turn-returns-else-existential_turn-clause-value
universal_turn-returns-else-existential_turn-clause-value t c =
    let o = opened_universal c.args.prefix.entries c.requires c.first_variable-u.ensures.value c.later-rest.ensures in
    let w = once c.args.values.now o c.existential_turn.ensures.value c.existential_turn.ensures.values_unchanged in
    let x = twice w c.existential_turn-lost.ensures.value c.existential_turn-lost.ensures.values_unchanged in
    sym (rw c.if-existential_turn.false at (twice_turn x))

pub universal_turn-returns-then-existential_turn-clause-value : goal.universal_turn-returns-then-existential_turn-clause-value
universal_turn-returns-then-existential_turn-clause-value t c =
    let o = opened_universal c.args.prefix.entries c.requires c.first_variable-u.ensures.value c.later-rest.ensures in
    let w = once c.args.values.now o c.existential_turn.ensures.value c.existential_turn.ensures.values_unchanged in
    sym (rw c.if-existential_turn.true at (once_turn w))
