-- `universal_due` looks at the first entry, if there is one. Assumes nothing.
use Prim.Native.Nat.{◌<◌, ◌≤◌}
use mathlib.Core.Path.{◌≡◌, refl, sym, ◌∙◌}
use mathlib.Core.Bool.{false}
use mathlib.Core.List.{[], ◌∷◌}
use native.Mathlib.Omega.{arith}
use native.Mathlib.Nat.{not-suc-le-zero}
use lib.ListN.{length, get_or}
use Rattle.qbf.specs.Formula.{Entry, entry, existential, universal, Prefix}
use Rattle.formula.specs.Prefix.{prefix_of, entry_at, entry_count, is_quantifier}
use Rattle.formula.specs.Prefix.Laws.{shown_existential, shown_universal}
use Rattle.evaluator.specs.Turns.{universal_due}
use Rattle.evaluator.proofs.turns.universal_due.Tie as tie
use Rattle.evaluator.proofs.turns.universal_due.Lts as lts
use Rattle.evaluator.proofs.turns.universal_due.Reads as reads
use Rattle.evaluator.proofs.turns.universal_due.Goals as goal

due_none : (P : Prefix) → length P ≤ 0 → false ≡ universal_due P
unfolding universal_due
due_none [] h = refl
due_none (x ∷ P) h = absurd (omega arith)

due_first : (P : Prefix) → 0 < length P → is_quantifier universal (get_or P 0 (entry 0 existential)).quantifier ≡ universal_due P
unfolding universal_due
due_first [] h = absurd (not-suc-le-zero h)
due_first (x ∷ P) h = refl

-- the first entry, and that there is one
abbrev shown : (c : lts.Start tie.the-claims reads.Pre reads.Post) → Entry
shown c = entry_at c.args.prefix.words.now 0

some_left : (c : lts.Then1 tie.the-claims reads.Pre reads.Post) → 0 < entry_count c.args.prefix.words.now
some_left c = omega (arith, c.count.ensures, c.if-count-gt0.true)

pub returns-in-Existential : goal.returns-in-Existential
returns-in-Existential c =
    let start = c.before.before.before.before in
    rw (shown_existential (shown start) _ (sym c.entry_at.ensures ∙ c.in-Existential.is)) at (due_first (prefix_of start.args.prefix.words.now) (some_left c.before.before))

pub returns-in-Universal : goal.returns-in-Universal
returns-in-Universal c =
    let start = c.before.before.before.before in
    rw (shown_universal (shown start) _ (sym c.entry_at.ensures ∙ c.in-Universal.is)) at (due_first (prefix_of start.args.prefix.words.now) (some_left c.before.before))

pub returns-else-count-gt0 : goal.returns-else-count-gt0
returns-else-count-gt0 c = due_none (prefix_of c.args.prefix.words.now) (omega (arith, c.count.ensures, c.if-count-gt0.false))
