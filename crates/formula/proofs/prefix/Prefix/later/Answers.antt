-- `later`: the words after the first three, whose entries are those after the first. Assumes nothing.
use Prim.Native.Nat.{◌<◌}
use mathlib.Core.Path.{◌≡◌, ap, sym, ◌∙◌, subst}
use mathlib.Core.List.{List, ◌∷◌, Memᴰ}
use lib.IntN.{ℤ}
use Rattle.qbf.specs.Formula.{Prefix}
use Rattle.formula.specs.Prefix.{prefix_of, entry_at, entry_count, later_entries, Entries}
use Rattle.formula.specs.Prefix.Laws.{entries_drop, later_entries_lem}
use Rattle.formula.proofs.prefix.Prefix.later.Goals as goal

later_ranged : (ws : List ℤ) → 0 < entry_count ws → Entries ws → Entries (later_entries ws)
later_ranged ws h e =
    let split : prefix_of ws ≡ entry_at ws 0 ∷ prefix_of (later_entries ws) = entries_drop ws 0 h ∙ ap {B = Prefix} (λ P. entry_at ws 0 ∷ P) (sym (later_entries_lem ws)) in
    record { ranged = λ x m. e.ranged x (subst (λ (P : Prefix). Memᴰ x P) (sym split) (Memᴰ.tail m)) }

pub invariant_of-result : goal.invariant_of-result
invariant_of-result c =
    let ws = c.args.self.words.now in
    record { entries = rw c.later_entries.ensures (later_ranged ws c.requires c.args.self.entries) }
