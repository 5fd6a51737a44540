-- Merges here and in 003: no variable depends on one right of it, so a merge of a universal right of the pivot (MergesRight of
-- Derivation) is one that 003 allows, which asks that the pivot does not depend on the universal. Assumes nothing.
use Rattle.std.specs.Prelude.{ℕ}
use mathlib.Core.List.Memᴰ
use Rattle.qbf.specs.Formula.{Formula, Entry, after, Proper, RightOf}
use Rattle.qbf.specs.Formula.Laws.{right_asymmetric, existentials_member}
use Rattle.qbf.specs.Dependency.{Depends}

pub right_independent : (F : Formula) → Proper F → (u e : ℕ) → RightOf F.prefix e u → Depends F u e → ⊥
right_independent F proper u e behind d =
    right_asymmetric F.prefix proper.prefix_distinct u e (Memᴰ.map (λ (x : Entry). x.variable) (existentials_member (after u F.prefix) d.right)) behind
