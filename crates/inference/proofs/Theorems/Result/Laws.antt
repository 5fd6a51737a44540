-- Marking a result, ticking its statement and wiping the marks, and what is decided from it, is the judgement of the result. Assumes nothing.
use Rattle.std.specs.Prelude.{Result, ⊤}
use Rattle.formula.specs.declared.refusal.Reason.{Reason}
use Rattle.std.specs.Prelude.{ℕ, ◌≡◌, ◌⊎◌, Bool, true, false, not, ◌&&◌, ◌||◌, eqb, get_or, set, ℤ, neg_ℤ}
use Rattle.std.proofs.Common.{ap, ap₂, sym, ◌∙◌, subst, inl, inr, arith}
use mathlib.Core.List.Memᴰ
use mathlib.Core.List.{List, [], ◌∷◌, Memᴰ}
use Rattle.std.proofs.lemmas.Grind.{common_steps}
use Rattle.std.proofs.Math.Decide.{ℕ_discrete}
use Rattle.inference.specs.Words.{Words, without, InRange, AllInRange}
use Rattle.inference.specs.Words.Laws.{without_member}
use Rattle.inference.specs.declared.read.Family.{Family}
use Rattle.inference.specs.declared.read.Family.TheVariants.{Ordinary, LongDistance}
use Rattle.inference.specs.Steps.{resolvent, opposed, reduct, states}
use Rattle.inference.specs.Marks.{slot_at, marks_in, clean, mark_all, meets, tick_if, tick_all, ticks, any_marked, Marked, Ticked, Wiped}
use Rattle.inference.specs.Marks.Laws.{mark_none, mark_append, meets_append}
use Rattle.inference.proofs.Theorems.Marks.Judging.{clean_meets, Showing, marked_shows, unmarked_shows, shown_states}
use Rattle.inference.specs.Result.{result_reason, unmarked_in, decided, JudgedClean}

pub both_marked :
    (e : ℤ) (C D : Words) (m m₁ m₂ : List ℕ) (first second : Bool)
    → Marked m (without e C) first m₁ → Marked m₁ (without (neg_ℤ e) D) second m₂ → Marked m (resolvent e C D) (first || second) m₂
both_marked e C D m m₁ m₂ first second h k =
    record {
      told = rw (h.told, k.told, h.left) (sym (meets_append m (without e C) (without (neg_ℤ e) D)));
      left = rw (k.left, h.left) (sym (mark_append m (without e C) (without (neg_ℤ e) D)));
    }

pub without_in_range : (e : ℤ) (C : Words) → AllInRange C → AllInRange (without e C)
without_in_range e C h x m = h x (without_member x e C m).0

pub resolvent_in_range : (e : ℤ) (C D : Words) → AllInRange C → AllInRange D → AllInRange (resolvent e C D)
resolvent_in_range e C D h k x m = go (Memᴰ.append_cases (without e C) m)
  where
    go : Memᴰ x (without e C) ⊎ Memᴰ x (without (neg_ℤ e) D) → InRange x
    go (inl i) = without_in_range e C h x i
    go (inr i) = without_in_range (neg_ℤ e) D k x i

-- Ticking marks nothing.
tick_leaves : (m : List ℕ) (L : Words) (s : ℕ) → get_or m s 0 ≡ 0 → get_or (tick_all m L) s 0 ≡ 0
unfolding tick_all
tick_leaves m [] s h = h
tick_leaves m (x ∷ L) s h = go (eqb (get_or m (slot_at x) 0) 1) (tick_leaves (set m (slot_at x) 0) L s (cleared (ℕ_discrete s (slot_at x))))
  where
    cleared : Dec (s ≡ slot_at x) → get_or (set m (slot_at x) 0) s 0 ≡ 0
    cleared (yes e) = grind (arith, common_steps)
    cleared (no n) = grind (arith, common_steps)

    go : (b : Bool) → get_or (tick_all (set m (slot_at x) 0) L) s 0 ≡ 0 → get_or (tick_if b m (tick_all (set m (slot_at x) 0) L)) s 0 ≡ 0
    go true k = k
    go false k = h

-- What ticking tells, and what it leaves, from marks that show a result, judge the statement.
module _ (R L : Words) (range : AllInRange R) (bytes : List ℕ) (showing : Showing (marks_in bytes) R) where
  states_is : (ticks (marks_in bytes) L && not (any_marked (tick_all (marks_in bytes) L))) ≡ states R L
  states_is = shown_states R L range (marks_in bytes) showing (tick_leaves (marks_in bytes) L 1 (mark_none bytes 1 (omega arith)))

  pub judged_result :
      (wrong : Bool) {r : Result ⊤ Reason} {m : List ℕ}
      → r ≡ decided wrong (ticks (marks_in bytes) L) (any_marked (tick_all (marks_in bytes) L)) → m ≡ clean
      → JudgedClean (result_reason wrong R L) r m
  judged_result wrong e w = record { answer = e ∙ rw states_is; wiped = w }

-- The same of what was ticked off and what was left, from any marks that show a result.
module _ (R L : Words) (range : AllInRange R) (ticked left : Bool) (m₁ bytes m₃ : List ℕ) (showing : Showing m₁ R)
    (k : Ticked m₁ L ticked (marks_in bytes)) (l : Wiped (marks_in bytes) left m₃) where
  ticked_is : (ticked && not left) ≡ states R L
  ticked_is =
      ap₂ (λ (a b : Bool). a && not b) k.told (l.told ∙ ap any_marked k.left)
      ∙ shown_states R L range m₁ showing (ap (λ (n : List ℕ). get_or n 1 0) (sym k.left) ∙ mark_none bytes 1 (omega arith))

  pub judged_ticked : (wrong : Bool) (r : Result ⊤ Reason) → r ≡ decided wrong ticked left → JudgedClean (result_reason wrong R L) r m₃
  judged_ticked wrong r e = record { answer = e ∙ rw ticked_is; wiped = l.left }

-- The marks of a result, from clean ones, and what marking told.
module _ (R : Words) (range : AllInRange R) (met : Bool) (m m₁ : List ℕ) (start : m ≡ clean) (h : Marked m R met m₁) where
  pub marked_met : met ≡ opposed [] R
  marked_met = h.told ∙ ap (λ (n : List ℕ). meets n R) start ∙ clean_meets R range

  pub marked_showing : Showing m₁ R
  marked_showing = subst (λ (n : List ℕ). Showing n R) (sym (h.left ∙ ap (λ (n : List ℕ). mark_all n R) start)) (marked_shows R range)

-- The marks of a reduction's result: of the clause without the literal, and long-distance without its opposite too.
pub reduct_showing :
    (f : Family) (a : ℤ) (C : Words) (m : List ℕ) → InRange (neg_ℤ a) → Showing m (without a C) → Showing (unmarked_in f (neg_ℤ a) m) (reduct f a C)
reduct_showing Ordinary a C m r h = h
reduct_showing LongDistance a C m r h = unmarked_shows m (without a C) (neg_ℤ a) r h

pub reduct_in_range : (f : Family) (a : ℤ) (C : Words) → AllInRange C → AllInRange (reduct f a C)
reduct_in_range Ordinary a C h = without_in_range a C h
reduct_in_range LongDistance a C h = without_in_range (neg_ℤ a) (without a C) (without_in_range a C h)
