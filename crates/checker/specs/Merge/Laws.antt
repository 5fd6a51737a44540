-- What the code finds by marks and flags is `crosses` of inference/specs/Steps.antt. Assumes nothing.
use Rattle.std.specs.Prelude.{Result, ⊤}
use Rattle.std.specs.Prelude.{ℕ, suc, ◌-◌, ◌≤◌, ◌≡◌, Bool, true, false, ◌&&◌, ◌||◌, length, get_or, take, drop, replicate, eqb, ℤ, neg_ℤ, nat_abs}
use Rattle.std.proofs.Math.Path.{refl, ap, sym}
use Rattle.std.proofs.Common.{ap₂, ◌∙◌, arith, take_at, drop_at, take-take, length-take-le}
use Rattle.std.proofs.Math.Bool.{not, or-false, or_assoc}
use Rattle.std.proofs.lemmas.Bool.{false≢true}
use Rattle.std.proofs.Math.Option.{Option}
use mathlib.Core.List.{List, [], ◌∷◌, ◌++◌, Memᴰ}
use Rattle.std.specs.List.{list_any}
use borrow.Rule.Slice.PartMut.{same_len_mid, mid_len}
use Rattle.qbf.specs.Formula.{universal, Prefix, after}
use Rattle.bits.specs.Flags.{flags}
use Rattle.bits.specs.Flags.Laws.{flags_zeros}
use Rattle.dependency.specs.Scratch.{row_at, small_bound}
use Rattle.formula.specs.Prefix.{AllRanged, quantifies}
use Rattle.formula.specs.declared.refusal.Reason.{Reason}
use Rattle.inference.specs.declared.read.Family.{Family}
use Rattle.inference.specs.declared.read.Family.TheVariants.{Ordinary, LongDistance}
use Rattle.inference.specs.Words.{Words, same_word, holds, without, AllInRange}
use Rattle.inference.specs.Steps.{resolvent, crosses, unresolvable}
use Rattle.inference.specs.Scope.{mergeable_in}
use Rattle.qbf.specs.Formula.Laws.{after_member}
use Rattle.inference.specs.Existentials.{quantified_flags}
use Rattle.inference.specs.Existentials.Laws.{quantified_flag}
use Rattle.inference.specs.Marks.{alone, slot_at, marks_in}
use Rattle.inference.specs.Marks.Laws.{without_cons}
use Rattle.inference.proofs.Theorems.Marks.Judging.{pick, zeros_at, Showing}
use Rattle.inference.specs.Result.{unresolvable_in, JudgedClean}
use Rattle.checker.specs.Step.{marks_of, Answers}
use Rattle.checker.specs.Step.Laws.{drop_take, front_judged}
use Rattle.checker.specs.Merge.{merge_at, crosses_marks, flagged, crosses_by, told_in, Crossed}

-- By marks that show the words of one clause.
pub shown_crosses : (may : ℕ → Bool) (m : List ℕ) (C D : Words) → Showing m C → crosses_marks may m D ≡ crosses may C D
unfolding crosses_marks crosses
shown_crosses may m C [] h = refl
shown_crosses may m C (x ∷ D) h = ap₂ (λ (a b : Bool). (a && not (may (nat_abs x))) || b) (ap (λ (n : ℕ). eqb n 1) (h.shows (neg_ℤ x)) ∙ picked (holds (neg_ℤ x) C)) (shown_crosses may m C D h)
  where
    picked : (b : Bool) → eqb (pick b 1 0) 1 ≡ b
    picked true = refl
    picked false = refl

-- One word, and one after another.
module _ (may : ℕ → Bool) (m : List ℕ) where
  pub crosses_append : (C D : Words) → crosses_marks may m (C ++ D) ≡ (crosses_marks may m C || crosses_marks may m D)
  unfolding crosses_marks
  crosses_append [] D = refl
  crosses_append (x ∷ C) D =
      ap (λ (b : Bool). (eqb (get_or m (slot_at (neg_ℤ x)) 0) 1 && not (may (nat_abs x))) || b) (crosses_append C D)
      ∙ sym (or_assoc (eqb (get_or m (slot_at (neg_ℤ x)) 0) 1 && not (may (nat_abs x))) (crosses_marks may m C) (crosses_marks may m D))

  pub crosses_cons : (e x : ℤ) (C D : Words) → D ≡ x ∷ C → crosses_marks may m (without e D) ≡ (crosses_marks may m (without e (alone x)) || crosses_marks may m (without e C))
  crosses_cons e x C D d = rw d (ap (crosses_marks may m) (without_cons e x C) ∙ crosses_append (without e (alone x)) (without e C))

  pub crosses_any : (e : ℤ) (C : Words) → list_any (λ (x : ℤ). crosses_marks may m (without e (alone x))) C ≡ crosses_marks may m (without e C)
  unfolding crosses_marks without
  crosses_any e [] = refl
  crosses_any e (x ∷ C) = ap (λ (b : Bool). crosses_marks may m (without e (alone x)) || b) (crosses_any e C) ∙ sym (crosses_cons e x C (x ∷ C) refl)

  pub crosses_left_out : (e x : ℤ) → same_word e x ≡ true → false ≡ crosses_marks may m (without e (alone x))
  unfolding crosses_marks without
  crosses_left_out e x h = rw h

  pub crosses_one : (e x : ℤ) → same_word e x ≡ false → (eqb (get_or m (slot_at (neg_ℤ x)) 0) 1 && not (may (nat_abs x))) ≡ crosses_marks may m (without e (alone x))
  unfolding crosses_marks without
  crosses_one e x h = rw h (sym (or-false (eqb (get_or m (slot_at (neg_ℤ x)) 0) 1 && not (may (nat_abs x)))))

-- The same test of the variables, the same answer.
pub crosses_agree :
    (may may' : ℕ → Bool) (m : List ℕ) (D : Words) → ((x : ℤ) → Memᴰ x D → may (nat_abs x) ≡ may' (nat_abs x))
    → crosses_marks may m D ≡ crosses_marks may' m D
unfolding crosses_marks
crosses_agree may may' m [] h = refl
crosses_agree may may' m (x ∷ D) h =
    ap₂ (λ (a b : Bool). (eqb (get_or m (slot_at (neg_ℤ x)) 0) 1 && not a) || b) (h x (Memᴰ.head refl)) (crosses_agree may may' m D (λ y k. h y (Memᴰ.tail k)))

-- Where no opposite is met at all, none that may not be merged is.
pub none_met : (fs : List ℕ) → ((v : ℕ) → flagged fs v ≡ false) → (may : ℕ → Bool) (m : List ℕ) (D : Words) → crosses_by m fs D ≡ false → crosses_marks may m D ≡ false
unfolding crosses_marks
none_met fs none may m [] h = refl
none_met fs none may m (x ∷ D) h =
    go (eqb (get_or m (slot_at (neg_ℤ x)) 0) 1) (flagged fs (nat_abs x)) (may (nat_abs x)) (none (nat_abs x)) h (none_met fs none may m D)
  where
    go :
        (met flag merged : Bool) → flag ≡ false → ((met && not flag) || crosses_by m fs D) ≡ false
        → (crosses_by m fs D ≡ false → crosses_marks may m D ≡ false)
        → ((met && not merged) || crosses_marks may m D) ≡ false
    go met true merged n k later = absurd (false≢true (sym n))
    go true false merged n k later = absurd (false≢true (sym k))
    go false false merged n k later = later k

-- The flags of the universals right of a pivot.
pub merge_flag : (P : Prefix) → AllRanged P → (e v : ℕ) → 1 ≤ v → v ≤ 1024 → flagged (quantified_flags universal (after e P)) v ≡ mergeable_in P e v
merge_flag P r e v l u =
    let k : suc (v - 1) ≡ v = omega arith in
    quantified_flag universal (after e P) (λ x m. r x (after_member e P m)) (v - 1) (omega arith) ∙ ap (quantifies universal (after e P)) k

pub flags_cross : (P : Prefix) → AllRanged P → (e : ℕ) (m : List ℕ) (D : Words) → AllInRange D → crosses_by m (quantified_flags universal (after e P)) D ≡ crosses_marks (mergeable_in P e) m D
flags_cross P r e m D range = crosses_agree _ (mergeable_in P e) m D (λ x k. let b = range x k in merge_flag P r e (nat_abs x) b.0 b.1)

-- The flags filled in behind the existentials: what is before them stands as it was.
module _ (scratch bytes : List ℕ) (size : length scratch ≡ small_bound) (part : length bytes ≡ length (take 128 (drop merge_at scratch))) where
  abbrev filled : List ℕ
  filled = take merge_at scratch ++ (bytes ++ drop 128 (drop merge_at scratch))

  before_length : length (take merge_at scratch) ≡ merge_at
  before_length = length-take-le merge_at scratch (omega arith)

  pub filled_size : length filled ≡ small_bound
  filled_size = same_len_mid merge_at 128 scratch bytes part ∙ size

  pub filled_before : take merge_at filled ≡ take merge_at scratch
  filled_before = take_at (take merge_at scratch) (bytes ++ drop 128 (drop merge_at scratch)) merge_at before_length

  pub filled_part : take 128 (drop merge_at filled) ≡ bytes
  filled_part =
      ap (take 128) (drop_at (take merge_at scratch) (bytes ++ drop 128 (drop merge_at scratch)) merge_at before_length)
      ∙ take_at bytes (drop 128 (drop merge_at scratch)) 128 (part ∙ mid_len merge_at 640 scratch (omega arith))

-- The marks, and the row and the existentials, by what is before the flags.
module _ (scratch scratch' : List ℕ) (before : take merge_at scratch' ≡ take merge_at scratch) where
  pub marks_before : marks_of scratch' ≡ marks_of scratch
  marks_before = ap marks_in (sym (take-take row_at merge_at scratch' (omega arith)) ∙ ap (take row_at) before ∙ take-take row_at merge_at scratch (omega arith))

  pub kept_before : take 256 (drop row_at scratch') ≡ take 256 (drop row_at scratch)
  kept_before = sym (drop_take row_at 256 scratch') ∙ ap (drop row_at) before ∙ drop_take row_at 256 scratch

-- No flag is 1 where the bytes are 0.
pub none_flagged : (v : ℕ) → flagged (flags (replicate 128 0)) v ≡ false
none_flagged v = rw (flags_zeros 128) (ap (λ (n : ℕ). eqb n 1) (zeros_at 1024 (v - 1)))

-- Whether they may be resolved, by what was told of the antecedents; and the judgement behind it, in the scratch as it was left.
pub cross_told :
    (f : Family) (may : ℕ → Bool) (e : ℤ) (C D : Words) (told : Bool) → told ≡ told_in f (crosses may (without e C) (without (neg_ℤ e) D))
    → unresolvable_in f told (resolvent e C D) ≡ unresolvable f may e C D
unfolding unresolvable
cross_told Ordinary may e C D told h = refl
cross_told LongDistance may e C D told h = h

pub crossed_judged :
    {f : Family} {crossed told : Bool} {scratch scratch' : List ℕ} → Crossed f crossed told scratch scratch' → length scratch ≡ small_bound
    → (bytes : List ℕ) → length bytes ≡ row_at → {reason : Option Reason} {r : Result ⊤ Reason} → JudgedClean reason r (marks_in bytes)
    → Answers reason r scratch (bytes ++ drop row_at scratch')
crossed_judged {scratch' = scratch'} h whole bytes size j =
    let a = front_judged scratch' bytes size h.clean.size j in
    record { answer = a.answer; size = a.size ∙ h.clean.size ∙ sym whole; marks = a.marks; kept = a.kept ∙ h.kept }

module _ (may : ℕ → Bool) (m : List ℕ) where
  pub crosses_none : (e : ℤ) (D : Words) → D ≡ [] → crosses_marks may m (without e D) ≡ false
  unfolding crosses_marks without
  crosses_none e D d = rw d
