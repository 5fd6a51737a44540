-- How many entries bytes hold, and how many literals are left to reach; a pass keeps the sum. Definitions: Bits, Search. Assumes nothing.
use Prim.Native.Nat.{ℕ, zero, suc, ◌+◌, ◌*◌, ◌-◌, ◌/◌, ◌<◌, ◌≤◌}
use Rattle.std.specs.Prelude.{◌≡◌, Bool, List, [], ◌∷◌, ◌++◌, length, get_or, set, take, drop, eqb, ltb, ℤ}
use Rattle.std.proofs.Math.Path.{refl}
use Rattle.std.proofs.Common.{ap, sym, ◌∙◌, eqb-true, le-ltb}
use Rattle.std.proofs.Math.Bool.{true, false}
use native.Mathlib.Omega.{arith}
use Rattle.std.proofs.Math.ListN.{length-drop}
use Rattle.std.proofs.Math.Seq.{take-suc, get_or-drop}
use Rattle.bits.specs.Flags.{flags, total}
use Rattle.bits.specs.Flags.Laws.{length_flags, flag_small, flags_take, flags_drop}
use Rattle.formula.specs.Word.{word_of, slot}
use Rattle.formula.specs.declared.word.Word.{Word}
use Rattle.formula.specs.declared.word.Word.TheVariants.{Zero, TooLarge, Positive, Negative}
use Rattle.dependency.specs.Marks.{select, reach_at, reach_word, clause_entry, reach_clause, pass}
use Rattle.dependency.specs.Search.{ones, entries}
use Rattle.dependency.specs.Search.Progress.{ones_set}
use Rattle.dependency.specs.Bits.{tab, mark_from, is_on, base, mark_at, marks_of, marks_in, NoEntries}

-- One more at the end.
total_last : (xs : List ℕ) (x : ℕ) → total (xs ++ (x ∷ [])) ≡ total xs + x
unfolding total
total_last [] x = omega arith
total_last (y ∷ xs) x = let k = total_last xs x in omega arith

entries_last : (m : List ℕ) (x : ℕ) → entries (m ++ (x ∷ [])) ≡ entries m + select (ltb x 2) 0 1
unfolding entries
entries_last [] x = omega arith
entries_last (y ∷ m) x = let k = entries_last m x in omega arith

ones_last : (m : List ℕ) (x : ℕ) → ones (m ++ (x ∷ [])) ≡ ones m + select (eqb x 1) 1 0
unfolding ones
ones_last [] x = omega arith
ones_last (y ∷ m) x = let k = ones_last m x in omega arith

-- A mark counts by its flags, x being that of the entry.
counted : (p : Bool) (x : ℕ) → x < 2 → select (ltb (mark_from p (eqb x 1)) 2) 0 1 ≡ x
counted true zero h = refl
counted true (suc zero) h = refl
counted false zero h = refl
counted false (suc zero) h = refl
counted true (suc (suc x)) h = absurd (omega arith)
counted false (suc (suc x)) h = absurd (omega arith)

opens : (x : ℕ) → x < 2 → select (eqb (mark_from (eqb x 1) false) 1) 1 0 ≡ x
opens zero h = refl
opens (suc zero) h = refl
opens (suc (suc x)) h = absurd (omega arith)

module _ (s : Bool) (fs : List ℕ) (size : length fs ≡ 5120) (small : (i : ℕ) → get_or fs i 0 < 2) where
  abbrev own : List ℕ
  own = drop (base s) fs

  own_length : 2048 ≤ length own
  own_length = rw (length-drop (base s) fs, size) (go s)
    where
      go : (t : Bool) → 2048 ≤ 5120 - base t
      go true = omega arith
      go false = omega arith

  entry_counts : (n : ℕ) → select (ltb (mark_at s fs (suc (suc n))) 2) 0 1 ≡ get_or fs (base s + n) 0
  entry_counts n =
      let z : suc (suc n) - 2 ≡ n = omega arith in
      let b : 2 ≤ suc (suc n) = omega arith in
      rw (le-ltb (suc (suc n)) 2 b, z) (counted (is_on fs (2047 + suc (suc n) / 2)) (get_or fs (base s + n) 0) (small (base s + n)))

  entries_below : (n : ℕ) → n ≤ length own → entries (tab (mark_at s fs) (suc (suc n))) ≡ total (take n own)
  unfolding tab entries total
  entries_below zero h = refl
  entries_below (suc n) h =
      rw (entries_last (tab (mark_at s fs) (suc (suc n))) (mark_at s fs (suc (suc n))), take-suc own n 0 h, total_last (take n own) (get_or own n 0), entries_below n (omega arith), get_or-drop (base s) fs n 0)
      (ap (λ (x : ℕ). total (take n own) + x) (entry_counts n))

  pub entries_total : entries (marks_of s fs) ≡ total (take 2048 (drop (base s) fs))
  unfolding marks_of
  entries_total = entries_below 2048 own_length

  module _ (none : (i : ℕ) → i < 2048 → get_or fs (base s + i) 0 ≡ 0) where
    abbrev variables : List ℕ
    variables = drop 2048 fs

    open_counts : (n p : ℕ) → n < 1024 → p / 2 ≡ suc n → select (eqb (mark_at s fs p) 1) 1 0 ≡ get_or fs (2048 + n) 0
    open_counts n p h e =
        let z : 2047 + suc n ≡ 2048 + n = omega arith in
        let b : 2 ≤ p = omega arith in
        rw (le-ltb p 2 b, e, z, none (p - 2) (omega arith)) (opens (get_or fs (2048 + n) 0) (small (2048 + n)))

    ones_below : (n : ℕ) → n ≤ 1024 → ones (tab (mark_at s fs) (suc (suc (n + n)))) ≡ 2 * total (take n variables)
    unfolding tab ones total
    ones_below zero h = refl
    ones_below (suc n) h =
        let e : suc n + suc n ≡ suc (suc (n + n)) = omega arith in
        let l = length-drop 2048 fs in
        let k = ones_below n (omega arith) in
        let a = open_counts n (suc (suc (n + n))) h (omega arith) in
        let b = open_counts n (suc (suc (suc (n + n)))) h (omega arith) in
        rw (
          e,
          ones_last (tab (mark_at s fs) (suc (suc (suc (n + n))))) (mark_at s fs (suc (suc (suc (n + n))))),
          ones_last (tab (mark_at s fs) (suc (suc (n + n)))) (mark_at s fs (suc (suc (n + n)))),
          take-suc variables n 0 (omega arith),
          total_last (take n variables) (get_or variables n 0),
          get_or-drop 2048 fs n 0,
          k,
          a,
          b,
        )
        (omega arith)

    pub ones_total : ones (marks_of s fs) ≡ 2 * total (take 1024 (drop 2048 fs))
    unfolding marks_of
    ones_total = ones_below 1024 (omega arith)

-- The same of the bytes' parts.
module _ (bytes : List ℕ) (size : length bytes ≡ 640) where
  all_flags : length (flags bytes) ≡ 5120
  all_flags = let k = length_flags bytes in omega arith

  pub entries_positive : total (flags (take 256 bytes)) ≡ entries (marks_in true bytes)
  unfolding marks_in
  entries_positive = rw (flags_take 256 bytes) (sym (entries_total true (flags bytes) all_flags (flag_small bytes)))

  pub entries_negative : total (flags (take 256 (drop 384 bytes))) ≡ entries (marks_in false bytes)
  unfolding marks_in
  entries_negative = rw (flags_take 256 (drop 384 bytes), flags_drop 384 bytes) (sym (entries_total false (flags bytes) all_flags (flag_small bytes)))

  pub open_literals : NoEntries bytes → (s : Bool) → ones (marks_in s bytes) ≡ 2 * total (flags (take 128 (drop 256 bytes)))
  unfolding marks_in
  open_literals none s = rw (flags_take 128 (drop 256 bytes), flags_drop 256 bytes) (ones_total s (flags bytes) all_flags (flag_small bytes) (none s))

-- A mark that is not 1 changes to another.
pub ones_kept : (m : List ℕ) (at : ℕ) → get_or m at 0 ≡ 0 → ones (set m at 3) ≡ ones m
unfolding ones
ones_kept [] at h = refl
ones_kept (x ∷ m) zero h = rw h
ones_kept (x ∷ m) (suc at) h = let k = ones_kept m at h in omega arith

-- One more entry, one less left.
entries_set : (m : List ℕ) (at : ℕ) → get_or m at 0 ≡ 1 → entries (set m at 2) ≡ suc (entries m)
unfolding entries
entries_set [] at h = absurd (omega arith)
entries_set (x ∷ m) zero h = rw h (omega arith)
entries_set (x ∷ m) (suc at) h = let k = entries_set m at h in omega arith

abbrev both : List ℕ → ℕ
both m = ones m + entries m

reach_at_both : (entry v at : ℕ) (m : List ℕ) → both (reach_at entry v at m) ≡ both m
unfolding reach_at
reach_at_both entry v at m = go (eqb entry 0) (eqb entry v) (eqb (get_or m at 0) 1) refl
  where
    go : (a b d : Bool) → eqb (get_or m at 0) 1 ≡ d → both (select a m (select b m (select d (set m at 2) m))) ≡ both m
    go true b d e = refl
    go false true d e = refl
    go false false true e =
        let h = eqb-true (get_or m at 0) 1 e in
        let k = ones_set m at h in
        let l = entries_set m at h in
        omega arith
    go false false false e = refl

reach_word_both : (entry : ℕ) (w : Word) (m : List ℕ) → both (reach_word entry w m) ≡ both m
unfolding reach_word
reach_word_both entry Zero m = refl
reach_word_both entry TooLarge m = refl
reach_word_both entry (Positive v) m = reach_at_both entry v.0 (slot v.0 false) m
reach_word_both entry (Negative v) m = reach_at_both entry v.0 (slot v.0 true) m

reach_clause_both : (entry : ℕ) (C : List ℤ) (m : List ℕ) → both (reach_clause entry C m) ≡ both m
unfolding reach_clause
reach_clause_both entry [] m = refl
reach_clause_both entry (w ∷ C) m = reach_clause_both entry C (reach_word entry (word_of w) m) ∙ reach_word_both entry (word_of w) m

pub pass_both : (Cs : List (List ℤ)) (m : List ℕ) → ones (pass Cs m) + entries (pass Cs m) ≡ ones m + entries m
unfolding pass
pass_both [] m = refl
pass_both (C ∷ Cs) m = let m' = reach_clause (clause_entry m 0 C) C m in pass_both Cs m' ∙ reach_clause_both (clause_entry m 0 C) C m
