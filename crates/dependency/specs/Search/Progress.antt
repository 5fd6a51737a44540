-- A pass leaves the marks as they are or fewer literals unreached; so a pass that leaves the count changes nothing, and a
-- pass that changes nothing changes nothing at any word on its way. Assumes nothing.
use Rattle.std.specs.Prelude.{ℕ, zero, suc, ◌≤◌, ◌<◌, ◌≡◌, refl, ◌⊎◌, Bool, true, false, get_or, set, eqb, ℤ}
use Rattle.std.proofs.Common.{ap, ◌∙◌, inl, inr, arith, eqb-true}
use mathlib.Core.List.Memᴰ
use mathlib.Core.List.{List, [], ◌∷◌, Memᴰ}
use Rattle.formula.specs.Word.{word_of, slot}
use Rattle.formula.specs.declared.word.Word.{Word}
use Rattle.formula.specs.declared.word.Word.TheVariants.{Zero, TooLarge, Positive, Negative}
use Rattle.dependency.specs.Marks.{select, reach_at, reach_word, clause_entry, reach_clause, pass}
use Rattle.dependency.specs.Search.{ones}

-- One literal is reached.
pub ones_set : (m : List ℕ) (at : ℕ) → get_or m at 0 ≡ 1 → suc (ones (set m at 2)) ≡ ones m
unfolding ones
ones_set [] at h = absurd (omega arith)
ones_set (x ∷ m) zero h = rw h (omega arith)
ones_set (x ∷ m) (suc at) h = let k = ones_set m at h in omega arith

abbrev pub Shrinks : List ℕ → List ℕ → Type 0
Shrinks m m' = (m' ≡ m) ⊎ (ones m' < ones m)

shrinks_less : (m m' : List ℕ) → Shrinks m m' → ones m' ≤ ones m
shrinks_less m m' (inl e) = rw e (omega arith)
shrinks_less m m' (inr h) = omega arith

-- Two steps: together they shrink, and where both leave the marks the first did.
shrinks_trans : (a b c : List ℕ) → Shrinks a b → Shrinks b c → Shrinks a c
shrinks_trans a b c (inl e) (inl k) = inl (k ∙ e)
shrinks_trans a b c (inl e) (inr k) = inr (rw e at k)
shrinks_trans a b c (inr h) s = let k = shrinks_less b c s in inr (omega arith)

first_still : (a b c : List ℕ) → Shrinks a b → Shrinks b c → c ≡ a → b ≡ a
first_still a b c (inl e) s q = e
first_still a b c (inr h) s q = let k = shrinks_less b c s in let z = ap ones q in absurd (omega arith)

reach_at_shrinks : (entry v at : ℕ) (m : List ℕ) → Shrinks m (reach_at entry v at m)
unfolding reach_at
reach_at_shrinks entry v at m = go (eqb entry 0) (eqb entry v) (eqb (get_or m at 0) 1) refl
  where
    go : (a b d : Bool) → eqb (get_or m at 0) 1 ≡ d → Shrinks m (select a m (select b m (select d (set m at 2) m)))
    go true b d e = inl refl
    go false true d e = inl refl
    go false false true e = let k = ones_set m at (eqb-true (get_or m at 0) 1 e) in inr (omega arith)
    go false false false e = inl refl

reach_word_shrinks : (entry : ℕ) (w : Word) (m : List ℕ) → Shrinks m (reach_word entry w m)
unfolding reach_word
reach_word_shrinks entry Zero m = inl refl
reach_word_shrinks entry TooLarge m = inl refl
reach_word_shrinks entry (Positive v) m = reach_at_shrinks entry v.0 (slot v.0 false) m
reach_word_shrinks entry (Negative v) m = reach_at_shrinks entry v.0 (slot v.0 true) m

reach_clause_shrinks : (entry : ℕ) (C : List ℤ) (m : List ℕ) → Shrinks m (reach_clause entry C m)
unfolding reach_clause
reach_clause_shrinks entry [] m = inl refl
reach_clause_shrinks entry (w ∷ C) m =
    let m' = reach_word entry (word_of w) m in
    shrinks_trans m m' (reach_clause entry C m') (reach_word_shrinks entry (word_of w) m) (reach_clause_shrinks entry C m')

pub pass_shrinks : (Cs : List (List ℤ)) (m : List ℕ) → Shrinks m (pass Cs m)
unfolding pass
pass_shrinks [] m = inl refl
pass_shrinks (C ∷ Cs) m =
    let m' = reach_clause (clause_entry m 0 C) C m in
    shrinks_trans m m' (pass Cs m') (reach_clause_shrinks (clause_entry m 0 C) C m) (pass_shrinks Cs m')

pub pass_ones : (Cs : List (List ℤ)) (m : List ℕ) → ones (pass Cs m) ≤ ones m
pass_ones Cs m = shrinks_less m (pass Cs m) (pass_shrinks Cs m)

-- A pass that leaves the count, as every pass with none left does.
pub pass_still : (Cs : List (List ℤ)) (m : List ℕ) → ones (pass Cs m) ≡ ones m → pass Cs m ≡ m
pass_still Cs m e = go (pass_shrinks Cs m)
  where
    go : Shrinks m (pass Cs m) → pass Cs m ≡ m
    go (inl q) = q
    go (inr h) = absurd (omega arith)

pub none_left_still : (Cs : List (List ℤ)) (m : List ℕ) → ones m ≡ 0 → pass Cs m ≡ m
none_left_still Cs m e = pass_still Cs m (let k = pass_ones Cs m in omega arith)

-- A pass that changes nothing, at each clause and each word.
pub still_clause : (Cs : List (List ℤ)) (m : List ℕ) → pass Cs m ≡ m → (C : List ℤ) → Memᴰ C Cs → reach_clause (clause_entry m 0 C) C m ≡ m
unfolding pass
still_clause [] m e C i = absurd (Memᴰ.not-nil i)
still_clause (D ∷ Cs) m e C i =
    let m' = reach_clause (clause_entry m 0 D) D m in
    let q = first_still m m' (pass Cs m') (reach_clause_shrinks (clause_entry m 0 D) D m) (pass_shrinks Cs m') e in
    go q (still_clause Cs m (rw q at e) C) (Memᴰ.cases_cons i)
  where
    go :
        reach_clause (clause_entry m 0 D) D m ≡ m
        → (Memᴰ C Cs → reach_clause (clause_entry m 0 C) C m ≡ m)
        → (C ≡ D) ⊎ Memᴰ C Cs → reach_clause (clause_entry m 0 C) C m ≡ m
    go q later (inl k) = rw k q
    go q later (inr k) = later k

pub still_word : (entry : ℕ) (C : List ℤ) (m : List ℕ) → reach_clause entry C m ≡ m → (w : ℤ) → Memᴰ w C → reach_word entry (word_of w) m ≡ m
unfolding reach_clause
still_word entry [] m e w i = absurd (Memᴰ.not-nil i)
still_word entry (v ∷ C) m e w i =
    let m' = reach_word entry (word_of v) m in
    let q = first_still m m' (reach_clause entry C m') (reach_word_shrinks entry (word_of v) m) (reach_clause_shrinks entry C m') e in
    go q (still_word entry C m (rw q at e) w) (Memᴰ.cases_cons i)
  where
    go :
        reach_word entry (word_of v) m ≡ m
        → (Memᴰ w C → reach_word entry (word_of w) m ≡ m)
        → (w ≡ v) ⊎ Memᴰ w C → reach_word entry (word_of w) m ≡ m
    go q later (inl k) = rw k q
    go q later (inr k) = later k
