-- Laws of refutations: a clause offset for each four step words is room enough, and for a refutation, by its 0s, so is one for each
-- numbered clause. The first empty clause is in FirstEmptyClause.antt. Assumes nothing.
use Prim.Native.Nat.{ℕ, zero, suc, ◌+◌, ◌*◌, ◌/◌, ◌≤◌}
use Rattle.std.specs.Prelude.{◌≡◌, ◌≢◌, length, ℤ, negsuc}
use Rattle.std.proofs.Math.Path.{refl, ap}
use Rattle.std.proofs.Common.{sym, ◌∙◌, arith}
use mathlib.Core.List.{List, [], ◌∷◌, ◌++◌, append_assoc, Memᴰ}
use Rattle.std.proofs.Math.IntN.{pos}
use Rattle.qbf.specs.Formula.{Formula}
use Rattle.formula.specs.Bounds.{proof_bound}
use Rattle.formula.specs.Decode.{clauses_of, formula_of}
use Rattle.formula.specs.Decode.Laws.{clauses_no_zero}
use Rattle.formula.specs.Tables.{zeros}
use Rattle.formula.proofs.Theorems.Tables.Laws.{zeros_cons}
use Rattle.dependency.specs.Scratch.{scratch_bound}
use Rattle.inference.specs.declared.read.Family.{Family}
use Rattle.inference.specs.declared.read.Family.TheVariants.{Ordinary, LongDistance}
use Rattle.inference.specs.Words.{Words}
use Rattle.inference.specs.Steps.{Step, resolution, reduction, stated_by, resolution_word, reduction_word}
use Rattle.inference.specs.Steps.Written.{steps_size}
use Rattle.inference.specs.Lawful.{Numbered, Lawful, words_of, step_words, numbered_clauses, LawfulSteps, NoZeros}
use Rattle.inference.specs.Lawful.Laws.{numbered_member, numbered_length, lawful_words, lawful_all_words}
use Rattle.checker.specs.Refutation.{Refutation, Within}

-- A clause offset for each input clause and for each four step words is room enough.
pub words_within :
    (clauses words : List ℤ) (scratch offsets : ℕ) → length words ≤ proof_bound → scratch_bound ≤ scratch
    → length (clauses_of clauses) + length words / 4 ≤ offsets
    → Within clauses words scratch offsets
words_within clauses words scratch offsets sized fits room =
    record {
      sized = sized;
      scratch_fits = fits;
      offsets_fit = λ steps e. let size : 4 * length steps ≤ length words = rw e (steps_size steps) in omega (arith, numbered_length (clauses_of clauses) steps);
    }

-- Words without a 0 add none; the others may.
zeros_nonzero : (L rest : Words) → ((x : ℤ) → Memᴰ x L → x ≢ pos 0) → zeros (L ++ rest) ≡ zeros rest
zeros_nonzero [] rest h = refl
zeros_nonzero (x ∷ L) rest h = zeros_cons x (L ++ rest) (h x (Memᴰ.head refl)) ∙ zeros_nonzero L rest (λ y m. h y (Memᴰ.tail m))

zeros_more : (w : ℤ) (rest : Words) → zeros rest ≤ zeros (w ∷ rest)
unfolding zeros
zeros_more (pos zero) rest = omega arith
zeros_more (pos (suc n)) rest = omega arith
zeros_more (negsuc n) rest = omega arith

closed_more : (L rest : Words) → suc (zeros rest) ≤ zeros ((L ++ pos 0 ∷ []) ++ rest)
unfolding zeros
closed_more [] rest = omega arith
closed_more (x ∷ L) rest = omega (arith, closed_more L rest, zeros_more x ((L ++ pos 0 ∷ []) ++ rest))

-- Each step is closed by a 0; one that is lawful over clauses without 0 has no other.
step_zeros : (s : Step) (rest : Words) → suc (zeros rest) ≤ zeros (words_of s ++ rest)
step_zeros (resolution f i j e L) rest = let t = (L ++ pos 0 ∷ []) ++ rest in omega (arith, closed_more L rest, zeros_more e t, zeros_more j (e ∷ t), zeros_more i (j ∷ e ∷ t), zeros_more (resolution_word f) (i ∷ j ∷ e ∷ t))
step_zeros (reduction f i a L) rest = let t = (L ++ pos 0 ∷ []) ++ rest in omega (arith, closed_more L rest, zeros_more a t, zeros_more i (a ∷ t), zeros_more (reduction_word f) (i ∷ a ∷ t))

steps_zeros : (steps : List Step) → length steps ≤ zeros (step_words steps)
unfolding step_words
steps_zeros [] = omega arith
steps_zeros (s ∷ steps) = omega (arith, steps_zeros steps, step_zeros s (step_words steps))

numbered_nonzero : (known : List Words) (i : ℤ) (C : Words) → Numbered known i C → i ≢ pos 0
numbered_nonzero known i C n z = let e : ◌≡◌ {A = ℤ} (pos (suc n.place)) (pos 0) = sym n.is ∙ z in let q : ◌≡◌ {A = ℕ} 0 1 = cc in omega arith

-- Kind words are not 0.
resolution_nonzero : (f : Family) → resolution_word f ≢ pos 0
resolution_nonzero Ordinary e = let z : ◌≡◌ {A = ℕ} 0 1 = cc in omega arith
resolution_nonzero LongDistance e = let z : ◌≡◌ {A = ℕ} 0 1 = cc in omega arith

reduction_nonzero : (f : Family) → reduction_word f ≢ pos 0
reduction_nonzero Ordinary e = let z : ◌≡◌ {A = ℕ} 0 1 = cc in omega arith
reduction_nonzero LongDistance e = let z : ◌≡◌ {A = ℕ} 0 1 = cc in omega arith

module _ (F : Formula) where
  lawful_zeros : (known : List Words) → NoZeros known → (s : Step) → Lawful F known s → (rest : Words) → zeros (words_of s ++ rest) ≡ suc (zeros rest)
  unfolding zeros
  lawful_zeros known clean s l rest = go s l (lawful_words (λ x. x ≢ pos 0) F known clean s l)
    where
      closed : (L : Words) → ((x : ℤ) → Memᴰ x L → x ≢ pos 0) → zeros ((L ++ pos 0 ∷ []) ++ rest) ≡ suc (zeros rest)
      closed L h = ap zeros (append_assoc L (pos 0 ∷ []) rest) ∙ zeros_nonzero L (pos 0 ∷ rest) h

      go : (s : Step) → Lawful F known s → ((x : ℤ) → Memᴰ x (stated_by s) → x ≢ pos 0) → zeros (words_of s ++ rest) ≡ suc (zeros rest)
      go (resolution f i j e L) l h =
          let t = (L ++ pos 0 ∷ []) ++ rest in
          zeros_cons (resolution_word f) (i ∷ j ∷ e ∷ t) (resolution_nonzero f)
          ∙ zeros_cons i (j ∷ e ∷ t) (numbered_nonzero known i l.left l.left_numbered)
          ∙ zeros_cons j (e ∷ t) (numbered_nonzero known j l.right l.right_numbered)
          ∙ zeros_cons e t (clean l.left (numbered_member known i l.left l.left_numbered) e l.in_left)
          ∙ closed L h
      go (reduction f i a L) l h =
          let t = (L ++ pos 0 ∷ []) ++ rest in
          zeros_cons (reduction_word f) (i ∷ a ∷ t) (reduction_nonzero f)
          ∙ zeros_cons i (a ∷ t) (numbered_nonzero known i l.clause l.numbered)
          ∙ zeros_cons a t (clean l.clause (numbered_member known i l.clause l.numbered) a l.in_clause)
          ∙ closed L h

  lawful_steps_zeros : (known : List Words) → NoZeros known → (steps : List Step) → LawfulSteps F known steps → zeros (step_words steps) ≡ length steps
  unfolding step_words zeros
  lawful_steps_zeros known clean [] l = refl
  lawful_steps_zeros known clean (s ∷ steps) l =
      lawful_zeros known clean s l.0 (step_words steps)
      ∙ ap suc (lawful_steps_zeros (known ++ (stated_by s ∷ [])) (lawful_all_words (λ x. x ≢ pos 0) F known clean s l.0) steps l.1)

-- A refutation has as many steps as 0 words.
pub refutation_zeros : (prefix clauses words : List ℤ) (r : Refutation prefix clauses words) → zeros words ≡ length r.steps
refutation_zeros prefix clauses words r =
    rw r.written (lawful_steps_zeros (formula_of prefix clauses) (clauses_of clauses) (λ C m. clauses_no_zero clauses C m) r.steps r.lawful)

-- A clause offset for each numbered clause of the refutation is room enough.
pub refutation_within :
    (prefix clauses words : List ℤ) (scratch offsets : ℕ) (r : Refutation prefix clauses words)
    → length words ≤ proof_bound → scratch_bound ≤ scratch
    → length (numbered_clauses (clauses_of clauses) r.steps) ≤ offsets
    → Within clauses words scratch offsets
refutation_within prefix clauses words scratch offsets r sized fits room =
    record {
      sized = sized;
      scratch_fits = fits;
      offsets_fit = λ steps e.
          let other : length steps ≤ zeros words = rw e (steps_zeros steps) in
          omega (arith, refutation_zeros prefix clauses words r, numbered_length (clauses_of clauses) steps, numbered_length (clauses_of clauses) r.steps);
    }
