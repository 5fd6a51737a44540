-- Laws of numbered clauses and of lawful steps: an antecedent is a numbered clause; what holds of every word of the numbered clauses
-- holds of a lawful step's; how the clauses of steps are numbered. Assumes nothing.
use Rattle.std.specs.Prelude.{ℕ, zero, suc, ◌+◌, ◌≡◌, refl, ◌⊎◌, length, ℤ, pos, negsuc}
use Rattle.std.proofs.Common.{ap, sym, ◌∙◌, subst, inl, inr, arith, length-append}
use Rattle.std.proofs.Math.Option.{Option, some}
use mathlib.Core.List.Memᴰ
use mathlib.Core.List.{List, [], ◌∷◌, ◌++◌, map, append_assoc, Memᴰ}
use Rattle.std.proofs.Math.ListN.{get_elem?}
use Rattle.std.proofs.lemmas.List.{length-map}
use Rattle.qbf.specs.Formula.{Formula}
use Rattle.inference.specs.declared.read.Family.{Family}
use Rattle.inference.specs.declared.read.Family.TheVariants.{Ordinary, LongDistance}
use Rattle.inference.specs.Words.{Words, AllWords}
use Rattle.inference.specs.Steps.{Step, resolution, reduction, stated_by, antecedent}
use Rattle.inference.specs.Lawful.{Numbered, Resolvent, Reduct, Lawful, numbered_clauses}

-- A clause found by its place is one of them.
pub found_member : (known : List Words) (n : ℕ) (C : Words) → get_elem? known n ≡ some C → Memᴰ C known
found_member [] n C e = let z : ◌≡◌ {A = ℕ} 0 1 = cc in absurd (omega arith)
found_member (D ∷ known) zero C e = Memᴰ.head (sym (same D C e))
  where
    same : (D C : Words) → ◌≡◌ {A = Option Words} (some D) (some C) → D ≡ C
    same D C q = cc
found_member (D ∷ known) (suc n) C e = Memᴰ.tail (found_member known n C e)

pub numbered_member : (known : List Words) (i : ℤ) (C : Words) → Numbered known i C → Memᴰ C known
numbered_member known i C n = found_member known n.place C n.stands

pub antecedent_numbered : (known : List Words) (i : ℤ) (C : Words) → antecedent known i ≡ some C → Numbered known i C
antecedent_numbered known (pos zero) C e = let z : ◌≡◌ {A = ℕ} 0 1 = cc in absurd (omega arith)
antecedent_numbered known (pos (suc n)) C e = record { place = n; is = refl; stands = e }
antecedent_numbered known (negsuc n) C e = let z : ◌≡◌ {A = ℕ} 0 1 = cc in absurd (omega arith)

pub numbered_antecedent : (known : List Words) (i : ℤ) (C : Words) → Numbered known i C → antecedent known i ≡ some C
numbered_antecedent known i C n = rw n.is n.stands

-- What is left of a reduced clause is of the clause.
pub reduct_member : (f : Family) (C : Words) (a x : ℤ) → Reduct f C a x → Memᴰ x C
reduct_member Ordinary C a x r = r.0
reduct_member LongDistance C a x r = r.0

-- What holds of each word of each numbered clause holds of a lawful step's words, and then of all numbered clauses.
module _ (P : ℤ → Type 0) (F : Formula) (known : List Words) (all : AllWords P known) where
  pub lawful_words : (s : Step) → Lawful F known s → (x : ℤ) → Memᴰ x (stated_by s) → P x
  lawful_words (resolution f i j e L) l x m = go (l.states.only x m)
    where
      go : Resolvent l.left l.right e x → P x
      go (inl r) = all l.left (numbered_member known i l.left l.left_numbered) x r.0
      go (inr r) = all l.right (numbered_member known j l.right l.right_numbered) x r.0
  lawful_words (reduction f i a L) l x m = all l.clause (numbered_member known i l.clause l.numbered) x (reduct_member f l.clause a x (l.states.only x m))

  pub all_words_snoc : (L : Words) → ((x : ℤ) → Memᴰ x L → P x) → AllWords P (known ++ (L ∷ []))
  all_words_snoc L h C m x k = go (Memᴰ.append_cases known m)
    where
      go : Memᴰ C known ⊎ Memᴰ C (L ∷ []) → P x
      go (inl i) = all C i x k
      go (inr i) = h x (subst (λ (D : Words). Memᴰ x D) (Memᴰ.eq_of_singleton i) k)

  pub lawful_all_words : (s : Step) → Lawful F known s → AllWords P (known ++ (stated_by s ∷ []))
  lawful_all_words s l = all_words_snoc (stated_by s) (lawful_words s l)

pub length_snoc : (known : List Words) (L : Words) → length (known ++ (L ∷ [])) ≡ suc (length known)
length_snoc known L = length-append known (L ∷ []) ∙ one (length known)
  where
    one : (n : ℕ) → n + 1 ≡ suc n
    one n = omega arith

-- The first step's clause stands after those numbered before it, the other steps' clauses after that.
pub numbered_step : (known : List Words) (s : Step) (steps : List Step) → numbered_clauses (known ++ (stated_by s ∷ [])) steps ≡ numbered_clauses known (s ∷ steps)
numbered_step known s steps = append_assoc known (stated_by s ∷ []) (map stated_by steps)

pub numbered_length : (known : List Words) (steps : List Step) → length (numbered_clauses known steps) ≡ length known + length steps
numbered_length known steps = length-append known (map stated_by steps) ∙ ap (λ n. length known + n) (length-map steps stated_by)
