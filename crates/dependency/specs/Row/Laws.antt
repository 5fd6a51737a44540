-- A row in a reader's terms: 1,025 bytes, and the byte of e is 1 exactly when e depends on u, else 0. Assumes nothing.
use Prim.Native.Nat.{ℕ, zero, suc, ◌≤◌, ◌<◌}
use Rattle.std.specs.Prelude.{◌≡◌, ◌↔◌, Bool, true, false, length, ℤ}
use Rattle.std.proofs.Math.Path.{refl}
use Rattle.std.proofs.Common.{ap, sym, ◌∙◌, not-suc-le-zero, arith}
use mathlib.Core.List.{List, [], ◌∷◌, ◌++◌}
use Rattle.std.proofs.Math.Decide.{ℕ_discrete}
use Rattle.std.proofs.Math.ListN.{get_or, length-append, get_or-append}
use Rattle.std.proofs.lemmas.List.{get_or_at}
use Rattle.qbf.specs.Formula.{Formula, universal, entry}
use Rattle.qbf.specs.Dependency.{Depends, depends}
use Rattle.qbf.proofs.Dependency.Laws.{depends_sound, depends_complete}
use Rattle.formula.specs.Prefix.{prefix_of, quantifies}
use Rattle.formula.specs.Prefix.Laws.{quantifies_sound}
use Rattle.formula.specs.Tables.{Admitted}
use Rattle.formula.proofs.Theorems.Tables.Laws.{admitted_entries}
use Rattle.dependency.specs.Row.{mark, row_below, row_of}

-- A universal of admitted tables is in range.
pub universal_range : (p c : List ℤ) → Admitted p c → (u : ℕ) → quantifies universal (prefix_of p) u ≡ true → (1 ≤ u) × (u ≤ 1024)
universal_range p c a u h = (admitted_entries p c a).ranged (entry u universal) (quantifies_sound universal (prefix_of p) u h)

module _ (F : Formula) (u : ℕ) where
  row_below_length : (n : ℕ) → length (row_below F u n) ≡ n
  unfolding row_below
  row_below_length zero = refl
  row_below_length (suc n) = let k = row_below_length n in simp length-append (omega arith)

  row_below_byte : (n e : ℕ) → e < n → get_or (row_below F u n) e 0 ≡ mark (depends F u e)
  unfolding row_below
  row_below_byte zero e h = absurd (not-suc-le-zero h)
  row_below_byte (suc n) e h = go (ℕ_discrete e n) (λ k. row_below_byte n e k)
    where
      go : Dec (e ≡ n) → (e < n → get_or (row_below F u n) e 0 ≡ mark (depends F u e)) → get_or (row_below F u n ++ (mark (depends F u n) ∷ [])) e 0 ≡ mark (depends F u e)
      go (yes q) below = rw q (get_or_at (row_below F u n) (mark (depends F u n)) [] 0 n (row_below_length n))
      go (no m) below =
          let k = row_below_length n in
          get_or-append (row_below F u n) (mark (depends F u n) ∷ []) 0 e (omega arith) ∙ below (omega arith)

  pub row_length : length (row_of F u) ≡ 1025
  unfolding row_of
  row_length = row_below_length 1025

  pub row_byte : (e : ℕ) → e ≤ 1024 → get_or (row_of F u) e 0 ≡ mark (depends F u e)
  unfolding row_of
  row_byte e h = row_below_byte 1025 e (omega arith)

  -- The byte of e, for every variable number e.
  pub row_one : (e : ℕ) → e ≤ 1024 → (get_or (row_of F u) e 0 ≡ 1) ↔ Depends F u e
  row_one e h = (λ k. go (depends F u e) refl (sym (row_byte e h) ∙ k), λ d. row_byte e h ∙ ap mark (depends_complete F u e d))
    where
      go : (b : Bool) → depends F u e ≡ b → mark (depends F u e) ≡ 1 → Depends F u e
      go true q k = depends_sound F u e q
      go false q k = let z : ◌≡◌ {A = ℕ} 0 1 = sym (ap mark q) ∙ k in absurd (omega arith)

  pub row_zero : (e : ℕ) → e ≤ 1024 → (Depends F u e → ⊥) → get_or (row_of F u) e 0 ≡ 0
  row_zero e h n = go (depends F u e) refl
    where
      go : (b : Bool) → depends F u e ≡ b → get_or (row_of F u) e 0 ≡ 0
      go true q = absurd (n (depends_sound F u e q))
      go false q = row_byte e h ∙ ap mark q
