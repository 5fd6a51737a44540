-- Marks that a pass leaves as they are hold every path: what is joined to an entry, and may be passed, is reached.
-- Assumes nothing.
use Rattle.std.specs.Prelude.{ℕ, ◌≤◌, ◌<◌, ◌≡◌, ◌⊎◌, Bool, not, get_or, ℤ}
use Rattle.std.proofs.Common.{ap, sym, ◌∙◌, inl, inr, arith, eq-eqb, ne_eqb, get_or-set_same}
use mathlib.Core.List.Memᴰ
use mathlib.Core.List.{List, map, Memᴰ}
use Rattle.qbf.specs.Literal.{Literal, neg}
use Rattle.qbf.specs.Path.{Joined, Path}
use Rattle.formula.specs.Word.{slot}
use Rattle.formula.specs.Word.Laws.{word_of_literal}
use Rattle.qbf.proofs.Path.Laws.{closed_holds_paths}
use Rattle.formula.specs.Decode.{literal_of, clause_of}
use Rattle.dependency.specs.Marks.{reach_at, clause_entry, pass}
use Rattle.dependency.specs.Search.{ordered}
use Rattle.dependency.specs.Search.Order.{member_ordered}
use Rattle.dependency.specs.Search.Entries.{byte, entry_past}
use Rattle.dependency.specs.Search.Progress.{still_clause, still_word}
use Rattle.dependency.specs.Search.Invariant.{Entered, Kept, inside, reach_signed}

-- A variable in range.
abbrev pub Ranged : ℕ → Type 0
Ranged v = (1 ≤ v) × (v ≤ 1024)

-- A literal whose opposite has a 1 is reached by the entries of another variable.
reach_at_still :
    (m : List ℕ) (entry v at : ℕ) → (entry ≡ 0 → ⊥) → (entry ≡ v → ⊥) → reach_at entry v at m ≡ m → get_or m at 0 ≡ 1 → ⊥
unfolding reach_at
reach_at_still m entry v at z n e h =
    let q = rw (ne_eqb entry 0 z, ne_eqb entry v n, eq-eqb (get_or m at 0) 1 h) at e in
    let two = sym (get_or-set_same m at 2 0 (inside m at (omega arith))) ∙ ap (λ (l : List ℕ). get_or l at 0) q in
    omega arith

module _ (Cs : List (List ℤ)) (X : List ℕ) (a : Literal) (m : List ℕ)
    (kept : Kept (map clause_of Cs) X a m)
    (back : Bool)
    (still : pass (ordered back Cs) m ≡ m)
    (start : Ranged a.variable)
    (range : (v : ℕ) → Memᴰ v X → Ranged v) where
  entry_range : (l : Literal) → 1 < byte m l → Ranged l.variable
  entry_range l h = go (kept.entry l h)
    where
      go : (l ≡ a) ⊎ Entered (map clause_of Cs) X a l → Ranged l.variable
      go (inl e) = rw e start
      go (inr r) = range l.variable r.0

  -- Words of one clause: an entry, and a literal of another variable.
  word_reached :
      (C : List ℤ) → Memᴰ C Cs → (w : ℤ) → Memᴰ w C → (x : ℤ) → Memᴰ x C
      → (l b : Literal) → literal_of w ≡ l → literal_of x ≡ b
      → 1 < byte m l → (l.variable ≡ b.variable → ⊥) → Ranged b.variable
      → byte m (neg b) ≡ 1 → ⊥
  word_reached C input w i x j l b p q entry differ rb h =
      let r = entry_range l entry in
      let past = entry_past m b.variable rb.1 w l.variable l.sign (word_of_literal w l.variable l.sign p r.0 r.1) entry r.0 differ C 0 i in
      let here = still_word (clause_entry m 0 C) C m (still_clause (ordered back Cs) m still C (member_ordered back Cs C input)) x j in
      let word = word_of_literal x b.variable b.sign q rb.0 rb.1 in
      reach_at_still m (clause_entry m 0 C) b.variable (slot b.variable (not b.sign)) past.0 past.1
      (sym (reach_signed m (clause_entry m 0 C) b.variable b.sign) ∙ rw word at here) h

  joined_reached : (l b : Literal) → 1 < byte m l → Joined (map clause_of Cs) l b → Memᴰ b.variable X → byte m (neg b) ≡ 2
  joined_reached l b entry j i = go (kept.cover (neg b) i)
    where
      absent : byte m (neg b) ≡ 1 → ⊥
      absent h =
          let C = Memᴰ.of_map clause_of Cs j.input in
          let w = Memᴰ.of_map literal_of C.0 (rw (sym C.2) at j.left) in
          let x = Memᴰ.of_map literal_of C.0 (rw (sym C.2) at j.right) in
          word_reached C.0 C.1 w.0 w.1 x.0 x.1 l b w.2 x.2 entry j.differ (range b.variable i) h

      go : (byte m (neg b) ≡ 1) ⊎ (byte m (neg b) ≡ 2) → byte m (neg b) ≡ 2
      go (inl h) = absurd (absent h)
      go (inr h) = h

  pub paths_reached : (b : Literal) → Path (map clause_of Cs) X a b → Memᴰ b.variable X → byte m (neg b) ≡ 2
  paths_reached b p i = closed_holds_paths (map clause_of Cs) X a (λ l. Memᴰ l.variable X → byte m (neg l) ≡ 2) first next p i
    where
      first : (l : Literal) → Joined (map clause_of Cs) a l → Memᴰ l.variable X → byte m (neg l) ≡ 2
      first l j k = let s = kept.source in joined_reached a l (omega arith) j k

      next :
          (l : Literal) → (Memᴰ l.variable X → byte m (neg l) ≡ 2) → Memᴰ l.variable X
          → (k : Literal) → Joined (map clause_of Cs) (neg l) k → Memᴰ k.variable X → byte m (neg k) ≡ 2
      next l h y k j z = let e = h y in joined_reached (neg l) k (omega arith) j z
