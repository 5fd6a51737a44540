-- What the marks of a search keep from its start to its end, and that a pass keeps it: an entry is the literal that the
-- search starts from, or the opposite of a literal that a path reaches. Assumes nothing.
use Prim.Native.Nat.{ℕ, zero, suc, ◌<◌}
use Rattle.std.specs.Prelude.{◌≡◌, ◌⊎◌, Bool, not, length, get_or, set, ℤ}
use Rattle.std.proofs.Math.Path.{refl}
use Rattle.std.proofs.Common.{ap, sym, ◌∙◌, subst, inl, inr, arith, eqb-true, length-set, get_or-set_same, get_or-set_other}
use Rattle.std.proofs.Math.Bool.{true, false}
use mathlib.Core.List.Memᴰ
use mathlib.Core.List.{List, [], ◌∷◌, Memᴰ}
use Rattle.std.proofs.Math.Decide.{ℕ_discrete, dec_lt}
use Rattle.std.proofs.lemmas.Bool.{eqb-false}
use Rattle.std.proofs.Math.ListN.{get_or-eq_default}
use Rattle.std.proofs.Math.Dec.{eqb}
use Rattle.qbf.specs.Literal.{Literal, literal, neg, Matrix}
use Rattle.qbf.specs.Path.{Joined, Path, one, more}
use Rattle.qbf.specs.Formula.Laws.{neg_neg}
use Rattle.formula.specs.Word.{word_of, slot}
use Rattle.formula.specs.Word.Laws.{signed_word, Recognised, nothing, names, recognised}
use Rattle.formula.specs.Decode.{literal_of, clause_of}
use Rattle.dependency.specs.Marks.{select, reach_at, reach_word, clause_entry, reach_clause, pass}
use Rattle.dependency.specs.Search.{ordered, odd, passes}
use Rattle.dependency.specs.Search.Order.{ordered_member}
use Rattle.dependency.specs.Search.Entries.{byte, clause_entry_witnessed}

-- Literals of one place are equal.
pub slot_injective : (k l : Literal) → slot k.variable k.sign ≡ slot l.variable l.sign → k ≡ l
slot_injective k l h = go k.sign l.sign refl refl h
  where
    go : (s t : Bool) → k.sign ≡ s → l.sign ≡ t → slot k.variable s ≡ slot l.variable t → k ≡ l
    go true true p q e = let v : k.variable ≡ l.variable = omega arith in λ i. literal (v i) ((p ∙ sym q) i)
    go true false p q e = absurd (omega arith)
    go false true p q e = absurd (omega arith)
    go false false p q e = let v : k.variable ≡ l.variable = omega arith in λ i. literal (v i) ((p ∙ sym q) i)

-- A mark that is not 0 stands within the marks.
pub inside : (m : List ℕ) (at : ℕ) → 0 < get_or m at 0 → at < length m
inside m at h = go (dec_lt at (length m))
  where
    go : Dec (at < length m) → at < length m
    go (yes k) = k
    go (no n) = let e = get_or-eq_default m 0 {n = at} (omega arith) in absurd (omega arith)

-- A store at one literal's mark, seen from any other's.
abbrev pub stored : List ℕ → Literal → ℕ → List ℕ
stored m l b = set m (slot l.variable l.sign) b

abbrev pub Stored : List ℕ → Literal → ℕ → Literal → Type 0
Stored m l b k = ((k ≡ l) × (byte (stored m l b) k ≡ b)) ⊎ (byte (stored m l b) k ≡ byte m k)

pub set_byte : (m : List ℕ) (l : Literal) (b : ℕ) → slot l.variable l.sign < length m → (k : Literal) → Stored m l b k
set_byte m l b h k = go (ℕ_discrete (slot k.variable k.sign) (slot l.variable l.sign))
  where
    go : Dec (slot k.variable k.sign ≡ slot l.variable l.sign) → Stored m l b k
    go (yes e) = inl (slot_injective k l e, rw e (get_or-set_same m (slot l.variable l.sign) b 0 h))
    go (no n) = inr (get_or-set_other m (slot l.variable l.sign) (slot k.variable k.sign) b 0 n)

-- Both signs are reached alike.
pub reach_signed : (m : List ℕ) (entry v : ℕ) (s : Bool) → reach_word entry (signed_word v s) m ≡ reach_at entry v (slot v (not s)) m
unfolding reach_word
reach_signed m entry v true = refl
reach_signed m entry v false = refl

-- A path reaches the opposite of l, which paths may pass.
abbrev pub Entered : Matrix → List ℕ → Literal → Literal → Type 0
Entered M X a l = Memᴰ l.variable X × Path M X a (neg l)

pub record Kept (M : Matrix) (X : List ℕ) (a : Literal) (m : List ℕ) : Type 0 where
  pub size : length m ≡ 2050
  pub source : byte m a ≡ 3
  pub unreached : (l : Literal) → byte m l ≡ 1 → Memᴰ l.variable X
  pub reached : (l : Literal) → byte m l ≡ 2 → Entered M X a l
  pub entry : (l : Literal) → 1 < byte m l → (l ≡ a) ⊎ Entered M X a l
  pub cover : (l : Literal) → Memᴰ l.variable X → (byte m l ≡ 1) ⊎ (byte m l ≡ 2)

module _ (M : Matrix) (X : List ℕ) (a : Literal) where
  entered_cast : {k l : Literal} → k ≡ l → Entered M X a l → Entered M X a k
  entered_cast e h = subst (λ (x : Literal). Entered M X a x) (sym e) h

  -- One more literal is reached.
  set_kept : (m : List ℕ) (l : Literal) → Kept M X a m → byte m l ≡ 1 → Path M X a (neg l) → Kept M X a (stored m l 2)
  set_kept m l h e p =
      record {
        size = simp length-set h.size;
        source = source' (cases a);
        unreached = λ k q. unreached' k q (cases k);
        reached = λ k q. reached' k q (cases k);
        entry = λ k q. entry' k q (cases k);
        cover = λ k i. cover' k i (cases k);
      }
    where
      cases : (k : Literal) → Stored m l 2 k
      cases k = set_byte m l 2 (inside m (slot l.variable l.sign) (omega arith)) k

      now : Entered M X a l
      now = (h.unreached l e, p)

      source' : Stored m l 2 a → byte (stored m l 2) a ≡ 3
      source' (inl q) = let z : byte m a ≡ byte m l = ap (byte m) q.0 in let s = h.source in absurd (omega arith)
      source' (inr q) = q ∙ h.source

      unreached' : (k : Literal) → byte (stored m l 2) k ≡ 1 → Stored m l 2 k → Memᴰ k.variable X
      unreached' k q (inl c) = absurd (omega arith)
      unreached' k q (inr c) = h.unreached k (sym c ∙ q)

      reached' : (k : Literal) → byte (stored m l 2) k ≡ 2 → Stored m l 2 k → Entered M X a k
      reached' k q (inl c) = entered_cast c.0 now
      reached' k q (inr c) = h.reached k (sym c ∙ q)

      entry' : (k : Literal) → 1 < byte (stored m l 2) k → Stored m l 2 k → (k ≡ a) ⊎ Entered M X a k
      entry' k q (inl c) = inr (entered_cast c.0 now)
      entry' k q (inr c) = h.entry k (rw c at q)

      old : (k : Literal) → byte (stored m l 2) k ≡ byte m k → (byte m k ≡ 1) ⊎ (byte m k ≡ 2) → (byte (stored m l 2) k ≡ 1) ⊎ (byte (stored m l 2) k ≡ 2)
      old k c (inl q) = inl (c ∙ q)
      old k c (inr q) = inr (c ∙ q)

      cover' : (k : Literal) → Memᴰ k.variable X → Stored m l 2 k → (byte (stored m l 2) k ≡ 1) ⊎ (byte (stored m l 2) k ≡ 2)
      cover' k i (inl c) = inr c.1
      cover' k i (inr c) = old k c (h.cover k i)

  -- A literal joined to an entry is reached.
  entry_reaches : (m : List ℕ) → Kept M X a m → (l b : Literal) → 1 < byte m l → Joined M l b → Path M X a b
  entry_reaches m h l b q j = go (h.entry l q)
    where
      go : (l ≡ a) ⊎ Entered M X a l → Path M X a b
      go (inl e) = one (subst (λ (x : Literal). Joined M x b) e j)
      go (inr r) = more r.1 r.0 (subst (λ (x : Literal). Joined M x b) (sym (neg_neg l)) j)

  reach_at_kept :
      (m : List ℕ) (entry v : ℕ) (s : Bool) → Kept M X a m
      → ((entry ≡ 0 → ⊥) → (entry ≡ v → ⊥) → Path M X a (literal v s))
      → Kept M X a (reach_at entry v (slot v (not s)) m)
  unfolding reach_at
  reach_at_kept m entry v s h p = go (eqb entry 0) (eqb entry v) (eqb (get_or m (slot v (not s)) 0) 1) refl refl refl
    where
      go :
          (x y z : Bool) → eqb entry 0 ≡ x → eqb entry v ≡ y → eqb (get_or m (slot v (not s)) 0) 1 ≡ z
          → Kept M X a (select x m (select y m (select z (set m (slot v (not s)) 2) m)))
      go true y z e f g = h
      go false true z e f g = h
      go false false true e f g =
          set_kept m (neg (literal v s)) h (eqb-true (get_or m (slot v (not s)) 0) 1 g)
          (subst (λ (l : Literal). Path M X a l) (sym (neg_neg (literal v s))) (p (eqb-false entry 0 e) (eqb-false entry v f)))
      go false false false e f g = h

  reach_word_kept :
      (m : List ℕ) (entry : ℕ) (w : ℤ) → Kept M X a m
      → ((entry ≡ 0 → ⊥) → (entry ≡ (literal_of w).variable → ⊥) → Path M X a (literal_of w))
      → Kept M X a (reach_word entry (word_of w) m)
  unfolding reach_word
  reach_word_kept m entry w h p = go (recognised w)
    where
      go : Recognised w → Kept M X a (reach_word entry (word_of w) m)
      go (nothing (inl e)) = rw e h
      go (nothing (inr e)) = rw e h
      go (names v s o b e q) = rw (e, reach_signed m entry v s) (reach_at_kept m entry v s h (rw q at p))

  reach_clause_kept :
      (C : List ℤ) (m : List ℕ) (entry : ℕ) → Kept M X a m
      → ((w : ℤ) → Memᴰ w C → (entry ≡ 0 → ⊥) → (entry ≡ (literal_of w).variable → ⊥) → Path M X a (literal_of w))
      → Kept M X a (reach_clause entry C m)
  unfolding reach_clause
  reach_clause_kept [] m entry h p = h
  reach_clause_kept (w ∷ C) m entry h p =
      reach_clause_kept C (reach_word entry (word_of w) m) entry (reach_word_kept m entry w h (p w (Memᴰ.head refl))) (λ v i. p v (Memᴰ.tail i))

  -- The literals of a clause that its entries reach.
  clause_reaches :
      (m : List ℕ) (C : List ℤ) → Kept M X a m → Memᴰ (clause_of C) M
      → (w : ℤ) → Memᴰ w C → (clause_entry m 0 C ≡ 0 → ⊥) → (clause_entry m 0 C ≡ (literal_of w).variable → ⊥) → Path M X a (literal_of w)
  clause_reaches m C h input w i z n =
      let found = clause_entry_witnessed m (clause_of C) C (λ v k. Memᴰ.map literal_of k) 0 (λ v k. absurd (k refl)) (literal_of w).variable z n in
      entry_reaches m h found.0 (literal_of w) found.2
      (record { clause = clause_of C; input = input; left = found.1; right = Memᴰ.map literal_of i; differ = found.3 })

  pub pass_kept : (Cs : List (List ℤ)) (m : List ℕ) → ((C : List ℤ) → Memᴰ C Cs → Memᴰ (clause_of C) M) → Kept M X a m → Kept M X a (pass Cs m)
  unfolding pass
  pass_kept [] m i h = h
  pass_kept (C ∷ Cs) m i h =
      pass_kept Cs (reach_clause (clause_entry m 0 C) C m) (λ D k. i D (Memᴰ.tail k))
      (reach_clause_kept C m (clause_entry m 0 C) h (clause_reaches m C h (i C (Memᴰ.head refl))))

  pub passes_kept :
      (n : ℕ) (Cs : List (List ℤ)) (m : List ℕ) → ((C : List ℤ) → Memᴰ C Cs → Memᴰ (clause_of C) M) → Kept M X a m → Kept M X a (passes n Cs m)
  unfolding passes
  passes_kept zero Cs m i h = h
  passes_kept (suc n) Cs m i h =
      pass_kept (ordered (odd n) Cs) (passes n Cs m) (λ C k. i C (ordered_member (odd n) Cs C k)) (passes_kept n Cs m i h)
