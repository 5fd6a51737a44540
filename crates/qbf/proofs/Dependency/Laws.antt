-- The tests of Dependency.antt say what they test, each both ways: member, pair, and depends, which is true exactly when
-- the existential depends on the universal. What a search for paths needs is closed_holds_paths of Path/Laws.antt.
use Rattle.std.specs.Prelude.{ℕ, ◌≡◌, refl, ◌⊎◌, Bool, not, ◌||◌}
use Rattle.std.proofs.Common.{sym, ◌∙◌, subst, inl, inr}
use Rattle.std.proofs.Math.Bool.{true, false}
use Rattle.std.proofs.lemmas.Bool.{false≢true}
use mathlib.Core.List.Memᴰ
use mathlib.Core.List.{List, [], ◌∷◌, Memᴰ}
use Rattle.std.proofs.Math.Decide.{ℕ_discrete}
use Rattle.qbf.specs.Connectives.{and_both, both_and, or_either, or_left, or_right}
use Rattle.qbf.specs.Literal.{literal, Matrix}
use Rattle.qbf.specs.Formula.{Formula, Entry, Prefix, after, Existential}
use Rattle.qbf.specs.Formula.Laws.{existentials_member, after_own, after_other}
use Rattle.qbf.specs.Path.{Path, literals, reach}
use Rattle.qbf.proofs.Path.Laws.{reach_sound, reach_complete}
use Rattle.qbf.specs.Dependency.{passable, Depends, member, pair, depends}

pub member_sound : (n : ℕ) (xs : List ℕ) → member n xs ≡ true → Memᴰ n xs
unfolding member
member_sound n [] h = absurd (false≢true h)
member_sound n (x ∷ xs) h = go (ℕ_discrete n x) refl (λ k. member_sound n xs k)
  where
    go : (d : Dec (n ≡ x)) → ℕ_discrete n x ≡ d → (member n xs ≡ true → Memᴰ n xs) → Memᴰ n (x ∷ xs)
    go (yes e) q later = Memᴰ.head e
    go (no m) q later = Memᴰ.tail (later (rw q at h))

pub member_complete : (n : ℕ) (xs : List ℕ) → Memᴰ n xs → member n xs ≡ true
unfolding member
member_complete n [] h = absurd (Memᴰ.not-nil h)
member_complete n (x ∷ xs) h = go (ℕ_discrete n x) refl (λ k. member_complete n xs k) (Memᴰ.cases_cons h)
  where
    go : (d : Dec (n ≡ x)) → ℕ_discrete n x ≡ d → (Memᴰ n xs → member n xs ≡ true) → (n ≡ x) ⊎ Memᴰ n xs → member n (x ∷ xs) ≡ true
    go (yes e) q later m = rw q
    go (no m) q later (inl e) = absurd (m e)
    go (no m) q later (inr k) = rw q (later k)

module _ (M : Matrix) (X : List ℕ) (u e : ℕ) (s : Bool) where
  pub pair_sound : pair M (literals X) u e s ≡ true → Path M X (literal u true) (literal e s) × Path M X (literal u false) (literal e (not s))
  unfolding pair
  pair_sound h =
      let both = and_both (reach M (literals X) (literal u true) (literal e s)) (reach M (literals X) (literal u false) (literal e (not s))) h in
      (reach_sound M X (literal u true) (literal e s) both.0, reach_sound M X (literal u false) (literal e (not s)) both.1)

  pub pair_complete : Path M X (literal u true) (literal e s) → Path M X (literal u false) (literal e (not s)) → pair M (literals X) u e s ≡ true
  unfolding pair
  pair_complete p q =
      both_and
      (reach M (literals X) (literal u true) (literal e s))
      (reach M (literals X) (literal u false) (literal e (not s)))
      (reach_complete M X (literal u true) (literal e s) p)
      (reach_complete M X (literal u false) (literal e (not s)) q)

module _ (F : Formula) (u e : ℕ) where
  -- The test of both paths, with e met in the sign s from the positive literal of u.
  abbrev paths : Bool → Bool
  paths s = pair F.matrix (literals (passable F u)) u e s

  depends_by : (s : Bool) → member e (passable F u) ≡ true → paths s ≡ true → Depends F u e
  depends_by s h k =
      let both = pair_sound F.matrix (passable F u) u e s k in
      record {
        right = member_sound e (passable F u) h;
        to_sign = s;
        from_positive = both.0;
        from_negative = both.1;
      }

  pub depends_sound : depends F u e ≡ true → Depends F u e
  unfolding depends
  depends_sound h =
      let both = and_both (member e (passable F u)) (paths true || paths false) h in
      go both.0 (or_either (paths true) (paths false) both.1)
    where
      go : member e (passable F u) ≡ true → (paths true ≡ true) ⊎ (paths false ≡ true) → Depends F u e
      go m (inl k) = depends_by true m k
      go m (inr k) = depends_by false m k

  pub depends_complete : Depends F u e → depends F u e ≡ true
  unfolding depends
  depends_complete d =
      both_and
      (member e (passable F u))
      (paths true || paths false)
      (member_complete e (passable F u) d.right)
      (go d.to_sign (pair_complete F.matrix (passable F u) u e d.to_sign d.from_positive d.from_negative))
    where
      go : (s : Bool) → paths s ≡ true → (paths true || paths false) ≡ true
      go true k = or_left (paths true) (paths false) k
      go false k = or_right (paths true) (paths false) k

  -- The other answer: what a reduction asks of the existentials of its clause.
  pub depends_false : depends F u e ≡ false → Depends F u e → ⊥
  depends_false h d = false≢true (sym h ∙ depends_complete d)

-- What depends is existential: it stands right of the universal, so in the prefix.
after_member : (v : ℕ) (P : Prefix) {x : Entry} → Memᴰ x (after v P) → Memᴰ x P
unfolding after
after_member v [] m = m
after_member v (y ∷ P) {x} m = go (ℕ_discrete y.variable v) (λ k. after_member v P k)
  where
    go : Dec (y.variable ≡ v) → (Memᴰ x (after v P) → Memᴰ x P) → Memᴰ x (y ∷ P)
    go (yes e) later = Memᴰ.tail (subst (λ (Q : Prefix). Memᴰ x Q) (after_own v y P e) m)
    go (no n) later = Memᴰ.tail (later (subst (λ (Q : Prefix). Memᴰ x Q) (after_other v y P n) m))

pub depends_existential : (F : Formula) (u e : ℕ) → Depends F u e → Existential F.prefix e
depends_existential F u e d = after_member u F.prefix (existentials_member (after u F.prefix) d.right)
