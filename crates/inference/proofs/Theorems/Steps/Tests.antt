-- What the tests of Steps.antt say of a result and of its statement, both ways, and of what blocks. Assumes nothing.
use Rattle.std.specs.Prelude.{ℕ, zero, suc, ◌≡◌, refl, ◌⊎◌, ◌≢◌, Bool, true, false, not, cond, ◌&&◌, ◌||◌, ℤ, pos, negsuc, neg_ℤ, nat_abs}
use Rattle.std.proofs.Common.{ap, ap₂, sym, ◌∙◌, inl, inr, arith}
use Rattle.std.proofs.lemmas.Bool.{false≢true, not-true}
use mathlib.Core.List.Memᴰ
use mathlib.Core.List.{List, [], ◌∷◌, ◌++◌, Memᴰ}
use Rattle.std.proofs.Math.IntN.{neg_ℤ-neg_ℤ}
use Rattle.qbf.specs.Connectives.{and_both, both_and, or_either}
use Rattle.formula.specs.declared.refusal.Blocker.{Blocker}
use Rattle.formula.specs.Decode.Laws.{magnitude_same, magnitude_negated}
use Rattle.inference.specs.declared.read.Family.{Family}
use Rattle.inference.specs.declared.read.Family.TheVariants.{Ordinary, LongDistance}
use Rattle.inference.specs.Words.{Words, holds, without}
use Rattle.inference.specs.Words.Laws.{holds_sound, holds_complete, holds_absent, absent_holds, without_member, member_without}
use Rattle.inference.specs.Steps.{Scope, resolvent, opposed, crosses, reduct, lists, covers, states, blocked, leftmost}
use Rattle.inference.specs.Lawful.{Once, States, Resolvent, Reduct}

pub opposite_zero : (x : ℤ) → neg_ℤ x ≡ x → x ≡ pos 0
opposite_zero (pos zero) e = refl
opposite_zero (pos (suc n)) e = let z : ◌≡◌ {A = ℕ} 0 1 = cc in absurd (omega arith)
opposite_zero (negsuc n) e = let z : ◌≡◌ {A = ℕ} 0 1 = cc in absurd (omega arith)

-- Opposed words: there are two of opposite signs; and where none are found, there are none.
pub opposed_found : (seen R : Words) → opposed seen R ≡ true → (x : ℤ) × Memᴰ x R × (Memᴰ (neg_ℤ x) seen ⊎ Memᴰ (neg_ℤ x) R)
unfolding opposed
opposed_found seen [] h = absurd (false≢true h)
opposed_found seen (y ∷ R) h = go (or_either (holds (neg_ℤ y) seen) (opposed (y ∷ seen) R) h) (opposed_found (y ∷ seen) R)
  where
    later : (x : ℤ) × Memᴰ x R × (Memᴰ (neg_ℤ x) (y ∷ seen) ⊎ Memᴰ (neg_ℤ x) R) → (x : ℤ) × Memᴰ x (y ∷ R) × (Memᴰ (neg_ℤ x) seen ⊎ Memᴰ (neg_ℤ x) (y ∷ R))
    later t = (t.0, Memᴰ.tail t.1, side t.2)
      where
        first : (neg_ℤ t.0 ≡ y) ⊎ Memᴰ (neg_ℤ t.0) seen → Memᴰ (neg_ℤ t.0) seen ⊎ Memᴰ (neg_ℤ t.0) (y ∷ R)
        first (inl e) = inr (Memᴰ.head e)
        first (inr m) = inl m

        side : Memᴰ (neg_ℤ t.0) (y ∷ seen) ⊎ Memᴰ (neg_ℤ t.0) R → Memᴰ (neg_ℤ t.0) seen ⊎ Memᴰ (neg_ℤ t.0) (y ∷ R)
        side (inl m) = first (Memᴰ.cases_cons m)
        side (inr m) = inr (Memᴰ.tail m)

    go :
        (holds (neg_ℤ y) seen ≡ true) ⊎ (opposed (y ∷ seen) R ≡ true)
        → (opposed (y ∷ seen) R ≡ true → (x : ℤ) × Memᴰ x R × (Memᴰ (neg_ℤ x) (y ∷ seen) ⊎ Memᴰ (neg_ℤ x) R))
        → (x : ℤ) × Memᴰ x (y ∷ R) × (Memᴰ (neg_ℤ x) seen ⊎ Memᴰ (neg_ℤ x) (y ∷ R))
    go (inl e) ih = (y, Memᴰ.head refl, inl (holds_sound (neg_ℤ y) seen e))
    go (inr e) ih = later (ih e)

or_false : (a b : Bool) → (a || b) ≡ false → (a ≡ false) × (b ≡ false)
or_false true b h = absurd (false≢true (sym h))
or_false false b h = (refl, h)

-- One more word, those after it being unopposed.
unopposed_cons :
    (seen R : Words) (y : ℤ) → holds (neg_ℤ y) seen ≡ false
    → ((x : ℤ) → x ≢ pos 0 → Memᴰ x R → Memᴰ (neg_ℤ x) (y ∷ seen) ⊎ Memᴰ (neg_ℤ x) R → ⊥)
    → (x : ℤ) → x ≢ pos 0 → Memᴰ x (y ∷ R) → Memᴰ (neg_ℤ x) seen ⊎ Memᴰ (neg_ℤ x) (y ∷ R) → ⊥
unopposed_cons seen R y h ih x z m s = go (Memᴰ.cases_cons m) s
  where
    -- x is y, and its opposite stands later
    opposite : x ≡ y → (neg_ℤ x ≡ y) ⊎ Memᴰ (neg_ℤ x) R → ⊥
    opposite e (inl q) = z (opposite_zero x (q ∙ sym e))
    opposite e (inr k) = ih (neg_ℤ x) (λ q. z (sym (neg_ℤ-neg_ℤ x) ∙ ap neg_ℤ q)) k (inl (Memᴰ.head (neg_ℤ-neg_ℤ x ∙ e)))

    -- x stands later
    later : Memᴰ x R → (neg_ℤ x ≡ y) ⊎ Memᴰ (neg_ℤ x) R → ⊥
    later k (inl q) = ih x z k (inl (Memᴰ.head q))
    later k (inr i) = ih x z k (inr i)

    go : (x ≡ y) ⊎ Memᴰ x R → Memᴰ (neg_ℤ x) seen ⊎ Memᴰ (neg_ℤ x) (y ∷ R) → ⊥
    go (inl e) (inl i) = holds_absent (neg_ℤ y) seen h (Memᴰ.cast (ap neg_ℤ (sym e)) i)
    go (inl e) (inr i) = opposite e (Memᴰ.cases_cons i)
    go (inr k) (inl i) = ih x z k (inl (Memᴰ.tail i))
    go (inr k) (inr i) = later k (Memᴰ.cases_cons i)

pub unopposed :
    (seen R : Words) → opposed seen R ≡ false
    → (x : ℤ) → x ≢ pos 0 → Memᴰ x R → Memᴰ (neg_ℤ x) seen ⊎ Memᴰ (neg_ℤ x) R → ⊥
unfolding opposed
unopposed seen [] h x z m s = Memᴰ.not-nil m
unopposed seen (y ∷ R) h x z m s =
    let p = or_false (holds (neg_ℤ y) seen) (opposed (y ∷ seen) R) h in
    unopposed_cons seen R y p.0 (unopposed (y ∷ seen) R p.1) x z m s

-- A statement: each word once, each in the result, none left out.
pub record Listing (R seen L : Words) : Type 0 where
  pub only : (x : ℤ) → Memᴰ x L → Memᴰ x R
  pub fresh : (x : ℤ) → Memᴰ x L → Memᴰ x seen → ⊥
  pub once : Once L

pub lists_sound : (R seen L : Words) → lists R seen L ≡ true → Listing R seen L
unfolding lists
lists_sound R seen [] h = record { only = λ x m. absurd (Memᴰ.not-nil m); fresh = λ x m k. Memᴰ.not-nil m; once = tt }
lists_sound R seen (y ∷ L) h =
    let a = and_both (holds y R && not (holds y seen)) (lists R (y ∷ seen) L) h in
    let b = and_both (holds y R) (not (holds y seen)) a.0 in
    go (holds_sound y R b.0) (holds_absent y seen (not-true (holds y seen) b.1)) (lists_sound R (y ∷ seen) L a.1)
  where
    go : Memᴰ y R → (Memᴰ y seen → ⊥) → Listing R (y ∷ seen) L → Listing R seen (y ∷ L)
    go m n l =
        record {
          only = λ x k. in_result x (Memᴰ.cases_cons k);
          fresh = λ x k i. unseen x (Memᴰ.cases_cons k) i;
          once = (λ k. l.fresh y k (Memᴰ.head refl), l.once);
        }
      where
        in_result : (x : ℤ) → (x ≡ y) ⊎ Memᴰ x L → Memᴰ x R
        in_result x (inl e) = Memᴰ.cast e m
        in_result x (inr k) = l.only x k

        unseen : (x : ℤ) → (x ≡ y) ⊎ Memᴰ x L → Memᴰ x seen → ⊥
        unseen x (inl e) i = n (Memᴰ.cast (sym e) i)
        unseen x (inr k) i = l.fresh x k (Memᴰ.tail i)

pub lists_complete : (R seen L : Words) → Listing R seen L → lists R seen L ≡ true
unfolding lists
lists_complete R seen [] l = refl
lists_complete R seen (y ∷ L) l =
    both_and
    (holds y R && not (holds y seen))
    (lists R (y ∷ seen) L)
    (both_and (holds y R) (not (holds y seen)) (holds_complete y R (l.only y (Memᴰ.head refl))) (ap not (absent_holds y seen (l.fresh y (Memᴰ.head refl)))))
    (lists_complete R (y ∷ seen) L
    (record {
      only = λ x k. l.only x (Memᴰ.tail k);
      fresh = λ x k i. unseen x k (Memᴰ.cases_cons i);
      once = l.once.1;
    }))
  where
    unseen : (x : ℤ) → Memᴰ x L → (x ≡ y) ⊎ Memᴰ x seen → ⊥
    unseen x k (inl e) = l.once.0 (Memᴰ.cast (sym e) k)
    unseen x k (inr i) = l.fresh x (Memᴰ.tail k) i

pub covers_sound : (L R : Words) → covers L R ≡ true → (x : ℤ) → Memᴰ x R → Memᴰ x L
unfolding covers
covers_sound L [] h x m = absurd (Memᴰ.not-nil m)
covers_sound L (y ∷ R) h x m = let b = and_both (holds y L) (covers L R) h in go b.0 (covers_sound L R b.1) (Memᴰ.cases_cons m)
  where
    go : holds y L ≡ true → ((x : ℤ) → Memᴰ x R → Memᴰ x L) → (x ≡ y) ⊎ Memᴰ x R → Memᴰ x L
    go e later (inl q) = Memᴰ.cast q (holds_sound y L e)
    go e later (inr k) = later x k

pub covers_complete : (L R : Words) → ((x : ℤ) → Memᴰ x R → Memᴰ x L) → covers L R ≡ true
unfolding covers
covers_complete L [] h = refl
covers_complete L (y ∷ R) h =
    both_and (holds y L) (covers L R) (holds_complete y L (h y (Memᴰ.head refl))) (covers_complete L R (λ x k. h x (Memᴰ.tail k)))

-- The result is given as a list and as what stands in it.
module _ (R : Words) (result : ℤ → Type 0) (into : (x : ℤ) → result x → Memᴰ x R) (from : (x : ℤ) → Memᴰ x R → result x) (L : Words) where
  pub states_sound : states R L ≡ true → States result L
  unfolding states
  states_sound h =
      let b = and_both (lists R [] L) (covers L R) h in
      let l = lists_sound R [] L b.0 in
      record {
        all = λ x r. covers_sound L R b.1 x (into x r);
        only = λ x m. from x (l.only x m);
        once = l.once;
      }

  pub states_complete : States result L → states R L ≡ true
  unfolding states
  states_complete s =
      both_and
      (lists R [] L)
      (covers L R)
      (lists_complete R [] L (record { only = λ x m. into x (s.only x m); fresh = λ x m k. Memᴰ.not-nil k; once = s.once }))
      (covers_complete L R (λ x m. s.all x (from x m)))

-- What stands in the list of a resolution's result.
pub in_resolvent : (e : ℤ) (C D : Words) (x : ℤ) → Memᴰ x (resolvent e C D) → Resolvent C D e x
in_resolvent e C D x m = go (Memᴰ.append_cases (without e C) m)
  where
    go : Memᴰ x (without e C) ⊎ Memᴰ x (without (neg_ℤ e) D) → Resolvent C D e x
    go (inl k) = inl (without_member x e C k)
    go (inr k) = inr (without_member x (neg_ℤ e) D k)

pub resolvent_in : (e : ℤ) (C D : Words) (x : ℤ) → Resolvent C D e x → Memᴰ x (resolvent e C D)
resolvent_in e C D x (inl r) = Memᴰ.append_left (without (neg_ℤ e) D) (member_without x e C r.0 r.1)
resolvent_in e C D x (inr r) = Memᴰ.append_right (without e C) (member_without x (neg_ℤ e) D r.0 r.1)

-- Words that cross: where none is found, every variable that is opposed may be merged; and one that is found may not be.
pub uncrossed : (may : ℕ → Bool) (C D : Words) → crosses may C D ≡ false → (x : ℤ) → Memᴰ x D → Memᴰ (neg_ℤ x) C → may (nat_abs x) ≡ true
unfolding crosses
uncrossed may C [] h x m k = absurd (Memᴰ.not-nil m)
uncrossed may C (y ∷ D) h x m k = go (Memᴰ.cases_cons m) (or_false (holds (neg_ℤ y) C && not (may (nat_abs y))) (crosses may C D) h) (λ t i. uncrossed may C D t x i k)
  where
    here : (b : Bool) → (true && not b) ≡ false → b ≡ true
    here true e = refl
    here false e = absurd (false≢true (sym e))

    go :
        (x ≡ y) ⊎ Memᴰ x D → ((holds (neg_ℤ y) C && not (may (nat_abs y))) ≡ false) × (crosses may C D ≡ false)
        → (crosses may C D ≡ false → Memᴰ x D → may (nat_abs x) ≡ true)
        → may (nat_abs x) ≡ true
    go (inl e) t later = rw e (here (may (nat_abs y)) (rw (holds_complete (neg_ℤ y) C (rw (← e) k)) at t.0))
    go (inr i) t later = later t.1 i

pub crosses_found : (may : ℕ → Bool) (C D : Words) → crosses may C D ≡ true → (x : ℤ) × Memᴰ x D × Memᴰ (neg_ℤ x) C × (may (nat_abs x) ≡ false)
unfolding crosses
crosses_found may C [] h = absurd (false≢true h)
crosses_found may C (y ∷ D) h = go (or_either (holds (neg_ℤ y) C && not (may (nat_abs y))) (crosses may C D) h) (crosses_found may C D)
  where
    go :
        ((holds (neg_ℤ y) C && not (may (nat_abs y))) ≡ true) ⊎ (crosses may C D ≡ true)
        → (crosses may C D ≡ true → (x : ℤ) × Memᴰ x D × Memᴰ (neg_ℤ x) C × (may (nat_abs x) ≡ false))
        → (x : ℤ) × Memᴰ x (y ∷ D) × Memᴰ (neg_ℤ x) C × (may (nat_abs x) ≡ false)
    go (inl e) ih = let b = and_both (holds (neg_ℤ y) C) (not (may (nat_abs y))) e in (y, Memᴰ.head refl, holds_sound (neg_ℤ y) C b.0, not-true (may (nat_abs y)) b.1)
    go (inr e) ih = let t = ih e in (t.0, Memᴰ.tail t.1, t.2, t.3)

-- The result of a reduction.
pub reduct_sound : (f : Family) (a : ℤ) (C : Words) (x : ℤ) → Memᴰ x (reduct f a C) → Reduct f C a x
reduct_sound Ordinary a C x m = without_member x a C m
reduct_sound LongDistance a C x m =
    let p = without_member x (neg_ℤ a) (without a C) m in
    let q = without_member x a C p.0 in
    (q.0, λ e. go (magnitude_same x a e))
  where
    go : (x ≡ a) ⊎ (x ≡ neg_ℤ a) → ⊥
    go (inl e) = (without_member x a C (without_member x (neg_ℤ a) (without a C) m).0).1 e
    go (inr e) = (without_member x (neg_ℤ a) (without a C) m).1 e

pub reduct_complete : (f : Family) (a : ℤ) (C : Words) (x : ℤ) → Reduct f C a x → Memᴰ x (reduct f a C)
reduct_complete Ordinary a C x r = member_without x a C r.0 r.1
reduct_complete LongDistance a C x r =
    member_without x (neg_ℤ a) (without a C) (member_without x a C r.0 (λ e. r.1 (ap nat_abs e))) (λ e. r.1 (ap nat_abs e ∙ magnitude_negated a))

-- A clause is blocked where one of its variables depends.
pub blocked_found : (S : Scope) (u : ℕ) (C : Words) → blocked S u C ≡ true → (x : ℤ) × Memᴰ x C × (S.dependent u (nat_abs x) ≡ true)
unfolding blocked
blocked_found S u [] h = absurd (false≢true h)
blocked_found S u (y ∷ C) h = go (or_either (S.dependent u (nat_abs y)) (blocked S u C) h) (blocked_found S u C)
  where
    go :
        (S.dependent u (nat_abs y) ≡ true) ⊎ (blocked S u C ≡ true)
        → (blocked S u C ≡ true → (x : ℤ) × Memᴰ x C × (S.dependent u (nat_abs x) ≡ true))
        → (x : ℤ) × Memᴰ x (y ∷ C) × (S.dependent u (nat_abs x) ≡ true)
    go (inl e) later = (y, Memᴰ.head refl, e)
    go (inr k) later = let t = later k in (t.0, Memᴰ.tail t.1, t.2)

pub unblocked : (S : Scope) (u : ℕ) (C : Words) → blocked S u C ≡ false → (x : ℤ) → Memᴰ x C → S.dependent u (nat_abs x) ≡ false
unfolding blocked
unblocked S u [] h x m = absurd (Memᴰ.not-nil m)
unblocked S u (y ∷ C) h x m =
    let p = or_false (S.dependent u (nat_abs y)) (blocked S u C) h in
    go p.0 (unblocked S u C p.1) (Memᴰ.cases_cons m)
  where
    go :
        S.dependent u (nat_abs y) ≡ false
        → ((x : ℤ) → Memᴰ x C → S.dependent u (nat_abs x) ≡ false)
        → (x ≡ y) ⊎ Memᴰ x C
        → S.dependent u (nat_abs x) ≡ false
    go e later (inl q) = rw q e
    go e later (inr k) = later x k

-- The first that passes a test, where one does; those before it do not.
pub record Leftmost (test : ℕ → Bool) (bs : List Blocker) (b : Blocker) : Type 0 where
  pub left : List Blocker
  pub right : List Blocker
  pub stands : bs ≡ left ++ (b ∷ right)
  pub passes : test b.variable.0 ≡ true
  pub fails_left : (c : Blocker) → Memᴰ c left → test c.variable.0 ≡ false

pub leftmost_found : (test : ℕ → Bool) (bs : List Blocker) (c : Blocker) → Memᴰ c bs → test c.variable.0 ≡ true → Leftmost test bs (leftmost test bs)
unfolding leftmost
leftmost_found test [] c m h = absurd (Memᴰ.not-nil m)
leftmost_found test (b ∷ bs) c m h = go (test b.variable.0) refl (leftmost_found test bs c)
  where
    behind : test b.variable.0 ≡ false → Leftmost test bs (leftmost test bs) → Leftmost test (b ∷ bs) (leftmost test bs)
    behind e l =
        record {
          left = b ∷ l.left;
          right = l.right;
          stands = ap (λ (cs : List Blocker). b ∷ cs) l.stands;
          passes = l.passes;
          fails_left = λ d k. failing d (Memᴰ.cases_cons k);
        }
      where
        failing : (d : Blocker) → (d ≡ b) ⊎ Memᴰ d l.left → test d.variable.0 ≡ false
        failing d (inl q) = ap (λ (x : Blocker). test x.variable.0) q ∙ e
        failing d (inr k) = l.fails_left d k

    go :
        (t : Bool) → test b.variable.0 ≡ t
        → (Memᴰ c bs → test c.variable.0 ≡ true → Leftmost test bs (leftmost test bs))
        → Leftmost test (b ∷ bs) (cond t b (leftmost test bs))
    go true e later = record { left = []; right = bs; stands = refl; passes = e; fails_left = λ d k. absurd (Memᴰ.not-nil k) }
    go false e later = found (Memᴰ.cases_cons m)
      where
        found : (c ≡ b) ⊎ Memᴰ c bs → Leftmost test (b ∷ bs) (leftmost test bs)
        found (inl q) = absurd (false≢true (sym e ∙ ap (λ (x : Blocker). test x.variable.0) (sym q) ∙ h))
        found (inr k) = behind e (later k h)

-- Tests that agree on what is asked of them.
pub leftmost_same :
    (f g : ℕ → Bool) (bs : List Blocker) → ((b : Blocker) → Memᴰ b bs → f b.variable.0 ≡ g b.variable.0) → leftmost f bs ≡ leftmost g bs
unfolding leftmost
leftmost_same f g [] h = refl
leftmost_same f g (b ∷ bs) h =
    ap₂ (λ (t : Bool) (r : Blocker). cond t b r) (h b (Memᴰ.head refl)) (leftmost_same f g bs (λ c k. h c (Memᴰ.tail k)))
