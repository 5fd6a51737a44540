-- `settle` passes until the entries stay or nothing is left: the marks come from so many passes, the counts are theirs, and the direction of the
-- next one goes by how many they are. Assumes nothing.
use Prim.Native.Nat.{ℕ, suc, ◌+◌, ◌≤◌}
use mathlib.Core.Path.{◌≡◌, refl, ap, sym, ◌∙◌}
use native.Mathlib.Omega.{arith}
use borrow.Author.Rules.{rules}
use mathlib.Core.Bool.{Bool, true, false, not}
use mathlib.Core.List.{List}
use lib.IntN.{ℤ}
use Rattle.formula.specs.Decode.{clauses_of}
use Rattle.dependency.specs.Marks.{pass}
use Rattle.dependency.specs.Search.{ones, entries, ordered, odd, passes}
use Rattle.dependency.specs.Search.Progress.{pass_ones, pass_still, none_left_still}
use Rattle.dependency.specs.Bits.{marks_in}
use Rattle.dependency.specs.Bits.Count.{pass_both}
use Rattle.dependency.proofs.search.settle.Goals as goal

-- One pass more over clauses, from each search's marks `m` to `m'`.
module _ (Cs : List (List ℤ)) (d : Bool) (m m' : Bool → List ℕ) (p : (s : Bool) → m' s ≡ pass (ordered d Cs) (m s)) where
  -- The passes with this one.
  next : (n : ℕ) (m₀ : Bool → List ℕ) → ((s : Bool) → m s ≡ passes n Cs (m₀ s)) → d ≡ odd n → (s : Bool) → m' s ≡ passes (suc n) Cs (m₀ s)
  unfolding passes
  next n m₀ a b s = p s ∙ ap (pass (ordered d Cs)) (a s) ∙ ap (λ (e : Bool). pass (ordered e Cs) (passes n Cs (m₀ s))) b

  -- What was an open literal is an entry.
  kept_sum : (s : Bool) → ones (m' s) + entries (m' s) ≡ ones (m s) + entries (m s)
  kept_sum s = rw (p s) (pass_both (ordered d Cs) (m s))

  fewer : (s : Bool) → ones (m' s) ≤ ones (m s)
  fewer s = rw (p s) (pass_ones (ordered d Cs) (m s))

  module _ (reached more : ℕ) (j : reached ≡ entries (m true) + entries (m false)) (k : more ≡ entries (m' true) + entries (m' false)) where
    -- What is left after the pass.
    left_after : (left : ℕ) → left ≡ ones (m true) + ones (m false) → (reached ≤ more) × (ones (m' true) + ones (m' false) + more ≡ left + reached)
    left_after left i =
        let a = kept_sum true in
        let b = kept_sum false in
        let f = fewer true in
        let g = fewer false in
        (omega arith, omega arith)

    -- Without an entry more the marks stay.
    same : more ≡ reached → (t : Bool) → m' t ≡ m t
    same e t = p t ∙ pass_still (ordered d Cs) (m t) (go t)
      where
        go : (u : Bool) → ones (pass (ordered d Cs) (m u)) ≡ ones (m u)
        go true = let q = ap ones (p true) in omega (arith, q, j, k, e, kept_sum true, kept_sum false, fewer true, fewer false)
        go false = let q = ap ones (p false) in omega (arith, q, j, k, e, kept_sum true, kept_sum false, fewer true, fewer false)

    still : more ≡ reached → (t : Bool) → pass (ordered d Cs) (m' t) ≡ m' t
    still e t = ap (pass (ordered d Cs)) (same e t) ∙ sym (p t)

-- Where no open literal is left in both, none is left in each.
none_left : (m : Bool → List ℕ) → 0 ≡ ones (m true) + ones (m false) → (t : Bool) → ones (m t) ≡ 0
none_left m e true = omega arith
none_left m e false = omega arith

pub loop-left-init : goal.loop-left-init
unfolding passes odd
loop-left-init c = (0, λ s. refl, c.requires, c.count_entries-reached.ensures, refl)

pub returns-then-more-reached : goal.returns-then-more-reached
returns-then-more-reached c s =
    let l = c.loop-left in
    let v = l.invariant in
    let Cs = clauses_of c.args.clauses.now in
    let m = λ (t : Bool). marks_in t l.marks in
    let m' = λ (t : Bool). marks_in t c.pass.new.marks in
    let p = c.pass.ensures in
    record {
      count = suc v.0;
      passed = next Cs l.back m m' p v.0 (λ (t : Bool). marks_in t c.args.marks.now) v.1 v.4 s;
      back = l.back;
      still = still Cs l.back m m' p l.reached c.count_entries-more.result v.3 c.count_entries-more.ensures c.if-more-reached.true s;
    }

pub overflow_sub-left : goal.overflow_sub-left
overflow_sub-left c =
    let l = c.loop-left in
    let v = l.invariant in
    (left_after (clauses_of c.args.clauses.now) l.back (λ (t : Bool). marks_in t l.marks) (λ (t : Bool). marks_in t c.pass.new.marks) c.pass.ensures l.reached c.count_entries-more.result v.3 c.count_entries-more.ensures l.left v.2).0

pub overflow_sub-left-in-loop-left : goal.overflow_sub-left-in-loop-left
overflow_sub-left-in-loop-left c =
    let l = c.loop-left in
    let v = l.invariant in
    let h = left_after (clauses_of c.args.clauses.now) l.back (λ (t : Bool). marks_in t l.marks) (λ (t : Bool). marks_in t c.pass.new.marks) c.pass.ensures l.reached c.count_entries-more.result v.3 c.count_entries-more.ensures l.left v.2 in
    omega (arith, h.0, h.1)

pub loop-left-smaller : goal.loop-left-smaller
loop-left-smaller c =
    let l = c.loop-left in
    let v = l.invariant in
    let h = left_after (clauses_of c.args.clauses.now) l.back (λ (t : Bool). marks_in t l.marks) (λ (t : Bool). marks_in t c.pass.new.marks) c.pass.ensures l.reached c.count_entries-more.result v.3 c.count_entries-more.ensures l.left v.2 in
    let n = c.if-more-reached.false in
    omega (arith, h.0, h.1, n)

pub loop-left-preserved : goal.loop-left-preserved
unfolding odd
loop-left-preserved c =
    let l = c.loop-left in
    let v = l.invariant in
    let Cs = clauses_of c.args.clauses.now in
    let m = λ (t : Bool). marks_in t l.marks in
    let m' = λ (t : Bool). marks_in t c.pass.new.marks in
    let p = c.pass.ensures in
    let h = left_after Cs l.back m m' p l.reached c.count_entries-more.result v.3 c.count_entries-more.ensures l.left v.2 in (
      suc v.0,
      next Cs l.back m m' p v.0 (λ (t : Bool). marks_in t c.args.marks.now) v.1 v.4,
      omega (arith, h.0, h.1),
      c.count_entries-more.ensures,
      ap not v.4,
    )

pub returns : goal.returns
returns c s =
    let l = c.loop-left in
    let v = l.invariant in
    let z : l.left ≡ 0 = search rules in
    record {
      count = v.0;
      passed = v.1 s;
      back = l.back;
      still = none_left_still (ordered l.back (clauses_of c.args.clauses.now)) (marks_in s l.marks) (none_left (λ (t : Bool). marks_in t l.marks) (sym z ∙ v.2) s);
    }
