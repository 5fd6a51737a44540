-- `find_clash`: no literal before the outer place clashes, and none before the inner place has the variable of the one looked
-- at; left by the label, that one is found. Assumes nothing.
use Prim.Native.Nat.{ℕ, ◌+◌, ◌≤◌, ◌<◌}
use mathlib.Core.Path.{◌≡◌, refl, ap, sym, ◌∙◌}
use mathlib.Core.Bool.{true, false, false≢true}
use mathlib.Core.List.{List, [], Memᴰ}
use native.Mathlib.Numerals.{add-one}
use native.Mathlib.Nat.{zero-add}
use native.Mathlib.Omega.{arith}
use borrow.Author.Rules.{rules}
use borrow.Author.Tests.{leb-true}
use lib.Dec.{leb}
use lib.ListN.{length, get_or, take, drop, drop_of_length-le, length-take}
use lib.Seq.{get_or-take}
use lib.IntN.{ℤ, pos, neg_ℤ, nat_abs}
use mir.Syntax.{w32}
use mir.Val.{to_z, of_z}
use mir.Facts.{to_z-of_z}
use Rattle.qbf.specs.Connectives.{and_both}
use Rattle.formula.specs.Bounds.{variable_bound, in_range}
use Rattle.formula.specs.Bounds.Laws.{literal_made, literal_refused}
use Rattle.formula.specs.Tables.{is_in}
use Rattle.formula.proofs.Theorems.Tables.Laws.{get_or_member}
use Rattle.formula.specs.Tables.Scan.{variables_before, clash_free}
use Rattle.formula.proofs.Signed.{negated_fits}
use Rattle.formula.proofs.Scan.{clash_at_seen, clash_at_fresh, same_clashes, opposed_clashes, neither_clashes, before_fresh, before_found}
use Rattle.formula.proofs.tables.find_clash.Goals as goal
use Rattle.formula.proofs.tables.find_clash.Goals.{then-earlier-literal-via-then-earlier-literal, then-earlier-literal-via-else-earlier-literal+then-earlier-opposite}

pub search-init : goal.search-init
unfolding variables_before
search-init c = (sym (zero-add _), refl)

-- every word of the clause is in range
range_at : (ws : List ℤ) (i : ℕ) → ((w : ℤ) → Memᴰ w ws → in_range (nat_abs w) variable_bound ≡ true) → i < length ws → in_range (nat_abs (get_or ws i (pos 0))) variable_bound ≡ true
range_at ws i r h = r (get_or ws i (pos 0)) (get_or_member ws i (pos 0) h)

small_at : (w : ℤ) → in_range (nat_abs w) variable_bound ≡ true → nat_abs w ≤ variable_bound
small_at w r = leb-true (nat_abs w) variable_bound (and_both (leb 1 (nat_abs w)) (leb (nat_abs w) variable_bound) r).1

pub returns-in_default : goal.returns-in_default
returns-in_default c =
    let ws = c.args.clause.now in
    let w = get_or ws c.search.i (pos 0) in
    let p : to_z w32 (of_z w32 w) ≡ w = search rules in
    let e = literal_refused (in_range (nat_abs w) variable_bound) w (rw p at (sym c.new.ensures) ∙ c.in_default.is) in
    absurd (false≢true (sym e ∙ range_at ws c.search.i c.requires c.search-test.true))

-- an earlier word of the same variable: the outer place is the answer
found :
    (ws : List ℤ) (i j : ℕ) → i < length ws → clash_free [] ws ≡ i + clash_free (variables_before ws i) (drop i ws) → j < i
    → nat_abs (get_or ws i (pos 0)) ≡ nat_abs (get_or ws j (pos 0)) → i ≡ clash_free [] ws
found ws i j l s h e =
    let z = clash_at_seen ws i l (variables_before ws i) (before_found (nat_abs (get_or ws i (pos 0))) ws j i h e) in
    omega (arith, z, s)

pub loop-earlier-init : goal.loop-earlier-init
unfolding variables_before is_in
loop-earlier-init c = (refl, c.search.invariant.1)

-- an earlier word of the clause
earlier_is : (ws : List ℤ) (i j : ℕ) → j < length (take i ws) → get_or (take i ws) j (pos 0) ≡ get_or ws j (pos 0)
earlier_is ws i j h = get_or-take i ws j (pos 0) (omega (arith, length-take i ws))

pub loop-earlier-preserved : goal.loop-earlier-preserved
loop-earlier-preserved c =
    let ws = c.args.clause.now in
    let i = c.search.i in
    let j = c.loop-earlier.earlier-index in
    let w = get_or ws i (pos 0) in
    let v = get_or ws j (pos 0) in
    let p : to_z w32 (of_z w32 w) ≡ w = search rules in
    let literal : c.in-Some.literal.0 ≡ w = sym (literal_made (in_range (nat_abs w) variable_bound) w _ (rw p at (sym c.new.ensures) ∙ c.in-Some.is)).1 in
    let opposite : c.negated-opposite.result.0 ≡ neg_ℤ w = rw literal at c.negated-opposite.ensures in
    let earlier = earlier_is ws i j c.loop-earlier-test.true in
    let differ : nat_abs w ≡ nat_abs v → ⊥ =
    neither_clashes v w
    (λ e. c.if-earlier-literal.false (rw (earlier, literal) (ap (of_z w32) e)))
    (λ e. c.if-earlier-opposite.false (rw (earlier, opposite) (ap (of_z w32) e))) in
    rw add-one (before_fresh (nat_abs w) ws j differ c.loop-earlier.invariant.0, c.loop-earlier.invariant.1)

pub search-preserved : goal.search-preserved
unfolding variables_before
search-preserved c =
    let ws = c.args.clause.now in
    let l = c.search in
    let e : c.loop-earlier.earlier-index ≡ l.i = omega (arith, length-take l.i ws) in
    let fresh : is_in (nat_abs (get_or ws l.i (pos 0))) (variables_before ws l.i) ≡ false = rw e at c.loop-earlier.invariant.0 in
    let step = clash_at_fresh ws l.i c.search-test.true (variables_before ws l.i) fresh in
    rw add-one (omega (arith, step, l.invariant.0), c.loop-earlier.invariant.1)

pub returns-after-search : goal.returns-after-search
unfolding clash_free
returns-after-search c =
    let l = c.search in
    let ws = c.args.clause.now in
    let h : length ws ≤ l.i = omega arith in
    let e : clash_free (variables_before ws l.i) (drop l.i ws) ≡ 0 = ap (clash_free (variables_before ws l.i)) (drop_of_length-le ws h) in
    omega (arith, e, l.invariant.0)

pub returns-then-earlier-literal : goal.returns-then-earlier-literal
returns-then-earlier-literal c =
    let ws = c.args.clause.now in
    let i = c.search.i in
    let j = c.loop-earlier.earlier-index in
    let w = get_or ws i (pos 0) in
    let v = get_or ws j (pos 0) in
    let p : to_z w32 (of_z w32 w) ≡ w = search rules in
    let literal : c.in-Some.literal.0 ≡ w = sym (literal_made (in_range (nat_abs w) variable_bound) w _ (rw p at (sym c.new.ensures) ∙ c.in-Some.is)).1 in
    let opposite : c.negated-opposite.result.0 ≡ neg_ℤ w = rw literal at c.negated-opposite.ensures in
    let back : to_z w32 (of_z w32 (neg_ℤ w)) ≡ neg_ℤ w = to_z-of_z (negated_fits w (small_at w (range_at ws i c.requires c.search-test.true))) in
    let earlier = earlier_is ws i j c.loop-earlier-test.true in
    let read : to_z w32 (of_z w32 (get_or (take i ws) j (pos 0))) ≡ get_or (take i ws) j (pos 0) = search rules in
    let q = rw earlier at read in
    let before : j < i = omega (arith, length-take i ws) in
    found ws i j c.search-test.true c.search.invariant.0 before
    (elim c.then-earlier-literal.branch [
      | then-earlier-literal-via-then-earlier-literal b ↦ same_clashes v w (sym q ∙ ap (to_z w32) (rw (earlier, literal) at b.if-earlier-literal.true) ∙ p)
      | then-earlier-literal-via-else-earlier-literal+then-earlier-opposite b ↦ opposed_clashes v w (sym q ∙ ap (to_z w32) (rw (earlier, opposite) at b.if-earlier-opposite.true) ∙ back)
    ])
