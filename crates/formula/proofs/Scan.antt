-- Laws of the parts of the check of tables: one word of each scan by its place, marks against the variables that a table lists, and one whole
-- clause judged by where its literals end and where they clash. Assumes nothing.
use Rattle.std.specs.Prelude.{Ok, Err}
use Prim.Native.Nat.{ℕ, zero, suc, ◌+◌, ◌-◌, ◌*◌, ◌≤◌, ◌<◌}
use mathlib.Core.Path.{◌≡◌, refl, ap, sym, ◌∙◌, subst}
use mathlib.Core.Logic.{◌⊎◌, inl, inr}
use mathlib.Core.Bool.{Bool, true, false, cond, ◌||◌, ◌&&◌, or-false}
use mathlib.Core.Option.{Option, none, some}
use mathlib.Core.List.Memᴰ
use mathlib.Core.List.{List, [], ◌∷◌, Memᴰ}
use native.Mathlib.Nat.{not-suc-le-zero, le_of_suc-le-suc}
use native.Mathlib.Decide.{ℕ_discrete}
use native.Mathlib.Numerals.{add-one}
use native.Mathlib.Omega.{arith}
use borrow.Author.Tests.{ltb-false, leb-true, le-leb, lt-leb, eq-eqb, ne_eqb}
use lib.ListN.{length, get_or, take, drop, set, replicate, length-drop, length-replicate, get_or-replicate, drop_of_length-le}
use lib.Seq.{drop-cons, drop-drop, get_or-set_same, get_or-set_other, get_or-drop, take-nil}
use lib.Dec.{ltb, leb, eqb}
use lib.IntN.{ℤ, pos, neg_ℤ, nat_abs}
use Rattle.qbf.specs.Connectives.{and_both, or_left, or_right}
use Rattle.bits.specs.Flags.{flags}
use Rattle.bits.specs.Flags.Laws.{length_flags, flags_zeros}
use Rattle.formula.specs.Bounds.{variable_bound, in_range}
use Rattle.formula.specs.Word.{word_of}
use Rattle.formula.specs.Refusal.{passes, refusal}
use Rattle.formula.specs.Prefix.{prefix_of, entry_count}
use Rattle.formula.specs.Decode.Laws.{magnitude_same, magnitude_negated}
use Rattle.formula.specs.Tables.{is_in, zeros, literal_word, clause_word, clauses_end, clauses_refusal, listed_in, sized, first_refusal, words_refusal, tables_refusal, answer_tables, tables_answer, admits}
use Rattle.formula.proofs.Theorems.Tables.Laws.{clause_word_zero, clause_word_large, clause_word_literal}
use Rattle.formula.specs.Tables.Scan.{AllOrNone, marks_used, marked, Listing, variables_before, further, plain_run, clash_free, ClauseStep}
use Rattle.formula.specs.declared.refusal.Refusal.{Refusal}
use Rattle.formula.specs.declared.refusal.Reason.TheVariants.{Oversized, OutOfRange, Unbound, Clash, Unfinished}

-- The marks used are lent, and are all or none.
pub marks_used_fit : (lent : ℕ) → (marks_used lent ≤ lent) × AllOrNone (marks_used lent)
marks_used_fit lent = go (ltb lent 128) refl
  where
    go : (b : Bool) → ltb lent 128 ≡ b → (cond b 0 128 ≤ lent) × AllOrNone (cond b 0 128)
    go true e = (omega arith, λ h. absurd (omega arith))
    go false e = (ltb-false lent 128 e, λ h. refl)

-- Marks: none at first; one more variable, which the table then lists besides.
pub listing_none : (bytes : ℕ) → AllOrNone bytes → Listing [] (replicate bytes 0)
unfolding marked is_in prefix_of
listing_none bytes a =
    record {
      size = rw (length-replicate {A = ℕ} bytes 0) a;
      says = λ h v l u.
          let e = a (rw (length-replicate {A = ℕ} bytes 0) at h) in
          rw (flags_zeros bytes, get_or-replicate {A = ℕ} (8 * bytes) (v - 1) 0 0 (omega arith));
    }

pub listing_add :
    {table table' : List ℤ} {marks marks' : List ℕ} (v : ℕ) → 1 ≤ v → v ≤ variable_bound
    → Listing table marks
    → length marks' ≡ length marks
    → (0 < length marks → flags marks' ≡ set (flags marks) (v - 1) 1)
    → ((u : ℕ) → listed_in table' u ≡ (listed_in table u || eqb u v))
    → Listing table' marks'
unfolding marked
listing_add {table} {table'} {marks} {marks'} v l u L e put more =
    record { size = rw e L.size; says = λ h w lw uw. at (rw e at h) w lw uw (ℕ_discrete w v) }
  where
    at : 0 < length marks → (w : ℕ) → 1 ≤ w → w ≤ variable_bound → Dec (w ≡ v) → eqb (get_or (flags marks') (w - 1) 0) 1 ≡ listed_in table' w
    at h w lw uw (yes q) =
        let size = L.size h in
        let inside : v - 1 < length (flags marks) = rw (length_flags marks) (omega arith) in
        rw (put h, q, get_or-set_same (flags marks) (v - 1) 1 0 inside)
        (sym (more v ∙ or_right (listed_in table v) (eqb v v) (eq-eqb v v refl)))
    at h w lw uw (no n) =
        let other : w - 1 ≡ v - 1 → ⊥ = λ q. n (omega arith) in
        rw (put h, get_or-set_other (flags marks) (v - 1) (w - 1) 1 0 other)
        (L.says h w lw uw ∙ sym (more w ∙ rw (ne_eqb w v n) (or-false (listed_in table w))))

-- The run of literals, by the word at a place.
module _ (known : ℕ → Bool) (ws : List ℤ) (i : ℕ) (h : i < length ws) where
  plain_at : plain_run known (drop i ws) ≡ further (in_range (nat_abs (get_or ws i (pos 0))) variable_bound && known (nat_abs (get_or ws i (pos 0)))) (plain_run known (drop (suc i) ws))
  unfolding plain_run
  plain_at = rw (drop-cons ws i (pos 0) h)

  pub plain_at_zero : get_or ws i (pos 0) ≡ pos 0 → plain_run known (drop i ws) ≡ 0
  plain_at_zero e = plain_at ∙ rw e

  pub plain_at_large : variable_bound < nat_abs (get_or ws i (pos 0)) → plain_run known (drop i ws) ≡ 0
  plain_at_large l = plain_at ∙ rw (le-leb 1 (nat_abs (get_or ws i (pos 0))) (omega arith), lt-leb (nat_abs (get_or ws i (pos 0))) variable_bound l)

  pub plain_at_unknown : known (nat_abs (get_or ws i (pos 0))) ≡ false → plain_run known (drop i ws) ≡ 0
  plain_at_unknown e = plain_at ∙ rw e (never (in_range (nat_abs (get_or ws i (pos 0))) variable_bound))
    where
      never : (b : Bool) → further (b && false) (plain_run known (drop (suc i) ws)) ≡ 0
      never true = refl
      never false = refl

  pub plain_at_known :
      1 ≤ nat_abs (get_or ws i (pos 0))
      → nat_abs (get_or ws i (pos 0)) ≤ variable_bound
      → known (nat_abs (get_or ws i (pos 0))) ≡ true
      → plain_run known (drop i ws) ≡ suc (plain_run known (drop (suc i) ws))
  plain_at_known l u e =
      plain_at ∙ rw (le-leb 1 (nat_abs (get_or ws i (pos 0))) l, le-leb (nat_abs (get_or ws i (pos 0))) variable_bound u, e)

-- The search for a clash, by the word at a place.
module _ (ws : List ℤ) (i : ℕ) (h : i < length ws) (seen : List ℕ) where
  pub clash_at_seen : is_in (nat_abs (get_or ws i (pos 0))) seen ≡ true → clash_free seen (drop i ws) ≡ 0
  unfolding clash_free
  clash_at_seen e = rw (drop-cons ws i (pos 0) h, e)

  pub clash_at_fresh :
      is_in (nat_abs (get_or ws i (pos 0))) seen ≡ false
      → clash_free seen (drop i ws) ≡ suc (clash_free (nat_abs (get_or ws i (pos 0)) ∷ seen) (drop (suc i) ws))
  unfolding clash_free
  clash_at_fresh e = rw (drop-cons ws i (pos 0) h, e)

-- A word equal or opposed to an earlier one has its variable; one that is neither has another.
pub same_clashes : (v w : ℤ) → v ≡ w → nat_abs w ≡ nat_abs v
same_clashes v w e = ap nat_abs (sym e)

pub opposed_clashes : (v w : ℤ) → v ≡ neg_ℤ w → nat_abs w ≡ nat_abs v
opposed_clashes v w e = sym (magnitude_negated w) ∙ ap nat_abs (sym e)

pub neither_clashes : (v w : ℤ) → (v ≡ w → ⊥) → (v ≡ neg_ℤ w → ⊥) → nat_abs w ≡ nat_abs v → ⊥
neither_clashes v w n m e = go (magnitude_same v w (sym e))
  where
    go : (v ≡ w) ⊎ (v ≡ neg_ℤ w) → ⊥
    go (inl q) = n q
    go (inr q) = m q

-- The variables before a place: one more word, and a variable found among the first j is among the first i.
pub before_fresh : (v : ℕ) (ws : List ℤ) (j : ℕ) → (v ≡ nat_abs (get_or ws j (pos 0)) → ⊥) → is_in v (variables_before ws j) ≡ false → is_in v (variables_before ws (suc j)) ≡ false
unfolding variables_before is_in
before_fresh v ws j n e = rw (ne_eqb v (nat_abs (get_or ws j (pos 0))) n) e

pub before_found : (v : ℕ) (ws : List ℤ) (j i : ℕ) → j < i → v ≡ nat_abs (get_or ws j (pos 0)) → is_in v (variables_before ws i) ≡ true
unfolding variables_before is_in
before_found v ws j zero h e = absurd (not-suc-le-zero h)
before_found v ws j (suc i) h e = go (ℕ_discrete j i) (λ k. before_found v ws j i k e)
  where
    go : Dec (j ≡ i) → (j < i → is_in v (variables_before ws i) ≡ true) → (eqb v (nat_abs (get_or ws i (pos 0))) || is_in v (variables_before ws i)) ≡ true
    go (yes q) later = or_left (eqb v (nat_abs (get_or ws i (pos 0)))) (is_in v (variables_before ws i)) (eq-eqb v (nat_abs (get_or ws i (pos 0))) (e ∙ ap (λ (k : ℕ). nat_abs (get_or ws k (pos 0))) q))
    go (no n) later = or_right (eqb v (nat_abs (get_or ws i (pos 0)))) (is_in v (variables_before ws i)) (later (omega arith))

-- A clause judged. Its literals are all of the run; the run is within the table and within the range.
pub run_within : (known : ℕ → Bool) (ws : List ℤ) → plain_run known ws ≤ length ws
unfolding plain_run
run_within known [] = omega arith
run_within known (w ∷ ws) = go (in_range (nat_abs w) variable_bound && known (nat_abs w)) (run_within known ws)
  where
    go : (b : Bool) → plain_run known ws ≤ length ws → further b (plain_run known ws) ≤ suc (length ws)
    go true h = omega arith
    go false h = omega arith

pub run_range : (known : ℕ → Bool) (ws : List ℤ) (w : ℤ) → Memᴰ w (take (plain_run known ws) ws) → in_range (nat_abs w) variable_bound ≡ true
unfolding plain_run
run_range known [] w m = absurd (Memᴰ.not-nil (subst (λ (l : List ℤ). Memᴰ w l) (take-nil 0) m))
run_range known (v ∷ ws) w m = go (in_range (nat_abs v) variable_bound && known (nat_abs v)) refl m (λ k. run_range known ws w k)
  where
    side : (in_range (nat_abs v) variable_bound && known (nat_abs v)) ≡ true → (w ≡ v) ⊎ Memᴰ w (take (plain_run known ws) ws)
        → (Memᴰ w (take (plain_run known ws) ws) → in_range (nat_abs w) variable_bound ≡ true)
        → in_range (nat_abs w) variable_bound ≡ true
    side e (inl q) later = rw q (and_both (in_range (nat_abs v) variable_bound) (known (nat_abs v)) e).0
    side e (inr k) later = later k

    go : (b : Bool) → (in_range (nat_abs v) variable_bound && known (nat_abs v)) ≡ b → Memᴰ w (take (further b (plain_run known ws)) (v ∷ ws))
        → (Memᴰ w (take (plain_run known ws) ws) → in_range (nat_abs w) variable_bound ≡ true)
        → in_range (nat_abs w) variable_bound ≡ true
    go true e k later = side e (Memᴰ.cases_cons k) later
    go false e k later = absurd (Memᴰ.not-nil k)

-- The variables of the first n words put before those seen.
gathered : List ℕ → List ℤ → ℕ → List ℕ
gathered seen ws zero = seen
gathered seen [] (suc n) = seen
gathered seen (w ∷ ws) (suc n) = gathered (nat_abs w ∷ seen) ws n

gathered_some : (v : ℕ) (seen : List ℕ) (ws : List ℤ) (n : ℕ) (at : ℕ) → clauses_end at (gathered (v ∷ seen) ws n) ≡ some (refusal Unfinished at)
unfolding gathered
gathered_some v seen ws zero at = refl
gathered_some v seen [] (suc n) at = refl
gathered_some v seen (w ∷ ws) (suc n) at = gathered_some (nat_abs w) (v ∷ seen) ws n at

-- A word of the run: a literal in range of a known variable, judged by the clash alone.
plain_judged :
    (known : ℕ → Bool) (at : ℕ) (seen : List ℕ) (w : ℤ) (ws : List ℤ)
    → (in_range (nat_abs w) variable_bound && known (nat_abs w)) ≡ true
    → clauses_refusal known at seen (w ∷ ws) ≡ literal_word at true (is_in (nat_abs w) seen) (clauses_refusal known (at + 1) (nat_abs w ∷ seen) ws)
unfolding clauses_refusal
plain_judged known at seen w ws e =
    let a = and_both (in_range (nat_abs w) variable_bound) (known (nat_abs w)) e in
    let r = and_both (leb 1 (nat_abs w)) (leb (nat_abs w) variable_bound) a.0 in
    clause_word_literal known at seen (λ s. clauses_refusal known (at + 1) s ws) w (leb-true 1 (nat_abs w) r.0) (leb-true (nat_abs w) variable_bound r.1)
    ∙ rw a.1

module _ (known : ℕ → Bool) where
  -- A clash within the run is refused where it is.
  run_clash :
      (at : ℕ) (seen : List ℕ) (ws : List ℤ)
      → clash_free seen (take (plain_run known ws) ws) < plain_run known ws
      → clauses_refusal known at seen ws ≡ some (refusal Clash (at + clash_free seen (take (plain_run known ws) ws)))
  unfolding plain_run clash_free
  run_clash at seen [] h = absurd (not-suc-le-zero h)
  run_clash at seen (w ∷ ws) h =
      go (in_range (nat_abs w) variable_bound && known (nat_abs w)) (is_in (nat_abs w) seen) refl refl (λ k. run_clash (at + 1) (nat_abs w ∷ seen) ws k) h
    where
      free : ℕ
      free = clash_free (nat_abs w ∷ seen) (take (plain_run known ws) ws)

      go :
          (b i : Bool)
          → (in_range (nat_abs w) variable_bound && known (nat_abs w)) ≡ b
          → is_in (nat_abs w) seen ≡ i
          → (free < plain_run known ws → clauses_refusal known (at + 1) (nat_abs w ∷ seen) ws ≡ some (refusal Clash (at + 1 + free)))
          → clash_free seen (take (further b (plain_run known ws)) (w ∷ ws)) < further b (plain_run known ws)
          → clauses_refusal known at seen (w ∷ ws) ≡ some (refusal Clash (at + clash_free seen (take (further b (plain_run known ws)) (w ∷ ws))))
      go false i e q later k = absurd (not-suc-le-zero k)
      go true true e q later k =
          let z : at ≡ at + 0 = omega arith in
          plain_judged known at seen w ws e ∙ rw q (ap (λ (p : ℕ). some (refusal Clash p)) z)
      go true false e q later k =
          let m : suc free < suc (plain_run known ws) = rw q at k in
          let z : at + 1 + free ≡ at + suc free = omega arith in
          plain_judged known at seen w ws e ∙ rw q (later (omega arith) ∙ ap (λ (p : ℕ). some (refusal Clash p)) z)

  -- A run without a clash goes by.
  run_passes :
      (at : ℕ) (seen : List ℕ) (ws : List ℤ)
      → plain_run known ws ≤ clash_free seen (take (plain_run known ws) ws)
      → clauses_refusal known at seen ws
      ≡ clauses_refusal known (at + plain_run known ws) (gathered seen ws (plain_run known ws)) (drop (plain_run known ws) ws)
  unfolding plain_run clash_free gathered
  run_passes at seen [] h = let z : at ≡ at + 0 = omega arith in ap (λ (p : ℕ). clauses_refusal known p seen []) z
  run_passes at seen (w ∷ ws) h =
      go (in_range (nat_abs w) variable_bound && known (nat_abs w)) (is_in (nat_abs w) seen) refl refl (λ k. run_passes (at + 1) (nat_abs w ∷ seen) ws k) h
    where
      free : ℕ
      free = clash_free (nat_abs w ∷ seen) (take (plain_run known ws) ws)

      rest : List ℕ
      rest = gathered (nat_abs w ∷ seen) ws (plain_run known ws)

      go :
          (b i : Bool)
          → (in_range (nat_abs w) variable_bound && known (nat_abs w)) ≡ b
          → is_in (nat_abs w) seen ≡ i
          → (plain_run known ws ≤ free
          → clauses_refusal known (at + 1) (nat_abs w ∷ seen) ws ≡ clauses_refusal known (at + 1 + plain_run known ws) rest (drop (plain_run known ws) ws))
          → further b (plain_run known ws) ≤ clash_free seen (take (further b (plain_run known ws)) (w ∷ ws))
          → clauses_refusal known at seen (w ∷ ws)
          ≡ clauses_refusal known (at + further b (plain_run known ws)) (gathered seen (w ∷ ws) (further b (plain_run known ws))) (drop (further b (plain_run known ws)) (w ∷ ws))
      go false i e q later k = let z : at ≡ at + 0 = omega arith in ap (λ (p : ℕ). clauses_refusal known p seen (w ∷ ws)) z
      go true true e q later k = absurd (not-suc-le-zero (rw q at k))
      go true false e q later k =
          let m : suc (plain_run known ws) ≤ suc free = rw q at k in
          let z : at + 1 + plain_run known ws ≡ at + suc (plain_run known ws) = omega arith in
          plain_judged known at seen w ws e
          ∙ rw q (later (omega arith) ∙ ap (λ (p : ℕ). clauses_refusal known p rest (drop (plain_run known ws) ws)) z)

  -- The word that the run stops at.
  run_stops : (ws : List ℤ) → plain_run known ws < length ws
      → (in_range (nat_abs (get_or ws (plain_run known ws) (pos 0))) variable_bound && known (nat_abs (get_or ws (plain_run known ws) (pos 0)))) ≡ false
  unfolding plain_run
  run_stops [] h = absurd (not-suc-le-zero h)
  run_stops (w ∷ ws) h = go (in_range (nat_abs w) variable_bound && known (nat_abs w)) refl (λ k. run_stops ws k) h
    where
      stop : ℕ → Bool
      stop n = in_range (nat_abs (get_or (w ∷ ws) n (pos 0))) variable_bound && known (nat_abs (get_or (w ∷ ws) n (pos 0)))

      go :
          (b : Bool)
          → (in_range (nat_abs w) variable_bound && known (nat_abs w)) ≡ b
          → (plain_run known ws < length ws
          → (in_range (nat_abs (get_or ws (plain_run known ws) (pos 0))) variable_bound && known (nat_abs (get_or ws (plain_run known ws) (pos 0)))) ≡ false)
          → further b (plain_run known ws) < suc (length ws)
          → stop (further b (plain_run known ws)) ≡ false
      go true e later k = later (le_of_suc-le-suc k)
      go false e later k = e

-- A refusal is no place to go on at.
stopped : {r : Refusal} {next : ℕ} {A : Type 0} → Err r ≡ Ok next → A
stopped e = let z : ◌≡◌ {A = ℕ} 0 1 = cc in absurd (omega arith)

-- The clause that begins at `from`, by the run of its literals: each outcome of `check_clause`.
module _ (known : ℕ → Bool) (ws : List ℤ) (from : ℕ) where
  -- the place after the run, and how far it goes without a clash
  abbrev run : ℕ
  run = plain_run known (drop from ws)

  abbrev free : ℕ
  free = clash_free [] (take run (drop from ws))

  pub clause_clash : free < run → ClauseStep known ws from (Err (refusal Clash (from + free)))
  clause_clash h = record { same = run_clash known from [] (drop from ws) h; onward = λ next e. stopped e }

  module _ (h : run ≤ free) where
    -- what is left to judge at the place after the run
    at_stop : clauses_refusal known from [] (drop from ws) ≡ clauses_refusal known (from + run) (gathered [] (drop from ws) run) (drop (from + run) ws)
    at_stop =
        run_passes known from [] (drop from ws) h
        ∙ ap (clauses_refusal known (from + run) (gathered [] (drop from ws) run)) (drop-drop run from ws)

    pub clause_unfinished : from < length ws → length ws ≤ from + run → ClauseStep known ws from (Err (refusal Unfinished (from + run)))
    unfolding clauses_refusal gathered
    clause_unfinished l e = record { same = at_stop ∙ ap (clauses_refusal known (from + run) (gathered [] (drop from ws) run)) (drop_of_length-le ws e) ∙ some_seen; onward = λ next q. stopped q }
      where
        begun : (us : List ℤ) (n : ℕ) → 1 ≤ n → 1 ≤ length us → clauses_end (from + run) (gathered [] us n) ≡ some (refusal Unfinished (from + run))
        begun us zero i k = absurd (not-suc-le-zero i)
        begun [] (suc n) i k = absurd (not-suc-le-zero k)
        begun (u ∷ us) (suc n) i k = gathered_some (nat_abs u) [] us n (from + run)

        some_seen : clauses_end (from + run) (gathered [] (drop from ws) run) ≡ some (refusal Unfinished (from + run))
        some_seen = begun (drop from ws) run (omega arith) (rw (length-drop from ws) (omega arith))

    module _ (l : from + run < length ws) where
      stop_at :
          clauses_refusal known (from + run) (gathered [] (drop from ws) run) (drop (from + run) ws)
          ≡ clause_word known (from + run) (gathered [] (drop from ws) run) (word_of (get_or ws (from + run) (pos 0))) (λ s. clauses_refusal known (from + run + 1) s (drop (suc (from + run)) ws))
      unfolding clauses_refusal
      stop_at = rw (drop-cons ws (from + run) (pos 0) l)

      next : List ℕ → Option Refusal
      next s = clauses_refusal known (from + run + 1) s (drop (suc (from + run)) ws)

      pub clause_closed : get_or ws (from + run) (pos 0) ≡ pos 0 → ClauseStep known ws from (Ok (from + run + 1))
      unfolding next
      clause_closed z =
          record {
            same = at_stop ∙ stop_at ∙ clause_word_zero known (from + run) (gathered [] (drop from ws) run) next (get_or ws (from + run) (pos 0)) z ∙ rw add-one;
            onward = λ n e. after n (cc);
          }
        where
          after : (n : ℕ) → from + run + 1 ≡ n → (from < n) × (n ≤ length ws)
          after n e = (omega arith, omega arith)

      pub clause_large : variable_bound < nat_abs (get_or ws (from + run) (pos 0)) → ClauseStep known ws from (Err (refusal OutOfRange (from + run)))
      unfolding next
      clause_large z =
          record {
            same = at_stop ∙ stop_at ∙ clause_word_large known (from + run) (gathered [] (drop from ws) run) next (get_or ws (from + run) (pos 0)) z;
            onward = λ n e. stopped e;
          }

      pub clause_unbound :
          1 ≤ nat_abs (get_or ws (from + run) (pos 0))
          → nat_abs (get_or ws (from + run) (pos 0)) ≤ variable_bound
          → ClauseStep known ws from (Err (refusal Unbound (from + run)))
      unfolding next
      clause_unbound b u =
          record {
            same =
                at_stop
                ∙ stop_at
                ∙ clause_word_literal known (from + run) (gathered [] (drop from ws) run) next (get_or ws (from + run) (pos 0)) b u
                ∙ rw unknown;
            onward = λ n e. stopped e;
          }
        where
          at : get_or (drop from ws) run (pos 0) ≡ get_or ws (from + run) (pos 0)
          at = get_or-drop from ws run (pos 0)

          unknown : known (nat_abs (get_or ws (from + run) (pos 0))) ≡ false
          unknown =
              let e = rw at at (run_stops known (drop from ws) (rw (length-drop from ws) (omega arith))) in
              rw (le-leb 1 (nat_abs (get_or ws (from + run) (pos 0))) b, le-leb (nat_abs (get_or ws (from + run) (pos 0))) variable_bound u) at e

-- Two parts of the check in order: the first refuses, or the second answers.
pub first_refuses : (a b : Option Refusal) (r : Refusal) → passes a ≡ Err r → passes (first_refusal a b) ≡ Err r
first_refuses none b r e = let z : ◌≡◌ {A = ℕ} 0 1 = cc in absurd (omega arith)
first_refuses (some s) b r e = e

pub first_passes : (a b : Option Refusal) → passes a ≡ Ok tt → passes (first_refusal a b) ≡ passes b
first_passes none b e = refl
first_passes (some s) b e = let z : ◌≡◌ {A = ℕ} 0 1 = cc in absurd (omega arith)

-- The whole check: oversized, or the answer of the words.
pub sizes_refused : (p c : List ℤ) → sized p c ≡ false → tables_answer p c ≡ Err (refusal Oversized 0)
unfolding tables_refusal
sizes_refused p c e = rw e

module _ (p c : List ℤ) (e : sized p c ≡ true) where
  pub words_refused : (r : Refusal) → passes (words_refusal p c) ≡ Err r → tables_answer p c ≡ Err r
  unfolding tables_refusal
  words_refused r h = rw e (go (words_refusal p c) h)
    where
      go : (a : Option Refusal) → passes a ≡ Err r → answer_tables a (entry_count p) (zeros c) ≡ Err r
      go none k = let z : ◌≡◌ {A = ℕ} 0 1 = cc in absurd (omega arith)
      go (some s) k = let q : s ≡ r = cc in ap Err q

  pub words_admitted : passes (words_refusal p c) ≡ Ok tt → tables_answer p c ≡ admits (entry_count p) (zeros c)
  unfolding tables_refusal
  words_admitted h = rw e (go (words_refusal p c) h)
    where
      go : (a : Option Refusal) → passes a ≡ Ok tt → answer_tables a (entry_count p) (zeros c) ≡ admits (entry_count p) (zeros c)
      go none k = refl
      go (some s) k = let z : ◌≡◌ {A = ℕ} 0 1 = cc in absurd (omega arith)
