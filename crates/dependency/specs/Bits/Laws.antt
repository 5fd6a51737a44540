-- The marks that bytes hold: each by its two flags, and what storing a flag does to them. Definitions: Bits. Assumes nothing.
use Rattle.std.specs.Prelude.{ℕ, zero, suc, ◌+◌, ◌-◌, ◌/◌, ◌<◌, ◌≤◌, ◌≡◌, refl, ◌≢◌, Bool, true, false, List, [], ◌∷◌, length, get_or, set, replicate, ltb}
use Rattle.std.proofs.Common.{sym, ◌∙◌, arith, lt-ltb, le-ltb, length-append, length-set, ext_get_or, get_or-set_same, get_or-set_other}
use Rattle.std.proofs.Math.Logic.{dite}
use Rattle.std.proofs.Math.Decide.{ℕ_discrete, dec_lt}
use Rattle.std.proofs.lemmas.List.{length-replicate, get_or-replicate, get_or_at}
use Rattle.std.proofs.Math.ListN.{get_or-append}
use Rattle.formula.specs.Word.{slot}
use Rattle.dependency.specs.Marks.{select}
use Rattle.dependency.specs.Bits.{tab, mark_from, is_on, base, mark_at, marks_of}

-- A list by its places.
pub length_tab : (f : ℕ → ℕ) (n : ℕ) → length (tab f n) ≡ n
unfolding tab
length_tab f zero = refl
length_tab f (suc n) = let k = length_tab f n in length-append (tab f n) (f n ∷ []) ∙ omega arith

pub get_or_tab : (f : ℕ → ℕ) (n i : ℕ) → i < n → get_or (tab f n) i 0 ≡ f i
unfolding tab
get_or_tab f zero i h = absurd (omega arith)
get_or_tab f (suc n) i h =
    let k = length_tab f n in
    dite (ℕ_discrete i n)
    (λ e. rw e (get_or_at (tab f n) (f n) [] 0 n k))
    (λ e. get_or-append (tab f n) (f n ∷ []) 0 i (omega arith) ∙ get_or_tab f n i (omega arith))

-- Each mark by its flags.
pub length_marks : (s : Bool) (fs : List ℕ) → length (marks_of s fs) ≡ 2050
unfolding marks_of
length_marks s fs = length_tab (mark_at s fs) 2050

mark_is : (s : Bool) (fs : List ℕ) (p : ℕ) → p < 2050 → get_or (marks_of s fs) p 0 ≡ mark_at s fs p
unfolding marks_of
mark_is s fs p h = get_or_tab (mark_at s fs) 2050 p h

pub mark_literal : (s : Bool) (fs : List ℕ) (p : ℕ) → 2 ≤ p → p < 2050 → get_or (marks_of s fs) p 0 ≡ mark_from (is_on fs (2047 + p / 2)) (is_on fs (base s + (p - 2)))
mark_literal s fs p l h = mark_is s fs p h ∙ rw (le-ltb p 2 l)

-- Marks that are the same at each place.
same_marks : (s : Bool) (fs m : List ℕ) → length m ≡ 2050 → ((p : ℕ) → p < 2050 → mark_at s fs p ≡ get_or m p 0) → marks_of s fs ≡ m
same_marks s fs m size h =
    ext_get_or 0 (marks_of s fs) m (length_marks s fs ∙ sym size) (λ p k. let z : p < 2050 = rw (length_marks s fs) at k in mark_is s fs p z ∙ h p z)

-- No flag is set.
pub marks_zero : (s : Bool) (n : ℕ) → marks_of s (replicate n 0) ≡ replicate 2050 0
marks_zero s n = same_marks s (replicate n 0) (replicate 2050 0) (length-replicate {A = ℕ} 2050 0) (λ p h. rw (off n (2047 + p / 2), off n (base s + (p - 2)), get_or-replicate {A = ℕ} 2050 p 0 0 h) (go (ltb p 2)))
  where
    off : (n i : ℕ) → is_on (replicate n 0) i ≡ false
    off zero i = refl
    off (suc n) zero = refl
    off (suc n) (suc i) = off n i

    go : (b : Bool) → ◌≡◌ {A = ℕ} (select b 0 0) 0
    go true = refl
    go false = refl

-- A flag that is stored, and the others.
on_set : (fs : List ℕ) (i : ℕ) → i < length fs → is_on (set fs i 1) i ≡ true
on_set fs i h = rw (get_or-set_same fs i 1 0 h)

on_other : (fs : List ℕ) (i j : ℕ) → j ≢ i → is_on (set fs i 1) j ≡ is_on fs j
on_other fs i j n = rw (get_or-set_other fs i j 1 0 n)

-- The flags of entries of the two searches are apart from each other and from the variables'.
apart_variable : (s : Bool) (i v : ℕ) → i < 2048 → 1 ≤ v → v ≤ 1024 → 2047 + v ≢ base s + i
apart_variable true i v h k l e = omega arith
apart_variable false i v h k l e = omega arith

apart_entry : (s t : Bool) (i j : ℕ) → i < 2048 → j < 2048 → base s + i ≡ base t + j → (s ≡ t) × (i ≡ j)
apart_entry true true i j h k e = (refl, omega arith)
apart_entry true false i j h k e = absurd (omega arith)
apart_entry false true i j h k e = absurd (omega arith)
apart_entry false false i j h k e = (refl, omega arith)

entry_below : (s : Bool) (i : ℕ) → i < 2048 → base s + i < 5120
entry_below true i h = omega arith
entry_below false i h = omega arith

-- A literal becomes an entry of a search.
module _ (s : Bool) (fs : List ℕ) (size : length fs ≡ 5120) (p : ℕ) (l : 2 ≤ p) (h : p < 2050) where
  abbrev entered : List ℕ
  entered = set fs (base s + (p - 2)) 1

  abbrev value : ℕ
  value = mark_from (is_on fs (2047 + p / 2)) true

  -- a mark of either search but this one
  kept_at : (t : Bool) (j : ℕ) → j < 2050 → (t ≡ s → j ≢ p) → mark_at t entered j ≡ mark_at t fs j
  kept_at t j k n =
      dite (dec_lt j 2)
      (λ q. rw (lt-ltb j 2 q))
      (λ q.
      let b : 2 ≤ j = omega arith in
      rw (
        le-ltb j 2 b,
        on_other fs (base s + (p - 2)) (2047 + j / 2) (apart_variable s (p - 2) (j / 2) (omega arith) (omega arith) (omega arith)),
        on_other fs (base s + (p - 2)) (base t + (j - 2)) (λ e. let z = apart_entry t s (j - 2) (p - 2) (omega arith) (omega arith) e in let y = z.1 in n z.0 (omega arith)),
      ))

  own_at : mark_at s entered p ≡ value
  own_at =
      let below = entry_below s (p - 2) (omega arith) in
      rw (le-ltb p 2 l, on_other fs (base s + (p - 2)) (2047 + p / 2) (apart_variable s (p - 2) (p / 2) (omega arith) (omega arith) (omega arith)), on_set fs (base s + (p - 2)) (omega arith))

  pub enter : marks_of s (set fs (base s + (p - 2)) 1) ≡ set (marks_of s fs) p (mark_from (is_on fs (2047 + p / 2)) true)
  enter =
      same_marks s entered (set (marks_of s fs) p value) (length-set (marks_of s fs) p value ∙ length_marks s fs)
      (λ j k. dite (ℕ_discrete j p)
      (λ e. let z = length_marks s fs in rw e (own_at ∙ sym (get_or-set_same (marks_of s fs) p value 0 (omega arith))))
      (λ n. kept_at s j k (λ _. n) ∙ sym (get_or-set_other (marks_of s fs) p j value 0 n ∙ mark_is s fs j k)))

  pub enter_other : (t : Bool) → t ≢ s → marks_of t (set fs (base s + (p - 2)) 1) ≡ marks_of t fs
  enter_other t n = same_marks t entered (marks_of t fs) (length_marks t fs) (λ j k. kept_at t j k (λ e. absurd (n e)) ∙ sym (mark_is t fs j k))

-- A variable may be passed, neither of its literals being an entry.
module _ (s : Bool) (fs : List ℕ) (size : length fs ≡ 5120) (v : ℕ) (l : 1 ≤ v) (h : v ≤ 1024)
    (none : (i : ℕ) → i < 2048 → get_or fs (base s + i) 0 ≡ 0) where
  abbrev opened : List ℕ
  opened = set fs (2047 + v) 1

  abbrev pair : List ℕ
  pair = set (set (marks_of s fs) (slot v true) 1) (slot v false) 1

  closed : (i : ℕ) → i < 2048 → is_on fs (base s + i) ≡ false
  closed i k = rw (none i k)

  opened_at : (p : ℕ) → 2 ≤ p → p < 2050 → p / 2 ≡ v → mark_at s opened p ≡ 1
  opened_at p b k e =
      rw (
        le-ltb p 2 b,
        e,
        on_set fs (2047 + v) (omega arith),
        on_other fs (2047 + v) (base s + (p - 2)) (λ q. apart_variable s (p - 2) v (omega arith) l h (sym q)),
        closed (p - 2) (omega arith),
      )

  closed_at_lem : (p : ℕ) → p < 2050 → p / 2 ≢ v → mark_at s opened p ≡ mark_at s fs p
  closed_at_lem p k n =
      dite (dec_lt p 2)
      (λ q. rw (lt-ltb p 2 q))
      (λ q.
      let b : 2 ≤ p = omega arith in
      rw (
        le-ltb p 2 b,
        on_other fs (2047 + v) (2047 + p / 2) (λ e. n (omega arith)),
        on_other fs (2047 + v) (base s + (p - 2)) (λ e. apart_variable s (p - 2) v (omega arith) l h (sym e)),
      ))

  pair_at : (p : ℕ) → p < 2050 → mark_at s opened p ≡ get_or pair p 0
  pair_at p k =
      let z = length_marks s fs in
      let y = length-set (marks_of s fs) (slot v true) 1 in
      dite (ℕ_discrete p (slot v false))
      (λ e. rw e (opened_at (slot v false) (omega arith) (omega arith) (omega arith) ∙ sym (get_or-set_same (set (marks_of s fs) (slot v true) 1) (slot v false) 1 0 (omega arith))))
      (λ n. dite (ℕ_discrete p (slot v true))
      (λ e. rw e (opened_at (slot v true) (omega arith) (omega arith) (omega arith) ∙ sym (get_or-set_other (set (marks_of s fs) (slot v true) 1) (slot v false) (slot v true) 1 0 (omega arith) ∙ get_or-set_same (marks_of s fs) (slot v true) 1 0 (omega arith))))
      (λ m. closed_at_lem p k (λ e. omega arith) ∙ sym (get_or-set_other (set (marks_of s fs) (slot v true) 1) (slot v false) p 1 0 n ∙ get_or-set_other (marks_of s fs) (slot v true) p 1 0 m ∙ mark_is s fs p k)))

  pub open_pair : marks_of s (set fs (2047 + v) 1) ≡ set (set (marks_of s fs) (slot v true) 1) (slot v false) 1
  open_pair = same_marks s opened pair (length-set (set (marks_of s fs) (slot v true) 1) (slot v false) 1 ∙ length-set (marks_of s fs) (slot v true) 1 ∙ length_marks s fs) pair_at

  pub open_none : (t : Bool) (i : ℕ) → i < 2048 → get_or fs (base t + i) 0 ≡ 0 → get_or (set fs (2047 + v) 1) (base t + i) 0 ≡ 0
  open_none t i k e = get_or-set_other fs (2047 + v) (base t + i) 1 0 (λ q. apart_variable t i v k l h (sym q)) ∙ e
