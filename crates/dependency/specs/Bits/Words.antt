-- One literal by its flags: what is seen of it, and what reaching it stores; what both searches saw. Definitions: Bits, Marks. Assumes nothing.
use Rattle.std.specs.Prelude.{ℕ, ◌+◌, ◌-◌, ◌/◌, ◌<◌, ◌≤◌, ◌≢◌, Bool, ◌&&◌, List, length, eqb, ltb}
use Rattle.std.proofs.Math.Path.{◌≡◌, refl}
use Rattle.std.proofs.Common.{ap, sym, ◌∙◌, arith}
use Rattle.std.proofs.Math.Bool.{true, false}
use borrow.Author.Tests.{eq-eqb, ne_eqb, eqb-true}
use Rattle.std.proofs.Math.ListN.{get_or, set}
use Rattle.std.proofs.Math.Seq.{set-get_or}
use Rattle.bits.specs.Flags.{flags}
use Rattle.bits.specs.Flags.Laws.{length_flags}
use Rattle.qbf.specs.Connectives.{and_both}
use Rattle.dependency.specs.declared.marks.Seen.{Seen}
use Rattle.dependency.specs.Marks.{select, several, see_at, reach_at}
use Rattle.dependency.specs.Bits.{mark_from, is_on, base, marks_of, marks_in, seen_by, ReachedAt}
use Rattle.dependency.specs.Bits.Laws.{mark_literal, enter, enter_other}

pub length_own : (bytes : List ℕ) → length bytes ≡ 640 → length (flags bytes) ≡ 5120
length_own bytes size = let k = length_flags bytes in omega arith

pub entry_within : (s : Bool) (i : ℕ) → i < 2048 → base s + i < 5120
entry_within true i h = omega arith
entry_within false i h = omega arith

-- Both searches saw the same number.
pub seen_both : (seen : Seen) (k : ℕ) → (eqb seen.positive k && eqb seen.negative k) ≡ true → (s : Bool) → seen_by s seen ≡ k
seen_both seen k e true = eqb-true seen.positive k (and_both (eqb seen.positive k) (eqb seen.negative k) e).0
seen_both seen k e false = eqb-true seen.negative k (and_both (eqb seen.positive k) (eqb seen.negative k) e).1

module _ (s : Bool) (bytes : List ℕ) (p : ℕ) (l : 2 ≤ p) (h : p < 2050) where
  abbrev fs : List ℕ
  fs = flags bytes

  -- An entry changes what is known of its clause; nothing else does.
  pub see_flag :
      (v seen : ℕ)
      → see_at (get_or (marks_in s bytes) p 0) v seen ≡ select (is_on fs (base s + (p - 2))) (select (eqb seen 0) v (select (eqb seen v) seen several)) seen
  unfolding see_at marks_in
  see_flag v seen = rw (mark_literal s fs p l h) (go (is_on fs (2047 + p / 2)) (is_on fs (base s + (p - 2))))
    where
      go :
          (a b : Bool)
          → select (ltb (mark_from a b) 2) seen (select (eqb seen 0) v (select (eqb seen v) seen several)) ≡ select b (select (eqb seen 0) v (select (eqb seen v) seen several)) seen
      go true true = refl
      go true false = refl
      go false true = refl
      go false false = refl

  -- A literal that may not be passed becomes an entry; the other search's marks stay.
  module _ (size : length bytes ≡ 640) (bytes' : List ℕ) (stored : flags bytes' ≡ set fs (base s + (p - 2)) 1) where
    pub source_set : get_or (marks_in s bytes) p 0 ≡ 0 → marks_in s bytes' ≡ set (marks_in s bytes) p 3
    unfolding marks_in
    source_set e = rw stored (enter s fs (length_own bytes size) p l h ∙ go (is_on fs (2047 + p / 2)) (is_on fs (base s + (p - 2))) (sym (mark_literal s fs p l h) ∙ e))
      where
        go : (a b : Bool) → mark_from a b ≡ 0 → set (marks_of s fs) p (mark_from a true) ≡ set (marks_of s fs) p 3
        go false b q = refl
        go true true q = let z : ◌≡◌ {A = ℕ} 2 0 = q in absurd (omega arith)
        go true false q = let z : ◌≡◌ {A = ℕ} 1 0 = q in absurd (omega arith)

    pub source_other : (t : Bool) → t ≢ s → marks_in t bytes' ≡ marks_in t bytes
    unfolding marks_in
    source_other t n = rw stored (enter_other s fs (length_own bytes size) p l h t n)

  module _ (entry : ℕ) where
    -- Nothing is reached: no entries, or of this variable alone, or it may not be passed.
    pub reach_none : entry ≡ 0 → ReachedAt entry s p bytes bytes
    unfolding reach_at
    reach_none e = record { own = rw (eq-eqb entry 0 e); other = λ t n. refl }

    pub reach_same : entry ≢ 0 → entry ≡ p / 2 → ReachedAt entry s p bytes bytes
    unfolding reach_at
    reach_same n e = record { own = rw (ne_eqb entry 0 n, eq-eqb entry (p / 2) e); other = λ t n. refl }

    pub reach_closed : entry ≢ 0 → entry ≢ p / 2 → is_on fs (2047 + p / 2) ≡ false → ReachedAt entry s p bytes bytes
    unfolding reach_at marks_in
    reach_closed n e c =
        record {
          own = rw (ne_eqb entry 0 n, ne_eqb entry (p / 2) e, mark_literal s fs p l h, c) (go (is_on fs (base s + (p - 2))));
          other = λ t n. refl;
        }
      where
        go : (b : Bool) → marks_of s fs ≡ select (eqb (mark_from false b) 1) (set (marks_of s fs) p 2) (marks_of s fs)
        go true = refl
        go false = refl

    -- It may: its flag is stored.
    pub reach_open :
        entry ≢ 0 → entry ≢ p / 2 → is_on fs (2047 + p / 2) ≡ true → length bytes ≡ 640
        → (bytes' : List ℕ) → flags bytes' ≡ set fs (base s + (p - 2)) 1 → ReachedAt entry s p bytes bytes'
    unfolding reach_at marks_in
    reach_open n e c size bytes' q =
        record {
          own =
              rw (ne_eqb entry 0 n, ne_eqb entry (p / 2) e, q, enter s fs (length_own bytes size) p l h, c)
              (go (is_on fs (base s + (p - 2))) refl);
          other = λ t n. rw q (enter_other s fs (length_own bytes size) p l h t n);
        }
      where
        go :
            (b : Bool) → is_on fs (base s + (p - 2)) ≡ b
            → set (marks_of s fs) p 2 ≡ select (eqb (get_or (marks_of s fs) p 0) 1) (set (marks_of s fs) p 2) (marks_of s fs)
        go true k =
            let m : get_or (marks_of s fs) p 0 ≡ 2 = mark_literal s fs p l h ∙ rw (c, k) in
            rw (ne_eqb (get_or (marks_of s fs) p 0) 1 (λ z. omega arith)) (ap (set (marks_of s fs) p) (sym m) ∙ set-get_or (marks_of s fs) p 0)
        go false k =
            let m : get_or (marks_of s fs) p 0 ≡ 1 = mark_literal s fs p l h ∙ rw (c, k) in
            rw (eq-eqb (get_or (marks_of s fs) p 0) 1 m)
