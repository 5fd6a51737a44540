-- Words filled up with dots: the bytes of the word stand first, and a row of the list is the word of the table. Definitions: Word. Assumes nothing.
use Rattle.std.specs.Prelude.{◌+◌}
use Rattle.std.specs.Prelude.{drop}
use Rattle.std.proofs.Common.{drop-cons}
use Rattle.std.proofs.Common.{drop-drop}
use borrow.Author.Tests.{ne_eqb}
use Rattle.std.proofs.Math.Seq.{drop-nil}
use Rattle.std.proofs.Math.Seq.{drop-length}
use Rattle.std.specs.Prelude.{ℕ, zero, suc, ◌-◌, ◌≤◌, ◌<◌, ◌≡◌, refl, Bool, true, false, ◌&&◌, List, [], ◌∷◌, eqb, length, get_or, take}
use Rattle.std.proofs.Common.{ap, ◌∙◌, le_of_suc-le-suc, not-suc-le-zero, arith}
use Rattle.std.proofs.lemmas.Bool.{false≢true}
use borrow.Author.Tests.{eqb-true}
use Rattle.qbf.specs.Connectives.{and_both}
use Rattle.formula.specs.Refusal.{number, Named, named, table, row_at, word, TaggedNumber}
use Rattle.formula.specs.declared.refusal.Reason.{Reason}
use Rattle.formula.specs.declared.refusal.Reason.TheVariants.{Headless}
use Rattle.scanner.specs.Token.{same}
use Rattle.report.specs.Word.{word_in, before_dot, filled}

-- The bytes of the word stand first.
pub word_first : (bs : List ℕ) → take (length (word_in bs)) bs ≡ word_in bs
unfolding word_in
word_first [] = refl
word_first (b ∷ bs) = go (eqb b 46) refl (word_first bs)
  where
    go : (t : Bool) → eqb b 46 ≡ t → take (length (word_in bs)) bs ≡ word_in bs → take (length (before_dot (eqb b 46) b (word_in bs))) (b ∷ bs) ≡ before_dot (eqb b 46) b (word_in bs)
    go true e later = rw e
    go false e later = rw e (ap {B = List ℕ} (λ r. b ∷ r) later)

pub word_shorter : (bs : List ℕ) → length (word_in bs) ≤ length bs
unfolding word_in
word_shorter [] = omega arith
word_shorter (b ∷ bs) = go (eqb b 46) (word_shorter bs)
  where
    go : (t : Bool) → length (word_in bs) ≤ length bs → length (before_dot t b (word_in bs)) ≤ suc (length bs)
    go true later = omega arith
    go false later = omega arith

same_sound : (bs cs : List ℕ) → same bs cs ≡ true → bs ≡ cs
unfolding same
same_sound [] [] h = refl
same_sound [] (c ∷ cs) h = absurd (false≢true h)
same_sound (b ∷ bs) [] h = absurd (false≢true h)
same_sound (b ∷ bs) (c ∷ cs) h =
    let t = and_both (eqb b c) (same bs cs) h in
    let e = eqb-true b c t.0 in
    let f = same_sound bs cs t.1 in
    cc

-- The rows of a list of words that are filled up: each has 14 bytes, and holds the word of the table's row.
filled_at :
    (ws : List (List ℕ)) (xs : List Named) → filled ws xs ≡ true → (i : ℕ) → i < length xs
    → (length (get_or ws i []) ≡ 14) × (word_in (get_or ws i []) ≡ (get_or xs i (named Headless [])).bytes)
unfolding filled
filled_at ws [] h i l = absurd (not-suc-le-zero l)
filled_at [] (x ∷ xs) h i l = absurd (false≢true h)
filled_at (w ∷ ws) (x ∷ xs) h i l = go i l (and_both (eqb (length w) 14 && same (word_in w) x.bytes) (filled ws xs) h) (λ k m f. filled_at ws xs f k m)
  where
    go :
        (i : ℕ) → i < suc (length xs)
        → ((eqb (length w) 14 && same (word_in w) x.bytes) ≡ true) × (filled ws xs ≡ true)
        → ((k : ℕ) → k < length xs → filled ws xs ≡ true → (length (get_or ws k []) ≡ 14) × (word_in (get_or ws k []) ≡ (get_or xs k (named Headless [])).bytes))
        → (length (get_or (w ∷ ws) i []) ≡ 14) × (word_in (get_or (w ∷ ws) i []) ≡ (get_or (x ∷ xs) i (named Headless [])).bytes)
    go zero l t later =
        let here = and_both (eqb (length w) 14) (same (word_in w) x.bytes) t.0 in
        (eqb-true (length w) 14 here.0, same_sound (word_in w) x.bytes here.1)
    go (suc k) l t later = later k (le_of_suc-le-suc l) t.1

-- The row of a number is filled up to 14 bytes, and holds the word of its reason.
module _ (ws : List (List ℕ)) (f : filled ws table ≡ true) (n : ℕ) (t : TaggedNumber n) where
  pub row_length : length (get_or ws (n - 1) []) ≡ 14
  row_length = (filled_at ws table f (n - 1) (omega (arith, t.1, t.2))).0

  pub row_word : (r : Reason) → n ≡ number r → word_in (get_or ws (n - 1) []) ≡ word r
  row_word r e = (filled_at ws table f (n - 1) (omega (arith, t.1, t.2))).1 ∙ ap (λ (m : ℕ). (row_at m).bytes) e

module _ (bs : List ℕ) (i : ℕ) (within : i < length bs) where
  pub word_dot : get_or bs i 0 ≡ 46 → length (word_in (drop i bs)) ≡ 0
  unfolding word_in
  word_dot e = rw (drop-cons bs i 0 within, e)

  pub word_byte : (get_or bs i 0 ≡ 46 → ⊥) → length (word_in (drop i bs)) ≡ suc (length (word_in (drop (suc i) bs)))
  unfolding word_in
  word_byte n = rw (drop-cons bs i 0 within, ne_eqb (get_or bs i 0) 46 n)

pub word_end : (bs : List ℕ) (i : ℕ) → length bs ≤ i → length (word_in (drop i bs)) ≡ 0
unfolding word_in
word_end bs i h = let e : i ≡ length bs + (i - length bs) = omega arith in rw (e, ← drop-drop (i - length bs) (length bs) bs, drop-length bs, drop-nil (i - length bs))
