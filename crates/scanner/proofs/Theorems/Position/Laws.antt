-- Laws of positions: a byte further, and a run of bytes without LF further; lines and columns are no more than the bytes before them and 1.
-- Assumes nothing.
use Rattle.std.specs.Prelude.{ℕ, suc, ◌+◌, ◌-◌, ◌≤◌, ◌<◌, ◌≡◌, refl, Bool, true, false, cond, List, [], ◌∷◌, ◌++◌, eqb, length, get_or, take}
use Rattle.std.proofs.Common.{ap, sym, ◌∙◌, add-one, arith, length-take, take-suc}
use Rattle.scanner.specs.declared.position.Position.{Position}
use Rattle.scanner.specs.Position.{text_bound, line_feed, feeds, since_feed, position_at}
use Rattle.scanner.specs.Position.Cursor.{past, along, PositionIn}

feeds_snoc : (bs : List ℕ) (b : ℕ) → feeds (bs ++ (b ∷ [])) ≡ cond (eqb b line_feed) (feeds bs + 1) (feeds bs)
unfolding feeds
feeds_snoc [] b = go (eqb b line_feed)
  where
    go : (t : Bool) → cond t 1 0 + 0 ≡ cond t (0 + 1) 0
    go true = refl
    go false = refl
feeds_snoc (a ∷ bs) b = go (eqb b line_feed) (feeds_snoc bs b)
  where
    go : (t : Bool) → feeds (bs ++ (b ∷ [])) ≡ cond t (feeds bs + 1) (feeds bs) → cond (eqb a line_feed) 1 0 + feeds (bs ++ (b ∷ [])) ≡ cond t (cond (eqb a line_feed) 1 0 + feeds bs + 1) (cond (eqb a line_feed) 1 0 + feeds bs)
    go true e = rw e (omega arith)
    go false e = rw e

since_snoc : (n : ℕ) (bs : List ℕ) (b : ℕ) → since_feed n (bs ++ (b ∷ [])) ≡ cond (eqb b line_feed) 0 (since_feed n bs + 1)
unfolding since_feed
since_snoc n [] b = go (eqb b line_feed)
  where
    go : (t : Bool) → cond t 0 (suc n) ≡ cond t 0 (n + 1)
    go true = refl
    go false = sym (add-one n)
since_snoc n (a ∷ bs) b = since_snoc (cond (eqb a line_feed) 0 (suc n)) bs b

pub past_at : (text : List ℕ) (i : ℕ) → i < length text → past (position_at text i) (get_or text i 0) ≡ position_at text (i + 1)
past_at text i h =
    rw (add-one i, take-suc text i 0 h, feeds_snoc (take i text) (get_or text i 0), since_snoc 0 (take i text) (get_or text i 0)) (go (eqb (get_or text i 0) line_feed))
  where
    go :
        (t : Bool)
        → ◌≡◌ {A = Position} (record { place = suc i; line = cond t (1 + feeds (take i text) + 1) (1 + feeds (take i text)); column = cond t 1 (1 + since_feed 0 (take i text) + 1) })
        (record { place = suc i; line = 1 + cond t (feeds (take i text) + 1) (feeds (take i text)); column = 1 + cond t 0 (since_feed 0 (take i text) + 1) })
    go true = let e : 1 + feeds (take i text) + 1 ≡ 1 + (feeds (take i text) + 1) = omega arith in rw e
    go false = let e : 1 + since_feed 0 (take i text) + 1 ≡ 1 + (since_feed 0 (take i text) + 1) = omega arith in rw e

-- A byte further that is no LF, on the line of p.
pub along_past :
    (text : List ℕ) (p : Position) (i : ℕ) → p.place ≤ i → i < length text → eqb (get_or text i 0) line_feed ≡ false
    → along p (i - p.place) ≡ position_at text i → along p (i + 1 - p.place) ≡ position_at text (i + 1)
along_past text p i l h e q =
    let k : i + 1 - p.place ≡ i - p.place + 1 = omega arith in
    rw k (one (i - p.place) ∙ sym (ap (λ (r : Position). past r (get_or text i 0)) (sym q)) ∙ past_at text i h)
  where
    one : (n : ℕ) → along p (n + 1) ≡ past (along p n) (get_or text i 0)
    one n =
        let a : p.place + (n + 1) ≡ p.place + n + 1 = omega arith in
        let b : p.column + (n + 1) ≡ p.column + n + 1 = omega arith in
        rw (e, a, b)

-- No line and no column passes the bytes before it and 1.
feeds_few : (bs : List ℕ) → feeds bs ≤ length bs
unfolding feeds
feeds_few [] = omega arith
feeds_few (b ∷ bs) = go (eqb b line_feed) (feeds_few bs)
  where
    go : (t : Bool) → feeds bs ≤ length bs → cond t 1 0 + feeds bs ≤ suc (length bs)
    go true h = omega arith
    go false h = omega arith

since_few : (n : ℕ) (bs : List ℕ) → since_feed n bs ≤ n + length bs
unfolding since_feed
since_few n [] = omega arith
since_few n (b ∷ bs) = go (eqb b line_feed) (λ k. since_few k bs)
  where
    go : (t : Bool) → ((k : ℕ) → since_feed k bs ≤ k + length bs) → since_feed (cond t 0 (suc n)) bs ≤ n + suc (length bs)
    go true h = omega (arith, h 0)
    go false h = omega (arith, h (suc n))

pub line_few : (text : List ℕ) (i : ℕ) → (position_at text i).line ≤ 1 + length text
line_few text i = omega (arith, feeds_few (take i text), length-take i text)

pub column_few : (text : List ℕ) (i : ℕ) → (position_at text i).column ≤ 1 + length text
column_few text i = omega (arith, since_few 0 (take i text), length-take i text)

-- A byte further is a position of the text too; none of its numbers comes near the end of 64 bits.
pub past_in : (text : List ℕ) (p : Position) → PositionIn text p → p.place < length text → PositionIn text (past p (get_or text p.place 0))
past_in text p i h =
    record { stands = ap (λ (r : Position). past r (get_or text p.place 0)) i.stands ∙ past_at text p.place h; inside = omega (arith, h) }

pub small_in : (text : List ℕ) (p : Position) → PositionIn text p → length text ≤ text_bound → (p.place ≤ text_bound) × (p.line ≤ 1 + text_bound) × (p.column ≤ 1 + text_bound)
small_in text p i h =
    (omega (arith, i.inside), omega (arith, ap (λ (r : Position). r.line) i.stands, line_few text p.place), omega (arith, ap (λ (r : Position). r.column) i.stands, column_few text p.place))
