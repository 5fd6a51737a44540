-- What a text begins with, by its first bytes.
use Rattle.std.proofs.Common.{ℕ, ◌+◌, ◌*◌, ◌-◌, ◌<◌, ◌≤◌, ◌≡◌, ◌≢◌, refl, true, false, List, [], ◌∷◌, length, get_or, take, drop, ◌&&◌, eqb, Bool, arith}
use borrow.Author.Tests.{eqb-true}
use Rattle.std.proofs.lemmas.Bool.Decides.{nat_tests}
use Rattle.std.proofs.lemmas.Grind.{common_steps}
use Rattle.caselist.specs.Escapes.{digit_value, is_letter, letter_byte, by_two, unescaped}

-- What a pattern leaves of a text behind k bytes.
abbrev pub behind : ℕ → List ℕ → List ℕ
behind k s = take (length s - k) (drop k s)

behind-drop : (k : ℕ) (s : List ℕ) → behind k s ≡ drop k s
behind-drop k s = grind (arith, common_steps)

pub unescaped_empty : unescaped [] ≡ []
unfolding unescaped
unescaped_empty = refl

hex_drop : (s : List ℕ) → 4 ≤ length s → get_or s 0 0 ≡ 92 → get_or s 1 0 ≡ 120
    → unescaped s ≡ (16 * digit_value (get_or s 2 0) + digit_value (get_or s 3 0)) ∷ unescaped (drop 4 s)
unfolding unescaped
hex_drop [] h a b = absurd (omega arith)
hex_drop (x ∷ []) h a b = absurd (omega arith)
hex_drop (x ∷ y ∷ []) h a b = absurd (omega arith)
hex_drop (x ∷ y ∷ z ∷ []) h a b = absurd (omega arith)
hex_drop (x ∷ y ∷ z ∷ w ∷ s) h a b = rw (a, b)

letter_alone : (y : ℕ) → is_letter y ≡ true → eqb y 120 ≡ false
letter_alone y h = grind (arith, nat_tests)

letter_drop : (s : List ℕ) → 2 ≤ length s → get_or s 0 0 ≡ 92 → is_letter (get_or s 1 0) ≡ true
    → unescaped s ≡ letter_byte (get_or s 1 0) ∷ unescaped (drop 2 s)
unfolding unescaped
letter_drop [] h a b = absurd (omega arith)
letter_drop (x ∷ []) h a b = absurd (omega arith)
letter_drop (x ∷ y ∷ []) h a b = rw (a, b)
letter_drop (x ∷ y ∷ z ∷ []) h a b = rw (a, b)
letter_drop (x ∷ y ∷ z ∷ w ∷ s) h a b = let e = letter_alone y b in rw (a, e, b)

and_false : (a b : Bool) → (a ≡ true → b ≡ false) → a && b ≡ false
and_false true b h = h refl
and_false false b h = refl

by_two_other : (x y : ℕ) (p q : List ℕ) → (x ≡ 92 → is_letter y ≡ false) → by_two x y p q ≡ x ∷ q
by_two_other x y p q h = rw (and_false (eqb x 92) (is_letter y) (λ e. h (eqb-true x 92 e)))

not_hex : (x y : ℕ) → (x ≡ 92 → y ≢ 120) → eqb x 92 && eqb y 120 ≡ false
not_hex x y h = grind (arith, nat_tests)

other_drop : (s : List ℕ) → 1 ≤ length s → (get_or s 0 0 ≡ 92 → 2 ≤ length s → is_letter (get_or s 1 0) ≡ false) → (get_or s 0 0 ≡ 92 → get_or s 1 0 ≡ 120 → length s < 4)
    → unescaped s ≡ get_or s 0 0 ∷ unescaped (drop 1 s)
unfolding unescaped
other_drop [] h n m = absurd (omega arith)
other_drop (x ∷ []) h n m = refl
other_drop (x ∷ y ∷ []) h n m = by_two_other x y _ _ (λ e. n e (omega arith))
other_drop (x ∷ y ∷ z ∷ []) h n m = by_two_other x y _ _ (λ e. n e (omega arith))
other_drop (x ∷ y ∷ z ∷ w ∷ s) h n m =
    rw (not_hex x y (λ a b. omega (arith, m a b))) (by_two_other x y _ _ (λ e. n e (omega arith)))

pub unescaped_hex : (s : List ℕ) → 4 ≤ length s → get_or s 0 0 ≡ 92 → get_or s 1 0 ≡ 120
    → unescaped s ≡ (16 * digit_value (get_or s 2 0) + digit_value (get_or s 3 0)) ∷ unescaped (behind 4 s)
unescaped_hex s h a b = rw (behind-drop 4 s) (hex_drop s h a b)

letter_behind : (s : List ℕ) (b : ℕ) → is_letter b ≡ true → 2 ≤ length s → get_or s 0 0 ≡ 92 → get_or s 1 0 ≡ b
    → unescaped s ≡ letter_byte b ∷ unescaped (behind 2 s)
letter_behind s b l h a e = rw (behind-drop 2 s, ← e) (letter_drop s h a (rw e l))

pub unescaped_line_feed : (s : List ℕ) → 2 ≤ length s → get_or s 0 0 ≡ 92 → get_or s 1 0 ≡ 110 → unescaped s ≡ 10 ∷ unescaped (behind 2 s)
unescaped_line_feed s h a e = letter_behind s 110 refl h a e

pub unescaped_carriage_return : (s : List ℕ) → 2 ≤ length s → get_or s 0 0 ≡ 92 → get_or s 1 0 ≡ 114 → unescaped s ≡ 13 ∷ unescaped (behind 2 s)
unescaped_carriage_return s h a e = letter_behind s 114 refl h a e

pub unescaped_tab : (s : List ℕ) → 2 ≤ length s → get_or s 0 0 ≡ 92 → get_or s 1 0 ≡ 116 → unescaped s ≡ 9 ∷ unescaped (behind 2 s)
unescaped_tab s h a e = letter_behind s 116 refl h a e

pub unescaped_nul : (s : List ℕ) → 2 ≤ length s → get_or s 0 0 ≡ 92 → get_or s 1 0 ≡ 48 → unescaped s ≡ 0 ∷ unescaped (behind 2 s)
unescaped_nul s h a e = letter_behind s 48 refl h a e

no_letter : (b : ℕ) → b ≢ 110 → b ≢ 114 → b ≢ 116 → b ≢ 48 → is_letter b ≡ false
no_letter b n r t z = grind (arith, nat_tests)

other_behind : (s : List ℕ) → 1 ≤ length s → (get_or s 0 0 ≡ 92 → 2 ≤ length s → is_letter (get_or s 1 0) ≡ false)
    → (get_or s 0 0 ≡ 92 → get_or s 1 0 ≡ 120 → length s < 4) → unescaped s ≡ get_or s 0 0 ∷ unescaped (behind 1 s)
other_behind s h n m = rw (behind-drop 1 s) (other_drop s h n m)

-- Where the first byte stands for itself: it is no backslash, it is alone, none of the letters is behind it, or \x is cut short.
pub unescaped_plain : (s : List ℕ) → 1 ≤ length s → get_or s 0 0 ≢ 92 → unescaped s ≡ get_or s 0 0 ∷ unescaped (behind 1 s)
unescaped_plain s h n = other_behind s h (λ e _. absurd (n e)) (λ e _. absurd (n e))

pub unescaped_alone : (s : List ℕ) → 1 ≤ length s → length s < 2 → unescaped s ≡ get_or s 0 0 ∷ unescaped (behind 1 s)
unescaped_alone s h k = other_behind s h (λ _ l. absurd (omega arith)) (λ _ _. omega arith)

pub unescaped_other : (s : List ℕ) → 1 ≤ length s → get_or s 1 0 ≢ 110 → get_or s 1 0 ≢ 114 → get_or s 1 0 ≢ 116 → get_or s 1 0 ≢ 48 → get_or s 1 0 ≢ 120 → unescaped s ≡ get_or s 0 0 ∷ unescaped (behind 1 s)
unescaped_other s h n r t z x = other_behind s h (λ _ _. no_letter (get_or s 1 0) n r t z) (λ _ e. absurd (x e))

pub unescaped_cut : (s : List ℕ) → 1 ≤ length s → length s < 4 → get_or s 1 0 ≢ 110 → get_or s 1 0 ≢ 114 → get_or s 1 0 ≢ 116 → get_or s 1 0 ≢ 48 → unescaped s ≡ get_or s 0 0 ∷ unescaped (behind 1 s)
unescaped_cut s h k n r t z = other_behind s h (λ _ _. no_letter (get_or s 1 0) n r t z) (λ _ _. k)

pub ruleset unescaping = (unescaped_empty, unescaped_hex, unescaped_line_feed, unescaped_carriage_return, unescaped_tab, unescaped_nul, unescaped_plain, unescaped_alone, unescaped_other, unescaped_cut)
