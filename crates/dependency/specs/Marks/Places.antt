-- Where clauses begin and end: past the last word; and from the table's end back, where the end is a boundary, and so is the place behind a 0; a literal
-- more before a clause. Assumes nothing.
use Rattle.std.specs.Prelude.{ℕ, zero, suc, ◌+◌, ◌-◌, ◌≤◌, ◌<◌, ◌≡◌, refl, true, false, List, [], ◌∷◌, length, get_or, drop, ℤ, pos, negsuc}
use Rattle.std.proofs.Common.{ap, sym, ◌∙◌, arith, drop_of_length-le, drop-cons}
use Rattle.formula.specs.Word.{is_zero}
use Rattle.formula.specs.Decode.{later_words, words_after}
use Rattle.formula.specs.Decode.Places.{after_zero, after_literal, after_past}
use Rattle.dependency.specs.Marks.{Boundary}

-- One word is a clause, closed or not.
one_word : (w : ℤ) → later_words (w ∷ []) ≡ []
unfolding later_words
one_word (pos zero) = refl
one_word (pos (suc n)) = refl
one_word (negsuc n) = refl

-- After a place past the last word no words are left, as after the table's end.
pub after_end : (ws : List ℤ) (i : ℕ) → length ws ≤ i → drop (length ws) ws ≡ words_after ws i
after_end ws i past =
    let same : length ws ≤ length ws = omega arith in
    drop_of_length-le ws same ∙ sym (drop_of_length-le ws past) ∙ sym (after_past ws i past)

pub boundary_end : (ws : List ℤ) → Boundary ws (length ws)
boundary_end ws h =
    let last : drop (length ws - 1) ws ≡ get_or ws (length ws - 1) (pos 0) ∷ drop (suc (length ws - 1)) ws = drop-cons ws (length ws - 1) (pos 0) (omega arith) in
    let all : length ws ≤ suc (length ws - 1) = omega arith in
    let past : drop (suc (length ws - 1)) ws ≡ [] = drop_of_length-le ws all in
    let same : length ws ≤ length ws = omega arith in
    let none : drop (length ws) ws ≡ [] = drop_of_length-le ws same in
    rw (last, past, none) (one_word (get_or ws (length ws - 1) (pos 0)))

-- Behind a 0.
pub boundary_zero : (ws : List ℤ) (i j : ℕ) → i ≡ suc j → j < length ws → is_zero (get_or ws j (pos 0)) ≡ true → Boundary ws i
boundary_zero ws i j e h z p =
    let a : i - 1 ≡ j = omega arith in
    let b : j + 1 ≡ i = omega arith in
    rw a (after_zero ws j h z ∙ ap (λ n. drop n ws) b)

-- A literal more.
pub literal_before : (ws : List ℤ) (i j : ℕ) → i ≡ suc j → j < length ws → is_zero (get_or ws j (pos 0)) ≡ false → words_after ws j ≡ words_after ws i
literal_before ws i j e h z = let b : j + 1 ≡ i = omega arith in after_literal ws j h z ∙ ap (words_after ws) b
