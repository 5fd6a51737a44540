-- The bytes that the text of a field stands for. Assumes nothing.
use Rattle.std.specs.Prelude.{ℕ, ◌+◌, ◌-◌, ◌*◌, Bool, cond, ◌&&◌, ◌||◌, List, [], ◌∷◌, eqb, leb}

-- The number that a hexadecimal digit writes, 0 for what is none.
abbrev pub digit_value : ℕ → ℕ
digit_value b = cond (leb 48 b && leb b 57) (b - 48) (cond (leb 97 b && leb b 102) (b - 97 + 10) 0)

-- The letters n, r, t and 0, each of which stands behind a backslash for one byte.
abbrev pub is_letter : ℕ → Bool
is_letter b = eqb b 110 || (eqb b 114 || (eqb b 116 || eqb b 48))

abbrev pub letter_byte : ℕ → ℕ
letter_byte b = cond (eqb b 110) 10 (cond (eqb b 114) 13 (cond (eqb b 116) 9 0))

-- The bytes of a text that begins with a and b, from those of what is behind both and those of what is behind a.
abbrev pub by_two : ℕ → ℕ → List ℕ → List ℕ → List ℕ
by_two a b behind_both behind = cond (eqb a 92 && is_letter b) (letter_byte b ∷ behind_both) (a ∷ behind)

-- The bytes of a text: \n, \r, \t, \0 and \x with two digits behind it stand for one byte each, any other byte for itself.
unfoldable pub unescaped : List ℕ → List ℕ
unescaped [] = []
unescaped (a ∷ []) = a ∷ []
unescaped (a ∷ b ∷ []) = by_two a b [] (unescaped (b ∷ []))
unescaped (a ∷ b ∷ c ∷ []) = by_two a b (unescaped (c ∷ [])) (unescaped (b ∷ c ∷ []))
unescaped (a ∷ b ∷ c ∷ d ∷ rest) =
    cond (eqb a 92 && eqb b 120) ((16 * digit_value c + digit_value d) ∷ unescaped rest)
    (by_two a b (unescaped (c ∷ d ∷ rest)) (unescaped (b ∷ c ∷ d ∷ rest)))
