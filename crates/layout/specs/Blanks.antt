-- A line end closes nothing (01, "Formula text"), said of two texts: from the first token on, a space, tab, CR or LF may stand in another's place
-- (`Reblanked`), and what is read is alike (`Alike`). That it is so is `blanks_alike` of Blanks/Laws.antt.
pub mod Laws
use Rattle.std.specs.Prelude.{ℕ, ◌≡◌, true, List, [], ◌∷◌}
use Rattle.scanner.specs.Token.{is_blank}
use Rattle.formula.specs.Text.{Reading, read, refused}

-- Two bytes are the same, or both are blanks.
pub data SameOrBlanks (b c : ℕ) : Type 0 where
  same_byte : b ≡ c → SameOrBlanks b c
  blanks : is_blank b ≡ true → is_blank c ≡ true → SameOrBlanks b c

-- Two texts are so, byte for byte: they differ at most in which blank stands where a blank stands.
abbrev pub Reblanked : List ℕ → List ℕ → Type 0
Reblanked [] [] = Unit {0}
Reblanked [] (c ∷ cs) = ⊥
Reblanked (b ∷ bs) [] = ⊥
Reblanked (b ∷ bs) (c ∷ cs) = SameOrBlanks b c × Reblanked bs cs

-- The same tables are read, or both texts are refused, with the same number at the same place. (Line and column may differ: LF ends a line.)
abbrev pub Alike : Reading → Reading → Type 0
Alike (read p w c) (read p' w' c') = (p ≡ p') × (w ≡ w') × (c ≡ c')
Alike (read p w c) (refused r) = ⊥
Alike (refused r) (read p w c) = ⊥
Alike (refused r) (refused s) = (r.reason ≡ s.reason) × (r.place ≡ s.place)
