-- Lines and columns by computing.
use Rattle.std.specs.Prelude.{◌≡◌, List, [], ◌∷◌, ℕ}
use Rattle.std.proofs.Math.Path.{refl}
use Rattle.scanner.specs.Position.{feeds, since_feed, position_at}

-- `a`, LF, CR, tab, `b`: the byte after LF begins line 2, CR and tab are a column each.
abbrev text : List ℕ
text = 97 ∷ 10 ∷ 13 ∷ 9 ∷ 98 ∷ []

begins : position_at text 0 ≡ record { place = 0; line = 1; column = 1 }
begins = unfold feeds since_feed in refl

feed : position_at text 1 ≡ record { place = 1; line = 1; column = 2 }
feed = unfold feeds since_feed in refl

after_feed : position_at text 2 ≡ record { place = 2; line = 2; column = 1 }
after_feed = unfold feeds since_feed in refl

later : position_at text 4 ≡ record { place = 4; line = 2; column = 3 }
later = unfold feeds since_feed in refl

-- The end of a text, behind a last LF, and of an empty one.
behind_feed : position_at (97 ∷ 10 ∷ []) 2 ≡ record { place = 2; line = 2; column = 1 }
behind_feed = unfold feeds since_feed in refl

nothing : position_at [] 0 ≡ record { place = 0; line = 1; column = 1 }
nothing = unfold feeds since_feed in refl
