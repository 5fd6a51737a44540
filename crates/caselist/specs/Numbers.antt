-- The numbers that the fields of a case write. Assumes nothing.
use Rattle.std.specs.Prelude.{ℕ, ◌≡◌, List, [], ◌∷◌}
use Rattle.std.specs.declared.result.Result.TheVariants.{Ok}
use Rattle.std.specs.Str.Parse.{ParsesUnsigned}
use denote.Ref.{Bor}

-- The text writes the number, which 64 bits hold.
abbrev pub Writes : List ℕ → ℕ → Type 0
Writes text n = ParsesUnsigned {E = ℕ} 64 10 text (Ok n)

-- The two numbers of a case: the usual ones where no field is left, otherwise those of just two fields.
abbrev pub IsPair : List (Bor (List ℕ)) → ℕ × ℕ → ℕ × ℕ → Type 0
IsPair [] usual pair = pair ≡ usual
IsPair (first ∷ []) usual pair = ⊥
IsPair (first ∷ second ∷ []) usual pair = Writes first.now pair.0 × Writes second.now pair.1
IsPair (first ∷ second ∷ third ∷ rest) usual pair = ⊥
