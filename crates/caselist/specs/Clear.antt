-- What a lent table holds, and whether a buffer was left clear. Assumes nothing.
use Rattle.std.specs.Prelude.{ℕ, Bool, List, ◌↔◌, IsTrue, ℤ, pos, replicate}
use Rattle.std.specs.List.{All}

-- The test says whether each element of the buffer equals the zero of its type.
abbrev pub TellsClear : {T : Type 0} → (T → Type 0) → (T → T → Bool) → List T → Bool → Type 0
TellsClear {T} is_default eq buffer clear = (zero : T) × is_default zero × (IsTrue clear ↔ All (λ x. IsTrue (eq x zero)) buffer)

-- The words of a table to lend: 7 so many times. Callers see no long list of them.
unfoldable pub sevens : ℕ → List ℤ
sevens n = replicate n (pos 7)
