-- The game (01, "The game and its tables"): positions, turns, what it is to be lost, and what it is to be won. Nothing here, nor
-- in what this file imports, speaks of steps or dependencies.
use Rattle.std.specs.Prelude.{ℕ, ◌≡◌, Bool, true, false, not, ◌&&◌, ◌||◌, eqb}
use Rattle.std.specs.Bool.{beq}
use mathlib.Core.List.{[], ◌∷◌, Memᴰ}
use Rattle.qbf.specs.Literal.{Literal, Clause, Matrix}
use Rattle.qbf.specs.Formula.{Quantifier, existential, universal, Prefix, Formula}

-- The values given so far: false is 01's 0, true its 1.
abbrev pub Values : Type 0
Values = ℕ → Bool

-- The values with v given the value b.
abbrev pub assign : Values → ℕ → Bool → Values
assign τ v b w = given (eqb v w)
  where
    given : Bool → Bool
    given true = b
    given false = τ w

-- v is true where v took 1, its negation where v took 0.
abbrev pub true_literal : Values → Literal → Bool
true_literal τ l = beq (τ l.variable) l.sign

-- The clause has a true literal.
unfoldable pub satisfied : Values → Clause → Bool
satisfied τ [] = false
satisfied τ (l ∷ C) = true_literal τ l || satisfied τ C

-- Some clause has no true literal.
unfoldable pub falsified : Values → Matrix → Bool
falsified τ [] = false
falsified τ (C ∷ M) = not (satisfied τ C) || falsified τ M

-- A position is false for an existential exactly when both values lead to false ones, for a universal when at least one does.
abbrev pub turn : Quantifier → Bool → Bool → Bool
turn existential zero-lost one-lost = zero-lost && one-lost
turn universal zero-lost one-lost = zero-lost || one-lost

-- The position with these entries left and these values is false: the leftmost entry takes 0 or 1; with none left,
-- some clause has no true literal.
unfoldable pub lost : Prefix → Values → Matrix → Bool
lost [] τ M = falsified τ M
lost (x ∷ rest) τ M = turn x.quantifier (lost rest (assign τ x.variable false) M) (lost rest (assign τ x.variable true) M)

-- The game is lost for the existential side, and the formula false: the first position is false, whatever values the
-- variables are held to have before they are set.
abbrev pub Lost : Formula → Type 0
Lost F = (τ : Values) → lost F.prefix τ F.matrix ≡ true

-- The clause has a true literal.
pub record TrueClause (τ : Values) (C : Clause) : Type 0 where
  pub literal : Literal
  pub stands : Memᴰ literal C
  pub is_true : true_literal τ literal ≡ true

-- A turn is won for an existential where some value leads to a won position, for a universal where both values do.
abbrev pub WonTurn : Quantifier → (Bool → Type 0) → Type 0
WonTurn existential after = (b : Bool) × after b
WonTurn universal after = (b : Bool) → after b

-- The position with these entries left and these values is won for the existential side, by the rules of play; with none left,
-- every clause has a true literal. "A position not false is true" (01): `position_won` of Laws.
abbrev pub WonAt : Prefix → Values → Matrix → Type 0
WonAt [] τ M = (C : Clause) → Memᴰ C M → TrueClause τ C
WonAt (x ∷ rest) τ M = WonTurn x.quantifier (λ b. WonAt rest (assign τ x.variable b) M)

-- The game is won, and the formula true.
abbrev pub Won : Formula → Type 0
Won F = (τ : Values) → WonAt F.prefix τ F.matrix
