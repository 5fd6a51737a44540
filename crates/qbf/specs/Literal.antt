-- Literals and clauses (01, "The game and its tables"). A literal is a variable's number and a sign; the opposite of a
-- literal has the other sign. A clause is a list of literals read as a set, a matrix a list of clauses.
-- No bound stands here: the bounds of 01 belong to the tables.
use Rattle.std.specs.Prelude.{ℕ, ◌≡◌, Bool, not, List}
use Rattle.std.proofs.Common.{ap}
use Rattle.std.proofs.Math.Bool.{Bool-discrete}
use Rattle.std.proofs.Math.Decide.{ℕ_discrete}

pub record Literal : Type 0 where
  pub variable : ℕ
  -- true: the variable itself; false: its negation
  pub sign : Bool

abbrev pub literal : ℕ → Bool → Literal
literal v s = record { variable = v; sign = s }

abbrev pub neg : Literal → Literal
neg l = literal l.variable (not l.sign)

abbrev pub Clause : Type 0
Clause = List Literal

abbrev pub Matrix : Type 0
Matrix = List Clause

-- Equality of literals is decided by their two parts.
unfoldable pub same : (a b : Literal) → Dec (a ≡ b)
same a b = both (ℕ_discrete a.variable b.variable) (Bool-discrete a.sign b.sign)
  where
    both : Dec (a.variable ≡ b.variable) → Dec (a.sign ≡ b.sign) → Dec (a ≡ b)
    both (yes p) (yes q) = yes (λ i. literal (p i) (q i))
    both (yes p) (no n) = no (λ e. n (ap (λ (l : Literal). l.sign) e))
    both (no n) (yes q) = no (λ e. n (ap (λ (l : Literal). l.variable) e))
    both (no n) (no m) = no (λ e. n (ap (λ (l : Literal). l.variable) e))
