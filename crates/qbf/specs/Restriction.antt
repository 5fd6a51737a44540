-- A derivation at a position of the game, and its restriction by a literal that has become true. A position is the entries
-- `rest` still to be set and the values τ so far. Laws: Soundness.Restricting, Soundness.MoveLemma.
-- The cases of Top and of a resolution are those of 003, Definition 8. What differs: 003 restricts by an assignment at once, this
-- by one literal a turn; 003 cuts the clause of a leaf, here a leaf keeps its whole input clause, its literals on variables already
-- set no longer count, and are all false; 003 leaves out a reduction whose variable its premise no longer holds, here it stays and
-- removes nothing; and paths and dependencies stay those of the whole formula, where 003 takes those of the restricted one.
pub mod Laws
pub mod Examples
use Rattle.std.specs.Prelude.{ℕ, ◌≡◌, ◌≢◌, ◌⊎◌, Bool, true, false}
use Rattle.std.proofs.Common.{inl, inr}
use Rattle.std.proofs.Math.Bool.{decide}
use mathlib.Core.List.Memᴰ
use mathlib.Core.List.{List, [], ◌∷◌, Memᴰ}
use Rattle.std.proofs.Math.Decide.{ℕ_discrete}
use Rattle.qbf.specs.Literal.{Literal, literal, Clause, same}
use Rattle.qbf.specs.Formula.{Formula, Prefix, listed, Existential, Universal}
use Rattle.qbf.specs.Play.{Values, true_literal, satisfied}
use Rattle.qbf.specs.Dependency.{Depends}
use Rattle.qbf.specs.Derivation.{Derivation, leaf, resolve, reduce, MergesRight}

-- The variable is still to be set.
abbrev pub Unset : Prefix → ℕ → Type 0
Unset rest v = Memᴰ v (listed rest)

-- A literal of the derived clause, on a variable still to be set.
abbrev pub ConcludesAt : Prefix → Derivation → Literal → Type 0
ConcludesAt rest (leaf C) l = Memᴰ l C × Unset rest l.variable
ConcludesAt rest (resolve t x) l = (b : Bool) × ConcludesAt rest (t b) l × (l ≢ literal x b)
ConcludesAt rest (reduce t u) l = ConcludesAt rest t l × (l.variable ≢ u)

-- The rules of Valid, with what a derivation concludes at the position; each literal of a leaf is to be set or false.
-- Paths and dependencies are those of the whole formula.
abbrev pub ValidAt : Formula → Prefix → Values → Derivation → Type 0
ValidAt F rest τ (leaf C) =
    Memᴰ C F.matrix × ((l : Literal) → Memᴰ l C → Unset rest l.variable ⊎ (true_literal τ l ≡ false))
ValidAt F rest τ (resolve t x) =
    ((b : Bool) → ValidAt F rest τ (t b))
    × Existential F.prefix x
    × ((b : Bool) → ConcludesAt rest (t b) (literal x b))
    × MergesRight F x (ConcludesAt rest (t true)) (ConcludesAt rest (t false))
ValidAt F rest τ (reduce t u) =
    ValidAt F rest τ t
    × Universal F.prefix u
    × ((e : Literal) → ConcludesAt rest t e → Existential F.prefix e.variable → Depends F u e.variable → ⊥)

abbrev pub EmptyAt : Prefix → Derivation → Type 0
EmptyAt rest t = (l : Literal) → ConcludesAt rest t l → ⊥

-- The derivation refutes the position.
pub record RefutesAt (F : Formula) (rest : Prefix) (τ : Values) (t : Derivation) : Type 0 where
  pub valid : ValidAt F rest τ t
  pub empty : EmptyAt rest t

-- Some leaf holds the literal.
abbrev pub Occurs : Derivation → Literal → Type 0
Occurs (leaf C) l = Memᴰ l C
Occurs (resolve t x) l = (b : Bool) × Occurs (t b) l
Occurs (reduce t u) l = Occurs t l

-- Membership in a list, what is concluded, and what occurs are decided.
unfoldable pub in_list? : {A : Type 0} → ((a b : A) → Dec (a ≡ b)) → (a : A) (xs : List A) → Dec (Memᴰ a xs)
in_list? equal a [] = no Memᴰ.not-nil
in_list? {A} equal a (x ∷ xs) = found (equal a x) (in_list? equal a xs)
  where
    found : Dec (a ≡ x) → Dec (Memᴰ a xs) → Dec (Memᴰ a (x ∷ xs))
    found (yes e) later = yes (Memᴰ.head e)
    found (no n) (yes m) = yes (Memᴰ.tail m)
    found (no n) (no k) = no (λ m. elim (Memᴰ.cases_cons m) [ inl e ↦ n e | inr m' ↦ k m' ])

unfoldable pub unset? : (rest : Prefix) (v : ℕ) → Dec (Unset rest v)
unset? rest v = in_list? ℕ_discrete v (listed rest)

unfoldable pub concludes_at? : (rest : Prefix) (t : Derivation) (l : Literal) → Dec (ConcludesAt rest t l)
concludes_at? rest (leaf C) l = both (in_list? same l C) (unset? rest l.variable)
  where
    both : Dec (Memᴰ l C) → Dec (Unset rest l.variable) → Dec (ConcludesAt rest (leaf C) l)
    both (yes m) (yes v) = yes (m, v)
    both (yes m) (no n) = no (λ c. n c.1)
    both (no n) v = no (λ c. n c.0)
concludes_at? rest (resolve t x) l = either (keeps true (concludes_at? rest (t true) l)) (keeps false (concludes_at? rest (t false) l))
  where
    keeps : (b : Bool) → Dec (ConcludesAt rest (t b) l) → Dec (ConcludesAt rest (t b) l × (l ≢ literal x b))
    keeps b d = go d (same l (literal x b))
      where
        go : Dec (ConcludesAt rest (t b) l) → Dec (l ≡ literal x b) → Dec (ConcludesAt rest (t b) l × (l ≢ literal x b))
        go (yes c) (no n) = yes (c, n)
        go (yes c) (yes e) = no (λ k. k.1 e)
        go (no n) e = no (λ k. n k.0)

    either :
        Dec (ConcludesAt rest (t true) l × (l ≢ literal x true)) → Dec (ConcludesAt rest (t false) l × (l ≢ literal x false)) →
        Dec (ConcludesAt rest (resolve t x) l)
    either (yes c) d = yes (true, c.0, c.1)
    either (no n) (yes c) = yes (false, c.0, c.1)
    either (no n) (no m) =
        no (λ c. elim c.0 as (λ b. ConcludesAt rest (t b) l → l ≢ literal x b → ⊥) [ true ↦ λ k e. n (k, e) | false ↦ λ k e. m (k, e) ] c.1 c.2)
concludes_at? rest (reduce t u) l = both (concludes_at? rest t l) (ℕ_discrete l.variable u)
  where
    both : Dec (ConcludesAt rest t l) → Dec (l.variable ≡ u) → Dec (ConcludesAt rest (reduce t u) l)
    both (yes c) (no n) = yes (c, n)
    both (yes c) (yes e) = no (λ k. k.1 e)
    both (no n) e = no (λ k. n k.0)

unfoldable pub occurs? : (t : Derivation) (l : Literal) → Dec (Occurs t l)
occurs? (leaf C) l = in_list? same l C
occurs? (resolve t x) l = either (occurs? (t true) l) (occurs? (t false) l)
  where
    either : Dec (Occurs (t true) l) → Dec (Occurs (t false) l) → Dec (Occurs (resolve t x) l)
    either (yes o) d = yes (true, o)
    either (no n) (yes o) = yes (false, o)
    either (no n) (no m) = no (λ o. elim o.0 as (λ b. Occurs (t b) l → ⊥) [ true ↦ n | false ↦ m ] o.1)
occurs? (reduce t u) l = occurs? t l

-- What a restriction answers: a derivation, or Top, which counts as holding every literal.
pub data Restricted : Type 0 where
  top : Restricted
  tree : Derivation → Restricted

abbrev pub HoldsAt : Prefix → Restricted → Literal → Type 0
HoldsAt rest top l = Unit {0}
HoldsAt rest (tree t) l = ConcludesAt rest t l

unfoldable pub holds_at? : (rest : Prefix) (r : Restricted) (l : Literal) → Dec (HoldsAt rest r l)
holds_at? rest top l = yes tt
holds_at? rest (tree t) l = concludes_at? rest t l

abbrev pub premises : Derivation → Derivation → Bool → Derivation
premises s t true = s
premises s t false = t

-- A clause that holds the literal is satisfied.
unfoldable pub restrict_leaf : (k : Literal) (C : Clause) → Dec (Memᴰ k C) → Restricted
restrict_leaf k C (yes m) = top
restrict_leaf k C (no n) = tree (leaf C)

unfoldable pub resolve_trees : Restricted → Restricted → ℕ → Restricted
resolve_trees top r x = top
resolve_trees (tree s) top x = top
resolve_trees (tree s) (tree t) x = tree (resolve (premises s t) x)

-- A premise that no longer holds its pivot literal takes the place of the resolvent, the positive premise first.
unfoldable pub restrict_resolve :
    (rest : Prefix) (r : Bool → Restricted) (x : ℕ) → Dec (HoldsAt rest (r true) (literal x true)) →
    Dec (HoldsAt rest (r false) (literal x false)) → Restricted
restrict_resolve rest r x (no n) d = r true
restrict_resolve rest r x (yes h) (no n) = r false
restrict_resolve rest r x (yes h) (yes g) = resolve_trees (r true) (r false) x

unfoldable pub restrict_reduce : Restricted → ℕ → Restricted
restrict_reduce top u = top
restrict_reduce (tree t) u = tree (reduce t u)

-- The restriction by the literal k that has become true, `rest` being the entries left after its variable.
unfoldable pub restrict : Prefix → Literal → Derivation → Restricted
restrict rest k (leaf C) = restrict_leaf k C (in_list? same k C)
restrict rest k (resolve t x) =
    restrict_resolve rest (λ b. restrict rest k (t b)) x (holds_at? rest (restrict rest k (t true)) (literal x true)) (holds_at? rest (restrict rest k (t false)) (literal x false))
restrict rest k (reduce t u) = restrict_reduce (restrict rest k t) u

-- After a turn: the answer is a derivation, and it refutes the position.
pub record Refuted (F : Formula) (rest : Prefix) (τ : Values) (r : Restricted) : Type 0 where
  pub derivation : Derivation
  pub restricted : r ≡ tree derivation
  pub refutes : RefutesAt F rest τ derivation

-- The universal's move: 1 if its negation occurs, else 0.
unfoldable pub move : Derivation → ℕ → Bool
move t u = decide (occurs? t (literal u false))

-- A clause of the matrix that is false under the values.
pub record FalseClause (F : Formula) (τ : Values) : Type 0 where
  pub clause : Clause
  pub input : Memᴰ clause F.matrix
  pub false_there : satisfied τ clause ≡ false
