-- Worked examples of 000 and of 01 ("Readings that sink a proof"), by computation: which formulas are lost, which
-- existentials depend on which universals, and what each misreading of paths would answer instead. Variables are
-- numbered as 01 numbers them, or in prefix order.
use Rattle.std.specs.Prelude.{ℕ, ◌≡◌, refl, Bool, true, false, ◌&&◌, ◌||◌, List, [], ◌∷◌}
use Rattle.std.proofs.Math.Decide.{ℕ_discrete}
use Rattle.qbf.specs.Literal.{Literal, literal, same}
use Rattle.qbf.specs.Formula.{Formula, entry, existential, universal, listed, after, existentials}
use Rattle.qbf.specs.Play.{Values, assign, lost, falsified, satisfied, Lost, Won}
use Rattle.qbf.proofs.Play.Laws.{position_won}
use Rattle.qbf.specs.Path.{holds, together, joined, literals, reach}
use Rattle.qbf.specs.Dependency.{passable, member, pair, depends}

-- The literal v, and its opposite.
abbrev p : ℕ → Literal
p v = literal v true

abbrev n : ℕ → Literal
n v = literal v false

-- 000's older scheme (Definition 6), in which a path to e may not pass through e.
unfoldable pub without : ℕ → List ℕ → List ℕ
without e [] = []
without e (x ∷ xs) = keep (ℕ_discrete e x) (without e xs)
  where
    keep : Dec (e ≡ x) → List ℕ → List ℕ
    keep (yes q) later = later
    keep (no q) later = x ∷ later

abbrev pub pair_via : List ℕ → Formula → ℕ → ℕ → Bool
pair_via X F u e = pair F.matrix (literals X) u e true || pair F.matrix (literals X) u e false

abbrev pub depends_older : Formula → ℕ → ℕ → Bool
depends_older F u e = member e (passable F u) && pair_via (without e (passable F u)) F u e

-- 000, section 4, before Definition 4; position c of 01. x, y, z are 1, 2, 3.
abbrev pub match_either : Formula
match_either =
    record {
      prefix = entry 1 universal ∷ entry 2 universal ∷ entry 3 existential ∷ [];
      matrix = (p 1 ∷ p 2 ∷ n 3 ∷ []) ∷ (n 1 ∷ n 2 ∷ p 3 ∷ []) ∷ [];
    }

pub match_either_won : Won match_either
unfolding lost falsified satisfied
match_either_won τ = (position_won match_either.prefix τ match_either.matrix).1 refl

-- z wins by taking x's value, and by taking y's.
pub match_either_models :
    (τ : Values) (x y : Bool)
    → (falsified (assign (assign (assign τ 1 x) 2 y) 3 x) match_either.matrix ≡ false)
    × (falsified (assign (assign (assign τ 1 x) 2 y) 3 y) match_either.matrix ≡ false)
unfolding falsified satisfied
match_either_models τ true true = (refl, refl)
match_either_models τ true false = (refl, refl)
match_either_models τ false true = (refl, refl)
match_either_models τ false false = (refl, refl)

-- Yet z depends on both: were it free of both, {−z} and {z} would be derived, and from them the empty clause.
pub match_either_depends_on_both : (depends match_either 1 3 ≡ true) × (depends match_either 2 3 ≡ true)
unfolding depends member pair reach joined together holds literals existentials after same ℕ_discrete
match_either_depends_on_both = (refl, refl)

-- 000, Example 1: x, z, u, y are 1, 2, 3, 4.
abbrev pub through_itself : Formula
through_itself =
    record {
      prefix = entry 1 universal ∷ entry 2 existential ∷ entry 3 universal ∷ entry 4 existential ∷ [];
      matrix =
          (p 1 ∷ p 3 ∷ n 4 ∷ [])
          ∷ (n 1 ∷ n 3 ∷ n 4 ∷ [])
          ∷ (p 2 ∷ p 3 ∷ p 4 ∷ [])
          ∷ (n 2 ∷ p 3 ∷ n 4 ∷ [])
          ∷ (n 2 ∷ n 3 ∷ p 4 ∷ [])
          ∷ (p 2 ∷ n 3 ∷ n 4 ∷ [])
          ∷ [];
    }

pub through_itself_won : Won through_itself
unfolding lost falsified satisfied
through_itself_won τ = (position_won through_itself.prefix τ through_itself.matrix).1 refl

pub through_itself_depends : depends through_itself 1 4 ≡ true
unfolding depends member pair reach joined together holds literals existentials after same ℕ_discrete
through_itself_depends = refl

-- Every path from 1 or −1 to 4 passes through 4.
pub through_itself_only :
    (reach through_itself.matrix (literals (without 4 (passable through_itself 1))) (p 1) (p 4) ≡ false)
    × (reach through_itself.matrix (literals (without 4 (passable through_itself 1))) (n 1) (p 4) ≡ false)
unfolding without reach joined together holds literals existentials after same ℕ_discrete
through_itself_only = (refl, refl)

-- So the older scheme misses the dependence (000 refutes this formula, which is won, with it).
pub through_itself_missed_by_older : depends_older through_itself 1 4 ≡ false
unfolding without member pair reach joined together holds literals existentials after same ℕ_discrete
through_itself_missed_by_older = refl

-- 000, Example 2, which is 001's formula; position a of 01.
abbrev pub two_reductions : Formula
two_reductions =
    record {
      prefix = entry 1 existential ∷ entry 2 universal ∷ entry 3 existential ∷ entry 4 existential ∷ [];
      matrix = (p 2 ∷ p 3 ∷ []) ∷ (n 2 ∷ p 4 ∷ []) ∷ (n 4 ∷ p 1 ∷ []) ∷ (n 1 ∷ n 3 ∷ []) ∷ [];
    }

pub two_reductions_lost : Lost two_reductions
unfolding lost falsified satisfied
two_reductions_lost τ = refl

pub two_reductions_independent : (depends two_reductions 2 3 ≡ false) × (depends two_reductions 2 4 ≡ false)
unfolding depends member pair reach joined together holds literals existentials after same ℕ_discrete
two_reductions_independent = (refl, refl)

-- A path that could cross 1, an existential left of 2, would make 3 depend on 2.
pub two_reductions_crossing_left : pair_via (existentials two_reductions.prefix) two_reductions 2 3 ≡ true
unfolding pair reach joined together holds literals existentials after same ℕ_discrete
two_reductions_crossing_left = refl

-- A path that could cross a universal: here 3 would depend on 1 by way of 2.
abbrev pub universal_between : Formula
universal_between =
    record {
      prefix = entry 1 universal ∷ entry 2 universal ∷ entry 3 existential ∷ [];
      matrix = (p 1 ∷ p 2 ∷ []) ∷ (n 2 ∷ p 3 ∷ []) ∷ (n 1 ∷ n 3 ∷ []) ∷ [];
    }

pub universal_between_independent : depends universal_between 1 3 ≡ false
unfolding depends member pair reach joined together holds literals existentials after same ℕ_discrete
universal_between_independent = refl

pub universal_between_crossed : pair_via (listed (after 1 universal_between.prefix)) universal_between 1 3 ≡ true
unfolding pair reach joined together holds literals existentials after same ℕ_discrete
universal_between_crossed = refl

-- Position e of 01: the paths to −2 pass through 2.
abbrev pub turned_back : Formula
turned_back =
    record {
      prefix = entry 1 universal ∷ entry 2 existential ∷ entry 3 existential ∷ [];
      matrix = (p 1 ∷ p 2 ∷ []) ∷ (n 1 ∷ p 2 ∷ []) ∷ (n 2 ∷ p 3 ∷ []) ∷ (n 2 ∷ n 3 ∷ []) ∷ [];
    }

pub turned_back_depends : (depends turned_back 1 2 ≡ true) × (depends turned_back 1 3 ≡ true)
unfolding depends member pair reach joined together holds literals existentials after same ℕ_discrete
turned_back_depends = (refl, refl)

-- Under the older scheme 2 falls out.
pub turned_back_older : (depends_older turned_back 1 2 ≡ false) × (depends_older turned_back 1 3 ≡ true)
unfolding without member pair reach joined together holds literals existentials after same ℕ_discrete
turned_back_older = (refl, refl)

-- Position l of 01: 1 and −1 are both joined to 2, neither to −2.
abbrev pub one_path : Formula
one_path =
    record {
      prefix = entry 1 universal ∷ entry 2 existential ∷ [];
      matrix = (p 1 ∷ p 2 ∷ []) ∷ (n 1 ∷ p 2 ∷ []) ∷ [];
    }

pub one_path_independent : depends one_path 1 2 ≡ false
unfolding depends member pair reach joined together holds literals existentials after same ℕ_discrete
one_path_independent = refl

-- A path to 2 there is from either sign: one path is not enough.
pub one_path_exists :
    (reach one_path.matrix (literals (passable one_path 1)) (p 1) (p 2) ≡ true)
    × (reach one_path.matrix (literals (passable one_path 1)) (n 1) (p 2) ≡ true)
unfolding reach joined together holds literals existentials after same ℕ_discrete
one_path_exists = (refl, refl)

-- Joined literals have differing variables: at {−2} no path turns from 2 to −2.
abbrev pub unit_clause : Formula
unit_clause =
    record {
      prefix = entry 1 universal ∷ entry 2 existential ∷ [];
      matrix = (p 1 ∷ p 2 ∷ []) ∷ (n 1 ∷ p 2 ∷ []) ∷ (n 2 ∷ []) ∷ [];
    }

pub unit_clause_independent : depends unit_clause 1 2 ≡ false
unfolding depends member pair reach joined together holds literals existentials after same ℕ_discrete
unit_clause_independent = refl
