-- "17's numbers apart" (02, P6): what the checker says of a proof, each reason by 01's number alone, is what is said by the old prefix and steps that
-- know of no block. Assumes nothing.
use Rattle.std.specs.Prelude.{Err}
use Rattle.checker.specs.Verdict.{Verdict, accept}
use Prim.Native.Nat.{ℕ, zero, suc}
use Rattle.std.specs.Prelude.{◌≡◌, Bool, not, ◌&&◌, ◌||◌, length, leb, ltb, ℤ, pos, negsuc, nat_abs}
use Rattle.std.proofs.Math.Path.{refl, ap}
use Rattle.std.proofs.Common.{◌∙◌}
use Rattle.std.proofs.Math.Bool.{true, false}
use Rattle.std.proofs.Math.Option.{Option, none, some}
use mathlib.Core.List.{List, [], ◌∷◌, ◌++◌}
use Rattle.formula.specs.Bounds.{proof_bound}
use Rattle.formula.specs.Refusal.{refusal, require, number}
use Rattle.formula.specs.Decode.{clauses_of}
use Rattle.formula.specs.Prefix.{prefix_of}
use Rattle.formula.specs.Tables.{zeros, Admitted}
use Rattle.formula.specs.declared.refusal.Reason.TheVariants.{Oversized, NoRoom, WrongPivot, Blocked, Afterword}
use Rattle.inference.specs.declared.read.Family.{Family}
use Rattle.inference.specs.Rules.{Rules}
use Rattle.inference.specs.Words.{Words, holds}
use Rattle.inference.specs.Empty.{some_empty}
use Rattle.inference.specs.Steps.{Scope, Step, resolution, reduction, stated_by, size_of, family_of, read_step, antecedent, reduct, blocked, blocker_of, demand, judge_statement, judge_resolution, judge_reduction, judge, Judged, right, wrong, judged_as, judge_read, judge_first, Outcome, turn, less_one, run}
use Rattle.checker.specs.Verdict.{conclude, scope_verdict, verdict_of}
use Rattle.inference.specs.Scope.{scope_in}
use Rattle.signed.specs.Signed.{signed_prefix, signed_formula, refused, said, blockless}
use Rattle.signed.proofs.Theorems.Signed.Laws.{verdict_same}

-- Steps judged alike: both right and the same, or wrong for reasons of one number.
abbrev Alike : Judged → Judged → Type 0
Alike (right s) (right t) = s ≡ t
Alike (right s) (wrong r) = ⊥
Alike (wrong r) (right s) = ⊥
Alike (wrong r) (wrong q) = number r ≡ number q

alike_self : (J : Judged) → Alike J J
alike_self (right s) = refl
alike_self (wrong r) = refl

alike_here : (may : Bool) (J K : Judged) → Alike J K → Alike (require may (wrong Afterword) J) (require may (wrong Afterword) K)
alike_here true J K h = h
alike_here false J K h = refl

module _ (S : Scope) where
  blocked_same : (u : ℕ) (C : Words) → blocked S u C ≡ blocked (blockless S) u C
  unfolding blocked
  blocked_same u [] = refl
  blocked_same u (x ∷ C) = ap (λ b. S.dependent u (nat_abs x) || b) (blocked_same u C)

  resolution_same : (f : Family) (e : ℤ) (L : Words) (C D : Option Words) → judge_resolution f S e L C D ≡ judge_resolution f (blockless S) e L C D
  unfolding judge_resolution
  resolution_same f e L none D = refl
  resolution_same f e L (some C) none = refl
  resolution_same f (pos v) L (some C) (some D) = refl
  resolution_same f (negsuc n) L (some C) (some D) = refl

  reduction_alike :
      (s : Step) (f : Family) (a : ℤ) (L : Words) (C : Option Words)
      → Alike (judged_as s (judge_reduction f S a L C)) (judged_as s (judge_reduction f (blockless S) a L C))
  unfolding judge_reduction
  reduction_alike s f a L none = refl
  reduction_alike s f a L (some C) = rw (← blocked_same (nat_abs a) C) (go (S.universal (nat_abs a) && holds a C) (not (blocked S (nat_abs a) C)))
    where
      go :
          (b c : Bool)
          → Alike (judged_as s (demand b WrongPivot (demand c (Blocked (blocker_of S (nat_abs a) C)) (judge_statement (reduct f a C) L))))
          (judged_as s (demand b WrongPivot (demand c (Blocked (blocker_of (blockless S) (nat_abs a) C)) (judge_statement (reduct f a C) L))))
      go true true = alike_self (judged_as s (judge_statement (reduct f a C) L))
      go true false = refl
      go false c = refl

  judged_alike : (known : List Words) (s : Step) → Alike (judged_as s (judge S known s)) (judged_as s (judge (blockless S) known s))
  judged_alike known (resolution f i j e L) =
      rw (← resolution_same f e L (antecedent known i) (antecedent known j))
      (alike_self (judged_as (resolution f i j e L) (judge_resolution f S e L (antecedent known i) (antecedent known j))))
  judged_alike known (reduction f i a L) = reduction_alike (reduction f i a L) f a L (antecedent known i)

  read_alike : (room : ℕ) (known : List Words) (s : Option Step) → Alike (judge_read S room known s) (judge_read (blockless S) room known s)
  read_alike room known none = refl
  read_alike room known (some s) = go (ltb (length known) room)
    where
      go : (b : Bool) → Alike (require b (wrong NoRoom) (judged_as s (judge S known s))) (require b (wrong NoRoom) (judged_as s (judge (blockless S) known s)))
      go true = judged_alike known s
      go false = refl

  first_alike : (rules : Rules) (f : Family) (room : ℕ) (known : List Words) (ws : Words) → Alike (judge_first rules f S room known ws) (judge_first rules f (blockless S) room known ws)
  unfolding judge_first
  first_alike rules f room known ws =
      alike_here (not (rules.strict && some_empty known)) (judge_read S room known (read_step f ws)) (judge_read (blockless S) room known (read_step f ws))
      (read_alike room known (read_step f ws))

  turn_said :
      (rules : Rules) (inputs : ℕ) (known : List Words) (J K : Judged) (next next' : Step → Outcome) → Alike J K
      → ((s : Step) → said (conclude rules inputs (next s)) ≡ said (conclude rules inputs (next' s)))
      → said (conclude rules inputs (turn known J next)) ≡ said (conclude rules inputs (turn known K next'))
  turn_said rules inputs known (right s) (right t) next next' e h = h s ∙ ap (λ (x : Step). said (conclude rules inputs (next' x))) e
  turn_said rules inputs known (right s) (wrong r) next next' e h = absurd e
  turn_said rules inputs known (wrong r) (right s) next next' e h = absurd e
  turn_said rules inputs known (wrong r) (wrong q) next next' e h = λ i. refused (e i) (suc (length known)) 0 0

  run_said :
      (rules : Rules) (f : Family) (inputs room : ℕ) (known : List Words) (skip : ℕ) (ws : Words)
      → said (conclude rules inputs (run rules f S room known skip ws)) ≡ said (conclude rules inputs (run rules f (blockless S) room known skip ws))
  unfolding run
  run_said rules f inputs room known skip [] = refl
  run_said rules f inputs room known (suc skip) (w ∷ ws) = run_said rules f inputs room known skip ws
  run_said rules f inputs room known zero (w ∷ ws) =
      turn_said rules inputs known (judge_first rules f S room known (w ∷ ws)) (judge_first rules f (blockless S) room known (w ∷ ws))
      (λ s. run rules f S room (known ++ (stated_by s ∷ [])) (less_one (size_of s)) ws)
      (λ s. run rules f (blockless S) room (known ++ (stated_by s ∷ [])) (less_one (size_of s)) ws)
      (first_alike rules f room known (w ∷ ws))
      (λ s. run_said rules f inputs room (known ++ (stated_by s ∷ [])) (less_one (size_of s)) ws)

said_within : (a b c : Bool) (x y z v w : Verdict) → said v ≡ said w → said (require a x (require b y (require c z v))) ≡ said (require a x (require b y (require c z w)))
said_within true true true x y z v w h = h
said_within true true false x y z v w h = refl
said_within true false c x y z v w h = refl
said_within false b c x y z v w h = refl

-- What was said before there were blocks, of the old prefix with the same entries.
pub verdict_said :
    (prefix clauses old : List ℤ) → Admitted prefix clauses → prefix_of prefix ≡ signed_prefix old → (rules : Rules) (steps : List ℤ) (scratch room : ℕ)
    → said (verdict_of rules prefix clauses steps scratch room) ≡ said (scope_verdict rules (blockless (scope_in (signed_formula old clauses))) clauses steps scratch room)
verdict_said prefix clauses old a same rules steps scratch room =
    ap said (verdict_same prefix clauses old a same rules steps scratch room)
    ∙ said_within (leb (length steps) proof_bound) (leb rules.scratch scratch) (leb (zeros clauses) room) (Err (refusal Oversized 0)) (Err (refusal NoRoom 0)) (Err (refusal NoRoom (suc room)))
    (conclude rules (zeros clauses) (run rules (family_of steps) (scope_in (signed_formula old clauses)) room (clauses_of clauses) zero steps))
    (conclude rules (zeros clauses) (run rules (family_of steps) (blockless (scope_in (signed_formula old clauses))) room (clauses_of clauses) zero steps))
    (run_said (scope_in (signed_formula old clauses)) rules (family_of steps) (zeros clauses) room (clauses_of clauses) zero steps)
