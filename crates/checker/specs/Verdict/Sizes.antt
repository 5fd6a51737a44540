-- How many bytes of scratch are asked for decides nothing but whether there is room: where both have it, the verdicts are equal (02, P8). Assumes nothing.
use Rattle.checker.specs.Verdict.{Verdict, accept}
use Prim.Native.Nat.{ℕ, zero, suc, ◌≤◌}
use Rattle.std.specs.Prelude.{◌≡◌, ℤ, length, replicate}
use Rattle.std.proofs.Math.Path.{refl, ap}
use Rattle.std.proofs.Common.{sym, ◌∙◌, arith, le-leb}
use mathlib.Core.List.{List, [], ◌∷◌, ◌++◌}
use Rattle.formula.specs.Decode.{clauses_of}
use Rattle.formula.specs.Tables.{zeros}
use Rattle.dependency.specs.Scratch.{scratch_bound, small_bound}
use Rattle.inference.specs.declared.read.Family.{Family}
use Rattle.inference.specs.Rules.{Rules, resized, plain_rules, small_rules}
use Rattle.inference.specs.Words.{Words}
use Rattle.inference.specs.Steps.{Scope, Step, family_of, stated_by, size_of, read_step, Judged, right, wrong, judge_first, turn, less_one, Outcome, ended, refused, run}
use Rattle.checker.specs.Verdict.Accuracy.{accepted_refutation}
use Rattle.checker.specs.Verdict.{conclude, sized_verdict, verdict_of, Checked}
use Rattle.inference.specs.Scope.{scope_of}

module _ (n : ℕ) (rules : Rules) (family : Family) (S : Scope) (room : ℕ) where
  first_resized : (known : List Words) (ws : Words) → judge_first (resized n rules) family S room known ws ≡ judge_first rules family S room known ws
  unfolding judge_first read_step
  first_resized known [] = refl
  first_resized known (w ∷ ws) = refl

  -- The run asks for no scratch.
  pub run_resized : (known : List Words) (skip : ℕ) (ws : Words) → run (resized n rules) family S room known skip ws ≡ run rules family S room known skip ws
  unfolding run
  run_resized known skip [] = refl
  run_resized known (suc skip) (w ∷ ws) = run_resized known skip ws
  run_resized known zero (w ∷ ws) =
      ap (λ (j : Judged). turn known j (λ s. run (resized n rules) family S room (known ++ (stated_by s ∷ [])) (less_one (size_of s)) ws)) (first_resized known (w ∷ ws))
      ∙ go (judge_first rules family S room known (w ∷ ws)) (λ s. run_resized (known ++ (stated_by s ∷ [])) (less_one (size_of s)) ws)
    where
      go :
          (j : Judged)
          → ((s : Step) → run (resized n rules) family S room (known ++ (stated_by s ∷ [])) (less_one (size_of s)) ws ≡ run rules family S room (known ++ (stated_by s ∷ [])) (less_one (size_of s)) ws)
          → turn known j (λ s. run (resized n rules) family S room (known ++ (stated_by s ∷ [])) (less_one (size_of s)) ws) ≡ turn known j (λ s. run rules family S room (known ++ (stated_by s ∷ [])) (less_one (size_of s)) ws)
      go (right s) h = h s
      go (wrong r) h = refl

  -- Nor does what it concludes with.
  pub conclude_resized :
      (inputs : ℕ) (known : List Words) (ws : Words)
      → conclude (resized n rules) inputs (run (resized n rules) family S room known zero ws) ≡ conclude rules inputs (run rules family S room known zero ws)
  conclude_resized inputs known ws = ap (conclude (resized n rules) inputs) (run_resized known zero ws) ∙ go (run rules family S room known zero ws)
    where
      go : (o : Outcome) → conclude (resized n rules) inputs o ≡ conclude rules inputs o
      go (ended final) = refl
      go (refused r) = refl

-- Both have room, each in a scratch of its own length: the verdicts are equal.
pub resized_verdict :
    (n : ℕ) (rules : Rules) (prefix clauses steps : List ℤ) (scratch scratch-n room : ℕ) → rules.scratch ≤ scratch → n ≤ scratch-n
    → verdict_of rules prefix clauses steps scratch room ≡ verdict_of (resized n rules) prefix clauses steps scratch-n room
unfolding verdict_of sized_verdict
resized_verdict n rules prefix clauses steps scratch scratch-n room h k =
    rw (le-leb rules.scratch scratch h, le-leb n scratch-n k, conclude_resized n rules (family_of steps) (scope_of prefix clauses) room (zeros clauses) (clauses_of clauses) steps)

-- So the two entries answer the same wherever both have their scratch.
pub small_verdict :
    (prefix clauses steps : List ℤ) (scratch scratch-s room : ℕ) → scratch_bound ≤ scratch → small_bound ≤ scratch-s
    → verdict_of plain_rules prefix clauses steps scratch room ≡ verdict_of small_rules prefix clauses steps scratch-s room
small_verdict prefix clauses steps scratch scratch-s room h k = resized_verdict small_bound plain_rules prefix clauses steps scratch scratch-s room h k

-- What the small entry accepts the large one accepts in scratch enough, with the same numbers: so what is shown of an accepted proof by the checker's rules
-- (Exact.antt, Ending.antt) holds of the small entry too.
pub small_accepted :
    (prefix clauses steps : List ℤ) (scratch room empty count : ℕ) → verdict_of small_rules prefix clauses steps scratch room ≡ accept (record { 0 = empty }) count
    → verdict_of plain_rules prefix clauses steps scratch_bound room ≡ accept (record { 0 = empty }) count
small_accepted prefix clauses steps scratch room empty count h =
    let r = accepted_refutation small_rules prefix clauses steps scratch room empty count h in
    small_verdict prefix clauses steps scratch_bound scratch room (omega arith) r.scratch_fits ∙ h

module _ (prefix clauses steps : List ℤ) (scratch scratch-s offsets : List ℕ) (room : scratch_bound ≤ length scratch) (room-s : small_bound ≤ length scratch-s)
    (verdict verdict-s : Verdict) (scratch' scratch-s' offsets' offsets-s' : List ℕ)
    (large : Checked plain_rules prefix clauses steps scratch offsets verdict scratch' offsets')
    (small : Checked small_rules prefix clauses steps scratch-s offsets verdict-s scratch-s' offsets-s') where
  pub same_verdict : verdict ≡ verdict-s
  same_verdict = large.verdict ∙ small_verdict prefix clauses steps (length scratch) (length scratch-s) (length offsets) room room-s ∙ sym small.verdict

  pub same_offsets : offsets' ≡ offsets-s'
  same_offsets = large.offsets_cleared ∙ sym small.offsets_cleared

  pub both_cleared : (scratch' ≡ replicate (length scratch) 0) × (scratch-s' ≡ replicate (length scratch-s) 0)
  both_cleared = (large.scratch_cleared, small.scratch_cleared)
