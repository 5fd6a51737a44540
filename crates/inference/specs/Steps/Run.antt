-- Laws of the run and of its first step: words that are skipped, a wrong step, a right one; what a step was that is judged right, or
-- refused as blocked; and the steps that a run has passed where it ends or stops. Assumes nothing.
use Prim.Native.Nat.{ℕ, zero, suc, ◌≤◌, ◌<◌}
use Rattle.std.proofs.Math.Path.{◌≡◌}
use Rattle.std.specs.Prelude.{refl, ◌≢◌, Bool, true, false, not, ◌&&◌, ltb, length, drop, ℤ}
use Rattle.std.proofs.Common.{ap, sym, ◌∙◌, ltb-true, lt-ltb}
use Rattle.std.proofs.lemmas.Bool.{false≢true, not-true}
use Rattle.std.proofs.Math.Option.{Option, none, some}
use mathlib.Core.List.{List, [], ◌∷◌, ◌++◌, append-nil}
use native.Mathlib.Omega.{arith}
use Rattle.formula.specs.Refusal.{refusal}
use Rattle.formula.specs.declared.refusal.Blocker.{Blocker}
use Rattle.formula.specs.declared.refusal.Reason.{Reason}
use Rattle.formula.specs.declared.refusal.Refusal.{Refusal}
use Rattle.formula.specs.declared.refusal.Reason.TheVariants.{NoRoom, Blocked, Afterword}
use Rattle.inference.specs.declared.read.Family.{Family}
use Rattle.inference.specs.Rules.{Rules}
use Rattle.formula.specs.Refusal.Laws.{require_passed}
use Rattle.inference.specs.Words.{Words}
use Rattle.inference.specs.Steps.{
  Scope,
  Step,
  stated_by,
  size_of,
  read_step,
  judge,
  Judged,
  right,
  wrong,
  judged_as,
  judge_read,
  judge_first,
  Outcome,
  ended,
  refused,
  less_one,
  run,
}
use Rattle.inference.specs.Steps.Written.{size_positive}
use Rattle.inference.specs.Empty.{some_empty}
use Rattle.inference.specs.Empty.Laws.{some_empty_complete}
use Rattle.inference.specs.Lawful.{numbered_clauses, Allowed}
use Rattle.inference.specs.Lawful.Laws.{length_snoc, numbered_step}

-- To skip words is to run the others.
pub run_skip : (rules : Rules) (family : Family) (S : Scope) (room : ℕ) (known : List Words) (skip : ℕ) (ws : Words) → run rules family S room known skip ws ≡ run rules family S room known zero (drop skip ws)
unfolding run
run_skip rules family S room known zero [] = refl
run_skip rules family S room known (suc skip) [] = refl
run_skip rules family S room known zero (w ∷ ws) = refl
run_skip rules family S room known (suc skip) (w ∷ ws) = run_skip rules family S room known skip ws

-- A step that was not refused for where it stands.
module _ (rules : Rules) (family : Family) (S : Scope) (room : ℕ) (known : List Words) where
  first_passed :
      (ws : Words) (j : Judged) → wrong Afterword ≢ j → judge_first rules family S room known ws ≡ j
      → ((rules.strict && some_empty known) ≡ false) × (judge_read S room known (read_step family ws) ≡ j)
  unfolding judge_first
  first_passed ws j n h =
      let p = require_passed (not (rules.strict && some_empty known)) (wrong Afterword) (judge_read S room known (read_step family ws)) j n h in
      (not-true (rules.strict && some_empty known) p.0, p.1)

  first_right : (ws : Words) (s : Step) → judge_first rules family S room known ws ≡ right s → ((rules.strict && some_empty known) ≡ false) × (judge_read S room known (read_step family ws) ≡ right s)
  first_right ws s h = first_passed ws (right s) (λ q. let z : ◌≡◌ {A = ℕ} 0 1 = cc in omega arith) h

  pub nothing_right : (s : Step) → judge_first rules family S room known [] ≡ right s → ⊥
  unfolding read_step
  nothing_right s h = let e = (first_right [] s h).1 in let z : ◌≡◌ {A = ℕ} 0 1 = cc in omega arith

  -- A right step, and on with the words after it.
  pub run_right :
      (ws : Words) (s : Step) → judge_first rules family S room known ws ≡ right s
      → run rules family S room known zero ws ≡ run rules family S room (known ++ (stated_by s ∷ [])) zero (drop (size_of s) ws)
  unfolding run
  run_right [] s e = absurd (nothing_right s e)
  run_right (w ∷ ws) s e =
      rw (e, size_positive s) (run_skip rules family S room (known ++ (stated_by s ∷ [])) (less_one (size_of s)) ws)

  -- A wrong one.
  pub run_wrong : (w : ℤ) (ws : Words) (r : Reason) → judge_first rules family S room known (w ∷ ws) ≡ wrong r → run rules family S room known zero (w ∷ ws) ≡ refused (refusal r (suc (length known)))
  unfolding run
  run_wrong w ws r e = rw e

-- A step that was judged right: it was read, there is room, and the judge had nothing to say.
pub record Rightly (rules : Rules) (family : Family) (S : Scope) (room : ℕ) (known : List Words) (ws : Words) (s : Step) : Type 0 where
  pub was_read : read_step family ws ≡ some s
  pub fits : length known < room
  pub judged : judge S known s ≡ none

same_reason : (q r : Reason) → ◌≡◌ {A = Judged} (wrong r) (wrong q) → ◌≡◌ {A = Option Reason} (some r) (some q)
same_reason q r e = cc

module _ (rules : Rules) (family : Family) (S : Scope) (room : ℕ) (known : List Words) where
  -- Where no step may stand, that comes ahead of all else, and where one may it says nothing.
  pub after_refused : (rules.strict && some_empty known) ≡ true → (ws : Words) → judge_first rules family S room known ws ≡ wrong Afterword
  unfolding judge_first
  after_refused e ws = rw e

  pub before_judged : (rules.strict && some_empty known) ≡ false → (ws : Words) → judge_first rules family S room known ws ≡ judge_read S room known (read_step family ws)
  unfolding judge_first
  before_judged e ws = rw e

  pub rightly : (ws : Words) (s : Step) → judge_first rules family S room known ws ≡ right s → Rightly rules family S room known ws s
  rightly ws s h = go (read_step family ws) refl (first_right rules family S room known ws s h).1
    where
      same : (t u : Step) → ◌≡◌ {A = Judged} (right t) (right u) → t ≡ u
      same t u e = cc

      judging : (t : Step) (o : Option Reason) → judge S known t ≡ o → read_step family ws ≡ some t → length known < room → judged_as t o ≡ right s → Rightly rules family S room known ws s
      judging t none j e f k =
          let q = same t s k in
          record { was_read = rw (← q) e; fits = f; judged = rw (← q) j }
      judging t (some r) j e f k = let z : ◌≡◌ {A = ℕ} 0 1 = cc in absurd (omega arith)

      go : (o : Option Step) → read_step family ws ≡ o → judge_read S room known o ≡ right s → Rightly rules family S room known ws s
      go none e k = let z : ◌≡◌ {A = ℕ} 0 1 = cc in absurd (omega arith)
      go (some t) e k =
          let p = require_passed (ltb (length known) room) (wrong NoRoom) (judged_as t (judge S known t)) (right s) (λ q. let z : ◌≡◌ {A = ℕ} 0 1 = cc in omega arith) k in
          judging t (judge S known t) refl e (ltb-true (length known) room p.0) p.1

  pub right_first :
      (rules.strict && some_empty known) ≡ false
      → (ws : Words) (s : Step) → read_step family ws ≡ some s → length known < room → judge S known s ≡ none
      → judge_first rules family S room known ws ≡ right s
  right_first may ws s e f j = before_judged may ws ∙ rw (e, lt-ltb (length known) room f, j)

  -- A right step stands after no empty clause, by strict rules; nor does one that was refused as blocked.
  pub right_open : rules.strict ≡ true → (ws : Words) (s : Step) → judge_first rules family S room known ws ≡ right s → some_empty known ≡ false
  right_open a ws s h = ap (λ (b : Bool). b && some_empty known) (sym a) ∙ (first_right rules family S room known ws s h).0

  not_afterword : (x : Blocker) → ◌≢◌ {A = Judged} (wrong Afterword) (wrong (Blocked x))
  not_afterword x q = let z : ◌≡◌ {A = ℕ} 0 1 = cc in omega arith

  pub blocked_open : (x : Blocker) → rules.strict ≡ true → (ws : Words) → judge_first rules family S room known ws ≡ wrong (Blocked x) → some_empty known ≡ false
  blocked_open x a ws h = ap (λ (b : Bool). b && some_empty known) (sym a) ∙ (first_passed rules family S room known ws (wrong (Blocked x)) (not_afterword x) h).0

  -- A step that was refused as blocked was read, and judged so.
  module _ (x : Blocker) where
    pub blocked_first : (ws : Words) → judge_first rules family S room known ws ≡ wrong (Blocked x) → (s : Step) × (read_step family ws ≡ some s) × (judge S known s ≡ some (Blocked x))
    blocked_first ws h = go (read_step family ws) refl (first_passed rules family S room known ws (wrong (Blocked x)) (not_afterword x) h).1
      where
        judging : (t : Step) (o : Option Reason) → judge S known t ≡ o → read_step family ws ≡ some t → judged_as t o ≡ wrong (Blocked x) → (s : Step) × (read_step family ws ≡ some s) × (judge S known s ≡ some (Blocked x))
        judging t none j e k = let z : ◌≡◌ {A = ℕ} 0 1 = cc in absurd (omega arith)
        judging t (some r) j e k = (t, e, j ∙ same_reason (Blocked x) r k)

        go : (o : Option Step) → read_step family ws ≡ o → judge_read S room known o ≡ wrong (Blocked x) → (s : Step) × (read_step family ws ≡ some s) × (judge S known s ≡ some (Blocked x))
        go none e k = let z : ◌≡◌ {A = ℕ} 0 1 = cc in absurd (omega arith)
        go (some t) e k =
            let p = require_passed (ltb (length known) room) (wrong NoRoom) (judged_as t (judge S known t)) (wrong (Blocked x)) (λ q. let z : ◌≡◌ {A = ℕ} 0 1 = cc in omega arith) k in
            judging t (judge S known t) refl e p.1

-- The words are read as these steps one after the other, each judged right after the clauses before it, and `rest` is left.
abbrev pub Passes : Rules → Family → Scope → ℕ → List Words → Words → List Step → Words → Type 0
Passes rules family S room known ws [] rest = ws ≡ rest
Passes rules family S room known ws (s ∷ steps) rest =
    (judge_first rules family S room known ws ≡ right s) × Passes rules family S room (known ++ (stated_by s ∷ [])) (drop (size_of s) ws) steps rest

-- What is left after steps that pass: no word, or a first step that is wrong.
pub data Left (rules : Rules) (family : Family) (S : Scope) (room : ℕ) (known : List Words) : Words → Type 0 where
  nothing : Left rules family S room known []
  wrong_step : {w : ℤ} {ws : Words} (r : Reason) → judge_first rules family S room known (w ∷ ws) ≡ wrong r → Left rules family S room known (w ∷ ws)

-- The words as the run takes them.
pub record Passage (rules : Rules) (family : Family) (S : Scope) (room : ℕ) (known : List Words) (ws : Words) : Type 0 where
  pub steps : List Step
  pub rest : Words
  pub passes : Passes rules family S room known ws steps rest
  pub left : Left rules family S room (numbered_clauses known steps) rest

-- By any rules: steps that pass are run through, and a run has passed steps up to where it ends or stops.
module _ (rules : Rules) (family : Family) (S : Scope) (room : ℕ) where
  pub passes_run :
      (steps : List Step) (known : List Words) (ws rest : Words) → Passes rules family S room known ws steps rest
      → run rules family S room known zero ws ≡ run rules family S room (numbered_clauses known steps) zero rest
  passes_run [] known ws rest p = rw (p, append-nil known)
  passes_run (s ∷ steps) known ws rest p =
      run_right rules family S room known ws s p.0
      ∙ passes_run steps (known ++ (stated_by s ∷ [])) (drop (size_of s) ws) rest p.1
      ∙ rw (numbered_step known s steps)

  pub passes_fits :
      (steps : List Step) (known : List Words) (ws rest : Words) → Passes rules family S room known ws steps rest
      → length known ≤ room → length (numbered_clauses known steps) ≤ room
  passes_fits [] known ws rest p f = rw (append-nil known) f
  passes_fits (s ∷ steps) known ws rest p f =
      rw (← numbered_step known s steps)
      (passes_fits steps (known ++ (stated_by s ∷ [])) (drop (size_of s) ws) rest p.1 (rw (length_snoc known (stated_by s)) (rightly rules family S room known ws s p.0).fits))

  -- By strict rules no step that passes stands after an empty clause.
  pub passes_unended : (steps : List Step) (known : List Words) (ws rest : Words) → Passes rules family S room known ws steps rest → Allowed rules known steps
  passes_unended [] known ws rest p a = tt
  passes_unended (s ∷ steps) known ws rest p a = (
    λ m. false≢true (sym (right_open rules family S room known a ws s p.0) ∙ some_empty_complete known m),
    passes_unended steps (known ++ (stated_by s ∷ [])) (drop (size_of s) ws) rest p.1 a,
  )

  pub run_passage : (known : List Words) (skip : ℕ) (ws : Words) → Passage rules family S room known (drop skip ws)
  run_passage known zero [] = record { steps = []; rest = []; passes = refl; left = nothing }
  run_passage known (suc skip) [] = record { steps = []; rest = []; passes = refl; left = nothing }
  run_passage known (suc skip) (w ∷ ws) = run_passage known skip ws
  run_passage known zero (w ∷ ws) =
      go (judge_first rules family S room known (w ∷ ws)) refl (λ s. run_passage (known ++ (stated_by s ∷ [])) (less_one (size_of s)) ws)
    where
      go :
          (j : Judged) → judge_first rules family S room known (w ∷ ws) ≡ j
          → ((s : Step) → Passage rules family S room (known ++ (stated_by s ∷ [])) (drop (less_one (size_of s)) ws))
          → Passage rules family S room known (w ∷ ws)
      go (right s) e later =
          let t = later s in
          record { steps = s ∷ t.steps; rest = t.rest; passes = (e, rw (size_positive s) t.passes); left = rw (← numbered_step known s t.steps) t.left }
      go (wrong r) e later = record { steps = []; rest = w ∷ ws; passes = refl; left = rw (append-nil known) (wrong_step r e) }

  module _ (known : List Words) (ws : Words) where
    -- The run from where it ends or stops.
    run_left : (o : Outcome) → run rules family S room known zero ws ≡ o → (t : Passage rules family S room known ws) → run rules family S room (numbered_clauses known t.steps) zero t.rest ≡ o
    run_left o h t = sym (passes_run t.steps known ws t.rest t.passes) ∙ h

    pub run_ended :
        (final : List Words) → run rules family S room known zero ws ≡ ended final
        → (steps : List Step) × Passes rules family S room known ws steps [] × (numbered_clauses known steps ≡ final)
    unfolding run
    run_ended final h =
        let t = run_passage known zero ws in
        let e = ends t.rest (numbered_clauses known t.steps) t.left (run_left (ended final) h t) in
        (t.steps, rw e.0 at t.passes, e.1)
      where
        ends : (rest : Words) (n : List Words) → Left rules family S room n rest → run rules family S room n zero rest ≡ ended final → (rest ≡ []) × (n ≡ final)
        ends [] n nothing e = (refl, cc)
        ends (w ∷ rest) n (wrong_step r j) e =
            let stops = run_wrong rules family S room n w rest r j in
            let z : ◌≡◌ {A = ℕ} 0 1 = cc in
            absurd (omega arith)

    pub run_stopped :
        (stop : Refusal) → run rules family S room known zero ws ≡ refused stop
        → (steps : List Step) × ((rest : Words) × Passes rules family S room known ws steps rest × (judge_first rules family S room (numbered_clauses known steps) rest ≡ wrong stop.reason) × (stop.place ≡ suc (length (numbered_clauses known steps))))
    unfolding run
    run_stopped stop h =
        let t = run_passage known zero ws in
        let e = stops t.rest (numbered_clauses known t.steps) t.left (run_left (refused stop) h t) in
        (t.steps, (t.rest, t.passes, e.0, e.1))
      where
        same : (a b : Refusal) → ◌≡◌ {A = Outcome} (refused a) (refused b) → a ≡ b
        same a b e = cc

        stops :
            (rest : Words) (n : List Words) → Left rules family S room n rest → run rules family S room n zero rest ≡ refused stop
            → (judge_first rules family S room n rest ≡ wrong stop.reason) × (stop.place ≡ suc (length n))
        stops [] n nothing e = let z : ◌≡◌ {A = ℕ} 0 1 = cc in absurd (omega arith)
        stops (w ∷ rest) n (wrong_step r j) e =
            let q = same (refusal r (suc (length n))) stop (sym (run_wrong rules family S room n w rest r j) ∙ e) in
            (j ∙ ap (λ (x : Refusal). wrong x.reason) q, sym (ap (λ (x : Refusal). x.place) q))
