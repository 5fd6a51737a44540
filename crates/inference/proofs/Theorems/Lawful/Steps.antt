-- The run against the law: it ends exactly when the words are lawful steps one after the other, and it stops as blocked only
-- after lawful steps at a reduction whose clause holds a dependent existential. Assumes nothing.
use Rattle.std.specs.Prelude.{ℕ, zero, ◌+◌, ◌≤◌, ◌≡◌, ◌≢◌, length, drop}
use Rattle.std.proofs.Math.Path.{refl, ap, sym}
use Rattle.std.proofs.Common.{◌∙◌, arith, drop_at}
use Rattle.std.proofs.lemmas.Bool.{false≢true}
use Rattle.std.proofs.Math.Option.{some}
use mathlib.Core.List.{List, [], ◌∷◌, ◌++◌, append_assoc, append-nil}
use Rattle.std.proofs.Math.IntN.{pos}
use Rattle.qbf.specs.Formula.{Formula}
use Rattle.formula.specs.Refusal.{refusal}
use Rattle.formula.specs.declared.refusal.Blocker.{Blocker}
use Rattle.formula.specs.declared.refusal.Reason.TheVariants.{Blocked}
use Rattle.inference.specs.declared.read.Family.{Family}
use Rattle.inference.specs.Rules.{Rules}
use Rattle.inference.specs.Words.{Words}
use Rattle.inference.specs.Steps.{Scope, Step, stated_by, size_of, read_step, ended, refused, run}
use Rattle.inference.specs.Empty.Laws.{may_stand, some_empty_complete}
use Rattle.inference.specs.Steps.Written.{words_size, read_written, written_read}
use Rattle.inference.specs.Steps.Run.{rightly, right_first, blocked_open, blocked_first, Passes, passes_run, passes_fits, passes_unended, run_ended, run_stopped}
use Rattle.inference.specs.Lawful.{words_of, step_words, numbered_clauses, LawfulSteps, OfFamily, Allowed, RunBlocked, NoZeros}
use Rattle.inference.specs.Lawful.Laws.{lawful_words, lawful_all_words, length_snoc}
use Rattle.inference.proofs.Theorems.Lawful.Judged.{Decides, judge_lawful, lawful_judge, judge_blocked}

-- What the run is to show of words it passes: they are lawful steps where steps may stand, and the clause offsets have room for every clause.
pub record RunEnds (rules : Rules) (family : Family) (F : Formula) (room : ℕ) (final known : List Words) (ws : Words) : Type 0 where
  pub steps : List Step
  pub written : ws ≡ step_words steps
  pub lawful : LawfulSteps F known steps
  pub of_family : OfFamily family steps
  pub allowed : Allowed rules known steps
  pub numbered : numbered_clauses known steps ≡ final
  pub fits : length known ≤ room → length final ≤ room

module _ (rules : Rules) (family : Family) (S : Scope) (F : Formula) (D : Decides S F) (room : ℕ) where
  -- Steps that pass are lawful, and the words are theirs.
  pub passes_lawful :
      (steps : List Step) (known : List Words) (ws rest : Words) → NoZeros known → Passes rules family S room known ws steps rest
      → (ws ≡ step_words steps ++ rest) × LawfulSteps F known steps × OfFamily family steps
  unfolding step_words
  passes_lawful [] known ws rest z p = (p, tt, tt)
  passes_lawful (s ∷ steps) known ws rest z p =
      let r = rightly rules family S room known ws s p.0 in
      let l = judge_lawful S F D known z s r.judged in
      let w = read_written family ws s r.was_read in
      let later = passes_lawful steps (known ++ (stated_by s ∷ [])) (drop (size_of s) ws) rest (lawful_all_words (λ x. x ≢ pos 0) F known z s l) p.1 in (
        w.0 ∙ ap (λ (t : Words). words_of s ++ t) later.0 ∙ sym (append_assoc (words_of s) (step_words steps) rest),
        (l, later.1),
        (w.1, later.2),
      )

  -- Lawful steps pass, where they may stand.
  pub lawful_passes :
      (steps : List Step) (known : List Words) → LawfulSteps F known steps → OfFamily family steps → Allowed rules known steps → NoZeros known → length known + length steps ≤ room
      → Passes rules family S room known (step_words steps) steps []
  unfolding step_words
  lawful_passes [] known l o a z f = refl
  lawful_passes (s ∷ steps) known l o a z f =
      let was_read : read_step family (words_of s ++ step_words steps) ≡ some s = rw (← o.0) (written_read s (step_words steps) (lawful_words (λ x. x ≢ pos 0) F known z s l.0)) in (
        right_first rules family S room known (may_stand rules.strict known (λ q. (a q).0)) (words_of s ++ step_words steps) s was_read (omega arith) (lawful_judge S F D known z s l.0),
        rw (drop_at (words_of s) (step_words steps) (size_of s) (words_size s))
            (lawful_passes steps (known ++ (stated_by s ∷ [])) l.1 o.1 (λ q. (a q).1) (lawful_all_words (λ x. x ≢ pos 0) F known z s l.0) (omega (arith, length_snoc known (stated_by s)))),
      )

  pub run_lawful : (final known : List Words) (ws : Words) → NoZeros known → run rules family S room known zero ws ≡ ended final → RunEnds rules family F room final known ws
  run_lawful final known ws z h =
      let t = run_ended rules family S room known ws final h in
      let l = passes_lawful t.0 known ws [] z t.1 in
      record {
        steps = t.0;
        written = l.0 ∙ append-nil (step_words t.0);
        lawful = l.1;
        of_family = l.2;
        allowed = passes_unended rules family S room t.0 known ws [] t.1;
        numbered = t.2;
        fits = λ f. rw (← t.2) (passes_fits rules family S room t.0 known ws [] t.1 f);
      }

  pub lawful_run :
      (steps : List Step) (known : List Words) → LawfulSteps F known steps → OfFamily family steps → Allowed rules known steps → NoZeros known → length known + length steps ≤ room
      → run rules family S room known zero (step_words steps) ≡ ended (numbered_clauses known steps)
  unfolding run
  lawful_run steps known l o a z f = passes_run rules family S room steps known (step_words steps) [] (lawful_passes steps known l o a z f)

  pub run_blocked :
      (x : Blocker) (known : List Words) (ws : Words) (place : ℕ) → NoZeros known
      → run rules family S room known zero ws ≡ refused (refusal (Blocked x) place)
      → RunBlocked rules F known ws place x
  run_blocked x known ws place z h =
      let t = run_stopped rules family S room known ws (refusal (Blocked x) place) h in
      let rest = t.1.0 in
      let l = passes_lawful t.0 known ws rest z t.1.1 in
      let b = blocked_first rules family S room (numbered_clauses known t.0) x rest t.1.2 in
      record {
        steps = t.0;
        lawful = l.1;
        blocked = b.0;
        family = family;
        of_family = l.2;
        blocked_family = (read_written family rest b.0 b.1).1;
        allowed = passes_unended rules family S room t.0 known ws rest t.1.1;
        blocked_allowed = λ a. (λ m. false≢true (sym (blocked_open rules family S room (numbered_clauses known t.0) x a rest t.1.2) ∙ some_empty_complete (numbered_clauses known t.0) m), tt);
        rest = drop (size_of b.0) rest;
        stands = l.0 ∙ ap (λ (r : Words). step_words t.0 ++ r) (read_written family rest b.0 b.1).0;
        blocks = judge_blocked S F D (numbered_clauses known t.0) b.0 x b.2;
        own_number = t.1.3;
      }
