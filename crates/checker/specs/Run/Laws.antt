-- A right step taken by the run, a wrong one, and one that comes after an empty clause; the run under way. Assumes nothing.
use Rattle.std.specs.Prelude.{Result, Err, Option as Optional, None, is_some}
use Rattle.formula.specs.declared.literal.Variable.{Variable}
use Rattle.formula.specs.declared.literal.ClauseNumber.{ClauseNumber}
use Rattle.checker.specs.declared.step.StepTaken.{StepTaken}
use Rattle.std.specs.Prelude.{ℕ, zero, suc, ◌+◌, ◌-◌, ◌≤◌, ◌<◌, ◌≡◌, refl, Bool, true, false, ◌&&◌, length, get_or, set, ℤ, pos, nat_abs}
use Rattle.std.proofs.Common.{ap, ap₂, sym, ◌∙◌, add-one, length-set, drop-cons, drop-drop, get_or-set_same, get_or-set_other, Ok}
use Rattle.std.proofs.Math.Option.{none, some}
use mathlib.Core.List.{List, [], ◌∷◌, ◌++◌}
use native.Mathlib.Omega.{arith}
use Rattle.std.proofs.Math.ListN.{drop, drop_of_length-le}
use Rattle.std.proofs.Math.Decide.{dec_lt}
use Rattle.formula.specs.Refusal.{refusal}
use Rattle.formula.specs.Tables.{Admitted}
use Rattle.formula.proofs.Theorems.Tables.Laws.{admitted_literal}
use Rattle.formula.specs.Decode.{formula_of, clauses_of, clause_at}
use Rattle.formula.specs.declared.refusal.Reason.{Reason}
use Rattle.formula.specs.declared.refusal.Reason.TheVariants.{Afterword}
use Rattle.inference.specs.Rules.{plain_rules, ending, former_rules}
use Rattle.inference.specs.Words.{Words, AllWords, InRange}
use Rattle.inference.specs.declared.read.Family.{Family}
use Rattle.inference.specs.Steps.{Scope, Step, resolution, reduction, family_of, stated_by, size_of, judge, Judged, right, wrong, judge_read, judge_first, read_step, run, refused}
use Rattle.inference.specs.Steps.Run.{run_right, run_wrong, after_refused, before_judged, rightly}
use Rattle.inference.specs.Lawful.{NoZeros}
use Rattle.inference.proofs.Theorems.Lawful.Judged.{judge_lawful}
use Rattle.inference.specs.Lawful.Laws.{lawful_all_words}
use Rattle.inference.specs.Scope.{scope_of}
use Rattle.inference.proofs.Theorems.Scope.Laws.{scope_decides}
use Rattle.inference.specs.Empty.{is_empty, some_empty, first_empty, empty_number, empty_after}
use Rattle.inference.specs.Empty.Laws.{empty_after_lem, some_number}
use Rattle.inference.specs.Numbered.{stored_at, stored}
use Rattle.inference.specs.Numbered.Laws.{stored_length, stored_at_later, stored_at_step, stored_set_later, stored_step}
use Rattle.inference.specs.Read.{statement_of}
use Rattle.inference.specs.Read.Laws.{statement_read}
use Rattle.checker.specs.Step.{Ready, KeptReady, step_answer}
use Rattle.checker.specs.Step.Laws.{none_kept}
use Rattle.checker.specs.Run.{step_place, StepStands, Placed, RunDone}

-- Clauses in range hold no 0.
pub in_range_nonzero : (known : List Words) → AllWords InRange known → NoZeros known
in_range_nonzero known all C m x k e = let r = all C m x k in let z : nat_abs x ≡ 0 = ap nat_abs e in omega (arith, r.0, z)

-- Right behind a step that is read at its place stands the next one.
pub place_onward : (steps : Words) (before at : ℕ) (s : Step) → at ≡ step_place steps before → read_step (family_of steps) (drop at steps) ≡ some s → at + size_of s ≡ step_place steps (suc before)
unfolding step_place
place_onward steps before at s e h = rw (← e, h)

-- What a right answer says.
pub record Taken (S : Scope) (room : ℕ) (known : List Words) (steps : Words) (at next : ℕ) (ends : Bool) : Type 0 where
  pub taken : Step
  pub was_read : read_step (family_of steps) (drop at steps) ≡ some taken
  pub first : judge_read S room known (read_step (family_of steps) (drop at steps)) ≡ right taken
  pub judged : judge S known taken ≡ none
  pub fits : length known < room
  pub statement : clause_at steps (statement_of steps at) ≡ stated_by taken
  pub after : next ≡ at + size_of taken
  pub onward : at < next
  pub ends_is : ends ≡ is_empty (stated_by taken)

module _ (S : Scope) (room : ℕ) (known : List Words) (steps : Words) (at : ℕ) (kept : Optional Variable) (within : at < length steps) where
  pub right_taken :
      (next : ℕ) (row : Optional Variable) (ends : Bool) → Ok (record { next = next; kept = row; empty = ends }) ≡ step_answer at kept (judge_read S room known (read_step (family_of steps) (drop at steps)))
      → Taken S room known steps at next ends
  right_taken next row ends h = go (judge_read S room known (read_step (family_of steps) (drop at steps))) refl h
    where
      next_of : Result StepTaken Reason → ℕ
      next_of (Ok t) = t.next
      next_of (Err r) = 0

      ends_of : Result StepTaken Reason → Bool
      ends_of (Ok t) = t.empty
      ends_of (Err r) = false

      larger : (s : Step) → at < at + size_of s
      larger (resolution f i j e L) = omega arith
      larger (reduction f i a L) = omega arith

      go : (j : Judged) → judge_read S room known (read_step (family_of steps) (drop at steps)) ≡ j → Ok (record { next = next; kept = row; empty = ends }) ≡ step_answer at kept j → Taken S room known steps at next ends
      go (wrong r) e q = let z : ◌≡◌ {A = ℕ} 0 1 = cc in absurd (omega arith)
      go (right s) e q =
          let r = rightly former_rules (family_of steps) S room known (drop at steps) s (before_judged former_rules (family_of steps) S room known refl (drop at steps) ∙ e) in
          let n : next ≡ at + size_of s = ap next_of q in
          record {
            taken = s;
            was_read = r.was_read;
            first = e;
            judged = r.judged;
            fits = r.fits;
            statement = (statement_read (family_of steps) steps at within s r.was_read).1;
            after = n;
            onward = rw n (larger s);
            ends_is = ap ends_of q;
          }

  -- A refused step, by its answer or for where it stands.
  module _ (strict : Bool) where
    run_refused : (r : Reason) → judge_first (ending strict plain_rules) (family_of steps) S room known (drop at steps) ≡ wrong r → run (ending strict plain_rules) (family_of steps) S room known zero (drop at steps) ≡ refused (refusal r (suc (length known)))
    run_refused r j = go (drop-cons steps at (pos 0) within)
      where
        go : drop at steps ≡ get_or steps at (pos 0) ∷ drop (suc at) steps → run (ending strict plain_rules) (family_of steps) S room known zero (drop at steps) ≡ refused (refusal r (suc (length known)))
        go d = rw d (run_wrong (ending strict plain_rules) (family_of steps) S room known (get_or steps at (pos 0)) (drop (suc at) steps) r (rw d at j))

    pub wrong_run :
        (r : Reason) → (strict && some_empty known) ≡ false → Err r ≡ step_answer at kept (judge_read S room known (read_step (family_of steps) (drop at steps)))
        → run (ending strict plain_rules) (family_of steps) S room known zero (drop at steps) ≡ refused (refusal r (suc (length known)))
    wrong_run r may h = run_refused r (before_judged (ending strict plain_rules) (family_of steps) S room known may (drop at steps) ∙ go (judge_read S room known (read_step (family_of steps) (drop at steps))) h)
      where
        go : (j : Judged) → Err r ≡ step_answer at kept j → j ≡ wrong r
        go (right s) q = let z : ◌≡◌ {A = ℕ} 0 1 = cc in absurd (omega arith)
        go (wrong p) q = let e : p ≡ r = cc in ap wrong e

    pub after_run : (strict && some_empty known) ≡ true → run (ending strict plain_rules) (family_of steps) S room known zero (drop at steps) ≡ refused (refusal Afterword (suc (length known)))
    after_run h = run_refused Afterword (after_refused (ending strict plain_rules) (family_of steps) S room known h (drop at steps))

-- The run after a right step, with its offset kept.
module _ (strict : Bool) (prefix clauses steps : List ℤ) (inputs : ℕ) (offsets : List ℕ) (numbered at next : ℕ) (ends : Bool)
    (taken : Taken (scope_of prefix clauses) (length offsets) (stored inputs clauses steps offsets numbered) steps at next ends)
    (past : inputs ≤ numbered) where
  room_left : numbered < length offsets
  room_left = let f = taken.fits in omega (arith, f, stored_length inputs clauses steps offsets numbered)

  pub taken_stored : stored inputs clauses steps (set offsets numbered at) (numbered + 1) ≡ stored inputs clauses steps offsets numbered ++ (stated_by taken.taken ∷ [])
  taken_stored =
      rw (add-one numbered) (stored_step inputs clauses steps offsets numbered at past room_left ∙ ap (λ (C : Words). stored inputs clauses steps offsets numbered ++ (C ∷ [])) taken.statement)

  pub taken_run :
      (strict && some_empty (stored inputs clauses steps offsets numbered)) ≡ false
      → run (ending strict plain_rules) (family_of steps) (scope_of prefix clauses) (length offsets) (stored inputs clauses steps offsets numbered) zero (drop at steps)
      ≡ run (ending strict plain_rules) (family_of steps) (scope_of prefix clauses) (length offsets) (stored inputs clauses steps (set offsets numbered at) (numbered + 1)) zero (drop next steps)
  taken_run may =
      run_right (ending strict plain_rules) (family_of steps) (scope_of prefix clauses) (length offsets) (stored inputs clauses steps offsets numbered) (drop at steps) taken.taken
      (before_judged (ending strict plain_rules) (family_of steps) (scope_of prefix clauses) (length offsets) (stored inputs clauses steps offsets numbered) may (drop at steps) ∙ taken.first)
      ∙ ap₂ (λ (Cs : List Words) (ws : Words). run (ending strict plain_rules) (family_of steps) (scope_of prefix clauses) (length offsets) Cs zero ws) (sym taken_stored) (drop-drop (size_of taken.taken) at steps ∙ ap (λ (n : ℕ). drop n steps) (sym taken.after))

  pub taken_in_range : AllWords InRange (stored inputs clauses steps offsets numbered) → AllWords InRange (stored inputs clauses steps (set offsets numbered at) (numbered + 1))
  taken_in_range all =
      let S = scope_of prefix clauses in
      let F = formula_of prefix clauses in
      let l = judge_lawful S F (scope_decides prefix clauses) (stored inputs clauses steps offsets numbered) (in_range_nonzero (stored inputs clauses steps offsets numbered) all) taken.taken taken.judged in
      rw taken_stored (lawful_all_words InRange F (stored inputs clauses steps offsets numbered) all taken.taken l)

  pub taken_empty :
      (empty : Optional ClauseNumber) → empty ≡ empty_number (first_empty 1 (stored inputs clauses steps offsets numbered)) → (number : ClauseNumber) → number.0 ≡ numbered + 1
      → empty_after empty ends number ≡ empty_number (first_empty 1 (stored inputs clauses steps (set offsets numbered at) (numbered + 1)))
  taken_empty empty e number n =
      rw (taken_stored, e, taken.ends_is)
      (sym (empty_after_lem (stored inputs clauses steps offsets numbered) (stated_by taken.taken) number (let l = stored_length inputs clauses steps offsets numbered in omega arith)))

  pub taken_reached : at ≡ step_place steps (numbered - inputs) → next ≡ step_place steps (numbered + 1 - inputs)
  taken_reached e =
      let n : numbered + 1 - inputs ≡ suc (numbered - inputs) = omega arith in
      rw n (taken.after ∙ place_onward steps (numbered - inputs) at taken.taken e taken.was_read)

  pub taken_placed : at ≡ step_place steps (numbered - inputs) → Placed clauses steps inputs offsets numbered → Placed clauses steps inputs (set offsets numbered at) (numbered + 1)
  taken_placed reached p =
      record {
        input_clauses = stored_set_later inputs clauses steps offsets inputs numbered at past ∙ p.input_clauses;
        derived = λ k l m. go k (dec_lt k numbered) l m;
      }
    where
      go : (k : ℕ) → Dec (k < numbered) → inputs ≤ k → k < numbered + 1 → StepStands steps (k - inputs) (get_or (set offsets numbered at) k 0) (stored_at inputs clauses steps (set offsets numbered at) k)
      go k (yes h) l m = rw (get_or-set_other offsets numbered k at 0 (λ e. omega arith), stored_at_later inputs clauses steps offsets k numbered at h) (p.derived k l h)
      go k (no h) l m =
          let e : k ≡ numbered = omega arith in
          rw (e, get_or-set_same offsets numbered at 0 room_left, stored_at_step inputs clauses steps offsets numbered at past room_left)
          (record { place = reached; step = taken.taken; was_read = taken.was_read; states = sym taken.statement })

-- The run under way: what is left to run comes to the same as the whole; `room` is the length of the offsets.
pub record Going (strict : Bool) (prefix clauses steps : List ℤ) (inputs room : ℕ) (scratch offsets : List ℕ) (numbered at : ℕ) (kept : Optional Variable) (empty : Optional ClauseNumber) : Type 0 where
  pub whole :
      run (ending strict plain_rules) (family_of steps) (scope_of prefix clauses) room (clauses_of clauses) zero steps
      ≡ run (ending strict plain_rules) (family_of steps) (scope_of prefix clauses) room (stored inputs clauses steps offsets numbered) zero (drop at steps)
  pub ready : KeptReady prefix clauses kept scratch
  pub room_is : length offsets ≡ room
  pub past : inputs ≤ numbered
  pub fits : numbered ≤ room
  pub first_empty_lem : empty ≡ empty_number (first_empty 1 (stored inputs clauses steps offsets numbered))
  pub in_range_lem : AllWords InRange (stored inputs clauses steps offsets numbered)
  pub placed : Placed clauses steps inputs offsets numbered
  pub reached : at ≡ step_place steps (numbered - inputs)

module _ (strict : Bool) (prefix clauses steps : List ℤ) (inputs : ℕ) (scratch offsets : List ℕ) where
  pub going_begins :
      (first : Optional ClauseNumber) → Ready prefix scratch → Admitted prefix clauses → first ≡ empty_number (first_empty 1 (clauses_of clauses)) → inputs ≤ length offsets
      → stored inputs clauses steps offsets inputs ≡ clauses_of clauses
      → Going strict prefix clauses steps inputs (length offsets) scratch offsets inputs 0 None first
  unfolding step_place
  going_begins first r a f h e =
      record {
        whole = rw e;
        ready = none_kept prefix clauses scratch r;
        room_is = refl;
        past = omega arith;
        fits = h;
        first_empty_lem = rw e f;
        in_range_lem = rw e (λ C m x k. let l = admitted_literal prefix clauses a C m x k in (l.0, l.1));
        placed = record { input_clauses = e; derived = λ k l m. absurd (omega arith) };
        reached = let n : inputs - inputs ≡ 0 = omega arith in rw n;
      }

module _ {strict : Bool} {prefix clauses steps : List ℤ} {inputs room : ℕ} {scratch offsets : List ℕ} {numbered at : ℕ} {kept : Optional Variable} {empty : Optional ClauseNumber}
    (g : Going strict prefix clauses steps inputs room scratch offsets numbered at kept empty) where
  -- What the code tests: whether some clause is empty.
  some_is : (b : Bool) → (strict && is_some empty) ≡ b → (strict && some_empty (stored inputs clauses steps offsets numbered)) ≡ b
  some_is b h = ap (λ (t : Bool). strict && t) (sym (ap is_some g.first_empty_lem ∙ some_number (stored inputs clauses steps offsets numbered))) ∙ h

  -- What a right step says, and that its offset has room.
  module _
      (within : at < length steps) {family : Family} (same : family ≡ family_of steps) {next : ℕ} {row : Optional Variable} {ends : Bool}
      (told : Ok (record { next = next; kept = row; empty = ends }) ≡ step_answer at kept (judge_read (scope_of prefix clauses) (length offsets) (stored inputs clauses steps offsets numbered) (read_step family (drop at steps)))) where
    pub going_takes : Taken (scope_of prefix clauses) (length offsets) (stored inputs clauses steps offsets numbered) steps at next ends
    going_takes = right_taken (scope_of prefix clauses) (length offsets) (stored inputs clauses steps offsets numbered) steps at kept within next row ends (rw same at told)

    pub going_fits : numbered < length offsets
    going_fits = omega (arith, going_takes.fits, stored_length inputs clauses steps offsets numbered)

  -- A right step's offset is kept.
  pub going_turns :
      (next : ℕ) (row : Optional Variable) (ends : Bool) (number : ClauseNumber) (scratch' : List ℕ) → number.0 ≡ numbered + 1 → (strict && is_some empty) ≡ false
      → Taken (scope_of prefix clauses) (length offsets) (stored inputs clauses steps offsets numbered) steps at next ends
      → KeptReady prefix clauses row scratch'
      → Going strict prefix clauses steps inputs room scratch' (set offsets numbered at) (numbered + 1) next row (empty_after empty ends number)
  going_turns next row ends number scratch' told may t r =
      let f = t.fits in
      let n = stored_length inputs clauses steps offsets numbered in
      record {
        whole = g.whole ∙ rw (← g.room_is) (taken_run strict prefix clauses steps inputs offsets numbered at next ends t g.past (some_is false may));
        ready = r;
        room_is = length-set offsets numbered at ∙ g.room_is;
        past = let p = g.past in omega arith;
        fits = let e = g.room_is in omega arith;
        first_empty_lem = taken_empty strict prefix clauses steps inputs offsets numbered at next ends t g.past empty g.first_empty_lem number told;
        in_range_lem = taken_in_range strict prefix clauses steps inputs offsets numbered at next ends t g.past g.in_range_lem;
        placed = taken_placed strict prefix clauses steps inputs offsets numbered at next ends t g.past g.reached g.placed;
        reached = taken_reached strict prefix clauses steps inputs offsets numbered at next ends t g.past g.reached;
      }

  -- A refused one ends the run.
  going_stops :
      (r : Reason) (scratch' : List ℕ)
      → run (ending strict plain_rules) (family_of steps) (scope_of prefix clauses) (length offsets) (stored inputs clauses steps offsets numbered) zero (drop at steps) ≡ refused (refusal r (suc (length (stored inputs clauses steps offsets numbered))))
      → Ready prefix scratch'
      → RunDone strict prefix clauses steps inputs (Err (refusal r (numbered + 1))) scratch' offsets
  going_stops r scratch' w k =
      let n : suc (length (stored inputs clauses steps offsets numbered)) ≡ numbered + 1 = let l = stored_length inputs clauses steps offsets numbered in omega arith in
      record {
        outcome = rw g.room_is (g.whole ∙ rw (← g.room_is) (w ∙ ap (λ (p : ℕ). refused (refusal r p)) n));
        counted = omega arith;
        grown = tt;
        empty_told = tt;
        placed = record { input_clauses = g.placed.input_clauses; derived = λ k l m. absurd (omega arith) };
        ready = k;
      }

  pub going_refused :
      (r : Reason) (scratch' : List ℕ) → at < length steps → (strict && is_some empty) ≡ false
      → Err r ≡ step_answer at kept (judge_read (scope_of prefix clauses) (length offsets) (stored inputs clauses steps offsets numbered) (read_step (family_of steps) (drop at steps)))
      → Ready prefix scratch'
      → RunDone strict prefix clauses steps inputs (Err (refusal r (numbered + 1))) scratch' offsets
  going_refused r scratch' h may e k =
      going_stops r scratch' (wrong_run (scope_of prefix clauses) (length offsets) (stored inputs clauses steps offsets numbered) steps at kept h strict r (some_is false may) e) k

  -- One that comes after an empty clause.
  pub going_afterwards :
      at < length steps → (strict && is_some empty) ≡ true
      → RunDone strict prefix clauses steps inputs (Err (refusal Afterword (numbered + 1))) scratch offsets
  going_afterwards h e =
      going_stops Afterword scratch (after_run (scope_of prefix clauses) (length offsets) (stored inputs clauses steps offsets numbered) steps at kept h strict (some_is true e)) g.ready.ready

  -- No word is left.
  pub going_ends : length steps ≤ at → RunDone strict prefix clauses steps inputs (Ok (record { numbered = numbered; empty = empty })) scratch offsets
  unfolding run
  going_ends h =
      let nothing : drop at steps ≡ [] = drop_of_length-le steps {i = at} h in
      record { outcome = rw g.room_is (g.whole ∙ rw nothing); counted = let e = g.room_is in let f = g.fits in omega arith; grown = g.past; empty_told = g.first_empty_lem; placed = g.placed; ready = g.ready.ready }
