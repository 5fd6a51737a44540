-- No steps after the end (02, P10). An accepted proof's empty clause is its last one, or without steps the first empty input clause. A proof that is
-- accepted is accepted with the same numbers where steps may follow an empty clause; one that is accepted there is accepted here with the same
-- numbers, or refused with 23, at the first step that follows an empty clause. Assumes nothing.
use Rattle.std.specs.Prelude.{Err}
use Rattle.checker.specs.Verdict.{Verdict, accept}
use Rattle.std.specs.Prelude.{ℕ, zero, suc, ◌+◌, ◌-◌, ◌≤◌, ◌<◌, ◌≡◌, ◌⊎◌, Bool, true, false, cond, List, [], ◌∷◌, ◌++◌, map, leb, ltb, eqb, length, drop, ℤ}
use Rattle.std.proofs.Math.Path.{refl}
use Rattle.std.proofs.Common.{ap, sym, ◌∙◌, inl, inr, append-nil, arith, lt-ltb, le-ltb, ltb-true, ltb-false, leb-true, leb-false, eqb-true}
use Rattle.std.proofs.Math.Logic.{dite}
use Rattle.std.proofs.lemmas.Bool.{false≢true, eqb-false}
use Rattle.std.proofs.Math.Option.{Option, none, some}
use Rattle.std.proofs.Math.Decide.{ℕ_discrete}
use Rattle.formula.specs.Decode.{clauses_of}
use Rattle.formula.specs.Tables.{zeros}
use Rattle.formula.proofs.Theorems.Tables.Laws.{admitted_closed}
use Rattle.formula.specs.Refusal.{refusal}
use Rattle.formula.specs.declared.refusal.Reason.TheVariants.{NoConclusion, Afterword}
use Rattle.inference.specs.declared.read.Family.{Family}
use Rattle.inference.specs.Rules.{Rules, plain_rules, ending, former_rules}
use Rattle.inference.specs.Words.{Words}
use Rattle.inference.specs.Steps.{Scope, Step, family_of, stated_by, size_of, judge_first, Outcome, ended, refused, run}
use Rattle.inference.specs.Steps.Run.{nothing_right, run_right, run_wrong, after_refused, before_judged, Passes, run_ended}
use Rattle.inference.specs.Empty.{is_empty, some_empty, first_empty}
use Rattle.inference.specs.Empty.Laws.{some_snoc, first_beyond, first_least, first_within}
use Rattle.inference.specs.Lawful.{numbered_clauses}
use Rattle.inference.specs.Lawful.Laws.{length_snoc, numbered_step, numbered_length}
use Rattle.checker.specs.Refutation.{FirstEmpty, Accepting}
use Rattle.checker.specs.Refutation.Ending.{unended_first}
use Rattle.checker.specs.Verdict.{concluded, conclude, verdict_of}
use Rattle.inference.specs.Scope.{scope_of}
use Rattle.checker.specs.Verdict.Accuracy.{Passed, passed_verdict, verdict_passed, accepted_apart, accepted_refutation, refutation_accepted, ended_conclusion, numbers_same}

first_nil : (n : ℕ) (Cs : List Words) → first_empty n ([] ∷ Cs) ≡ some n
unfolding first_empty
first_nil n Cs = refl

-- The run by the strict rule, from what the other one passed.
module _ (rules : Rules) (family : Family) (S : Scope) (room : ℕ) where
  abbrev strictly : List Words → Words → Outcome
  strictly known ws = run (ending true rules) family S room known zero ws

  -- Where no clause is empty, the two judge the same.
  first_same : (known : List Words) (ws : Words) → some_empty known ≡ false → judge_first (ending true rules) family S room known ws ≡ judge_first (ending false rules) family S room known ws
  first_same known ws h =
      before_judged (ending true rules) family S room known h ws ∙ sym (before_judged (ending false rules) family S room known refl ws)

  -- Where one is, any step is refused.
  after_stops :
      (known : List Words) (ws rest : Words) (s : Step) (steps : List Step) → some_empty known ≡ true → Passes (ending false rules) family S room known ws (s ∷ steps) rest
      → strictly known ws ≡ refused (refusal Afterword (suc (length known)))
  after_stops known [] rest s steps e p = absurd (nothing_right (ending false rules) family S room known s p.0)
  after_stops known (w ∷ ws) rest s steps e p =
      run_wrong (ending true rules) family S room known w ws Afterword (after_refused (ending true rules) family S room known e (w ∷ ws))

  run_nothing : (known : List Words) → strictly known [] ≡ ended known
  unfolding run
  run_nothing known = refl

  found_here : (s : Step) (steps : List Step) (known : List Words) (n : ℕ) → some_empty known ≡ false → stated_by s ≡ [] → first_empty 1 (numbered_clauses known (s ∷ steps)) ≡ some n → n ≡ suc (length known)
  found_here s steps known n e q f = same n (suc (length known)) (sym f ∙ first_beyond known (map stated_by (s ∷ steps)) e ∙ at_once (stated_by s) q)
    where
      same : (a b : ℕ) → ◌≡◌ {A = Option ℕ} (some a) (some b) → a ≡ b
      same a b z = cc

      at_once : (C : Words) → C ≡ [] → first_empty (suc (length known)) (C ∷ map stated_by steps) ≡ some (suc (length known))
      at_once C z = ap (λ (D : Words). first_empty (suc (length known)) (D ∷ map stated_by steps)) z ∙ first_nil (suc (length known)) (map stated_by steps)

  nothing_found : (n : ℕ) → first_empty n [] ≡ none
  unfolding first_empty
  nothing_found n = refl

  -- How the strict run ends: at the first empty clause, whose number is n, if steps follow it.
  abbrev ends_at : Bool → ℕ → List Words → Outcome
  ends_at true n final = refused (refusal Afterword (suc n))
  ends_at false n final = ended final

  strict_run :
      (steps : List Step) (known : List Words) (ws : Words) (n : ℕ) → Passes (ending false rules) family S room known ws steps [] → some_empty known ≡ false
      → first_empty 1 (numbered_clauses known steps) ≡ some n
      → strictly known ws ≡ ends_at (ltb n (length known + length steps)) n (numbered_clauses known steps)
  strict_run [] known ws n p e f =
      let none_found : first_empty 1 known ≡ none = ap (first_empty 1) (sym (append-nil known)) ∙ first_beyond known [] e ∙ nothing_found (suc (length known)) in
      let z : ◌≡◌ {A = ℕ} 0 1 = cc (rw (append-nil known) at f) in
      absurd (omega arith)
  strict_run (s ∷ steps) known ws n p e f =
      run_right (ending true rules) family S room known ws s (first_same known ws e ∙ p.0)
      ∙ go (stated_by s) refl steps p.1 f (strict_run steps (known ++ (stated_by s ∷ [])) (drop (size_of s) ws) n p.1)
    where
      one_more : length (known ++ (stated_by s ∷ [])) ≡ suc (length known)
      one_more = length_snoc known (stated_by s)

      go :
          (C : Words) → stated_by s ≡ C → (steps : List Step) → Passes (ending false rules) family S room (known ++ (stated_by s ∷ [])) (drop (size_of s) ws) steps []
          → first_empty 1 (numbered_clauses known (s ∷ steps)) ≡ some n
          → (some_empty (known ++ (stated_by s ∷ [])) ≡ false → first_empty 1 (numbered_clauses (known ++ (stated_by s ∷ [])) steps) ≡ some n → strictly (known ++ (stated_by s ∷ [])) (drop (size_of s) ws) ≡ ends_at (ltb n (length (known ++ (stated_by s ∷ [])) + length steps)) n (numbered_clauses (known ++ (stated_by s ∷ [])) steps))
          → strictly (known ++ (stated_by s ∷ [])) (drop (size_of s) ws) ≡ ends_at (ltb n (length known + suc (length steps))) n (numbered_clauses known (s ∷ steps))
      go [] q [] p f later =
          let here = found_here s [] known n e q f in
          rw (p, run_nothing (known ++ (stated_by s ∷ [])), le-ltb n (length known + 1) (omega arith)) refl
      go [] q (t ∷ rest) p f later =
          let here = found_here s (t ∷ rest) known n e q f in
          let size = one_more in
          after_stops (known ++ (stated_by s ∷ [])) (drop (size_of s) ws) [] t rest (some_snoc known (stated_by s) e ∙ ap is_empty q) p
          ∙ rw (lt-ltb n (length known + suc (suc (length rest))) (omega arith)) (ap (λ (k : ℕ). refused (refusal Afterword (suc k))) (let z : length (known ++ (stated_by s ∷ [])) ≡ n = omega arith in z))
      go (x ∷ C) q steps p f later =
          later (some_snoc known (stated_by s) e ∙ ap is_empty q) (rw (numbered_step known s steps) f)
          ∙ rw numbered_step (ap (λ (k : ℕ). ends_at (ltb n k) n (numbered_clauses known (s ∷ steps))) (let size = one_more in let z : length (known ++ (stated_by s ∷ [])) + length steps ≡ length known + suc (length steps) = omega arith in z))

-- What is answered on a proof that was accepted with these numbers where steps might follow an empty clause: 23 behind an empty input clause where there
-- are steps, 23 behind the first empty clause where steps follow it, and else the same. `inputs` is the number of input clauses.
abbrev pub answer_now : (inputs empty count : ℕ) → Verdict
answer_now inputs empty count =
    cond (eqb count 0)
    (accept (record { 0 = empty }) count)
    (cond (leb empty inputs)
    (Err (refusal Afterword (suc inputs)))
    (cond (ltb empty (inputs + count)) (Err (refusal Afterword (suc empty))) (accept (record { 0 = empty }) count)))

-- The same as what holds in each case.
record AfterEnd (inputs empty count : ℕ) (v : Verdict) : Type 0 where
  after_input : empty ≤ inputs → 1 ≤ count → v ≡ Err (refusal Afterword (suc inputs))
  after_step : inputs < empty → empty < inputs + count → v ≡ Err (refusal Afterword (suc empty))
  same : (count ≡ 0) ⊎ (inputs + count ≤ empty) → v ≡ accept (record { 0 = empty }) count

answered : (inputs empty count : ℕ) (v : Verdict) → AfterEnd inputs empty count v → v ≡ answer_now inputs empty count
answered inputs empty count v a = go (eqb count 0) refl (leb empty inputs) refl (ltb empty (inputs + count)) refl
  where
    go :
        (x : Bool) → eqb count 0 ≡ x → (y : Bool) → leb empty inputs ≡ y → (z : Bool) → ltb empty (inputs + count) ≡ z
        → v ≡ cond x (accept (record { 0 = empty }) count) (cond y (Err (refusal Afterword (suc inputs))) (cond z (Err (refusal Afterword (suc empty))) (accept (record { 0 = empty }) count)))
    go true e y f z g = a.same (inl (eqb-true count 0 e))
    go false e true f z g = a.after_input (leb-true empty inputs f) (let n = eqb-false count 0 e in dite (ℕ_discrete count 0) (λ q. absurd (n q)) (λ q. omega arith))
    go false e false f true g = a.after_step (leb-false empty inputs f) (ltb-true empty (inputs + count) g)
    go false e false f false g = a.same (inr (ltb-false empty (inputs + count) g))

module _ (prefix clauses steps : List ℤ) (scratch room empty count : ℕ) where
  -- The empty clause is numbered C plus steps, or without steps it is the first empty input clause.
  pub accepted_last :
      verdict_of plain_rules prefix clauses steps scratch room ≡ accept (record { 0 = empty }) count
      → ((count ≡ 0) × ((place : ℕ) × (empty ≡ suc place) × FirstEmpty (clauses_of clauses) place)) ⊎ ((1 ≤ count) × (empty ≡ zeros clauses + count))
  accepted_last h =
      let r = accepted_refutation plain_rules prefix clauses steps scratch room empty count h in
      go r (unended_first r.steps (clauses_of clauses) r.place (r.allowed refl) r.first_empty_lem)
    where
      go :
          (r : Accepting plain_rules prefix clauses steps scratch room empty count)
          → ((length r.steps ≡ 0) × FirstEmpty (clauses_of clauses) r.place) ⊎ ((1 ≤ length r.steps) × (suc r.place ≡ length (clauses_of clauses) + length r.steps))
          → ((count ≡ 0) × ((place : ℕ) × (empty ≡ suc place) × FirstEmpty (clauses_of clauses) place)) ⊎ ((1 ≤ count) × (empty ≡ zeros clauses + count))
      go r (inl t) = inl (r.counted ∙ t.0, (r.place, r.place_numbered, t.1))
      go r (inr t) =
          let a = r.counted in
          let b = r.place_numbered in
          let c = admitted_closed prefix clauses r.admitted in
          let d = t.0 in
          let e = t.1 in
          inr (omega arith, omega arith)

  -- Accepted, and so it is where steps may follow an empty clause.
  pub accepted_former :
      verdict_of plain_rules prefix clauses steps scratch room ≡ accept (record { 0 = empty }) count
      → verdict_of former_rules prefix clauses steps scratch room ≡ accept (record { 0 = empty }) count
  accepted_former h =
      let r = accepted_refutation plain_rules prefix clauses steps scratch room empty count h in
      refutation_accepted former_rules prefix clauses steps scratch room empty count
      (record {
        admitted = r.admitted;
        sized = r.sized;
        scratch_fits = r.scratch_fits;
        steps = r.steps;
        written = r.written;
        lawful = r.lawful;
        family = r.family;
        of_family = r.of_family;
        allowed = λ e. absurd (false≢true e);
        offsets_fit = r.offsets_fit;
        place = r.place;
        place_numbered = r.place_numbered;
        first_empty_lem = r.first_empty_lem;
        counted = r.counted;
      })

  abbrev S : Scope
  S = scope_of prefix clauses

  abbrev inputs : List Words
  inputs = clauses_of clauses

  -- The verdict from the strict run.
  module _ (p : Passed former_rules prefix clauses steps scratch room) where
    concludes : verdict_of plain_rules prefix clauses steps scratch room ≡ conclude plain_rules (zeros clauses) (run plain_rules (family_of steps) S room inputs zero steps)
    concludes =
        passed_verdict plain_rules prefix clauses steps scratch room
        (record { admitted = p.admitted; sized = p.sized; scratch_fits = p.scratch_fits; inputs_fit = p.inputs_fit })

    refuses : (place : ℕ) → run plain_rules (family_of steps) S room inputs zero steps ≡ refused (refusal Afterword place) → verdict_of plain_rules prefix clauses steps scratch room ≡ Err (refusal Afterword place)
    refuses place e = concludes ∙ ap (conclude plain_rules (zeros clauses)) e

    accepts :
        (final : List Words) → first_empty 1 final ≡ some empty → length final - zeros clauses ≡ count → run plain_rules (family_of steps) S room inputs zero steps ≡ ended final
        → verdict_of plain_rules prefix clauses steps scratch room ≡ accept (record { 0 = empty }) count
    accepts final first counted e =
        concludes
        ∙ ap (conclude plain_rules (zeros clauses)) e
        ∙ rw (ended_conclusion plain_rules prefix clauses steps scratch room p.admitted final e, first, counted)

    -- Steps that the other run passed, after input clauses one of which is empty, or none.
    ended_inputs :
        (list : List Step) → Passes former_rules (family_of steps) S room inputs steps list [] → first_empty 1 (numbered_clauses inputs list) ≡ some empty
        → length (numbered_clauses inputs list) - zeros clauses ≡ count
        → some_empty inputs ≡ true
        → AfterEnd (zeros clauses) empty count (verdict_of plain_rules prefix clauses steps scratch room)
    ended_inputs [] q first counted e =
        let closed = admitted_closed prefix clauses p.admitted in
        let size = numbered_length inputs [] in
        let within = first_within 1 empty inputs [] e first in
        record {
          after_input = λ a b. absurd (omega arith);
          after_step = λ a b. absurd (omega arith);
          same = λ t. accepts (numbered_clauses inputs []) first counted (rw (q, run_nothing plain_rules (family_of []) S room inputs) (ap ended (sym (append-nil inputs))));
        }
    ended_inputs (s ∷ list) q first counted e =
        let closed = admitted_closed prefix clauses p.admitted in
        let size = numbered_length inputs (s ∷ list) in
        let within = first_within 1 empty inputs (map stated_by (s ∷ list)) e first in
        record {
          after_input = λ a b. refuses (suc (zeros clauses)) (after_stops plain_rules (family_of steps) S room inputs steps [] s list e q ∙ ap (λ (k : ℕ). refused (refusal Afterword (suc k))) closed);
          after_step = λ a b. absurd (omega arith);
          same = λ t. absurd (neither t closed size within counted);
        }
      where
        neither : (count ≡ 0) ⊎ (zeros clauses + count ≤ empty) → length inputs ≡ zeros clauses → length (numbered_clauses inputs (s ∷ list)) ≡ length inputs + suc (length list) → empty < 1 + length inputs → length (numbered_clauses inputs (s ∷ list)) - zeros clauses ≡ count → ⊥
        neither (inl z) a b c d = omega arith
        neither (inr z) a b c d = omega arith

    open_inputs :
        (list : List Step) → Passes former_rules (family_of steps) S room inputs steps list [] → first_empty 1 (numbered_clauses inputs list) ≡ some empty
        → length (numbered_clauses inputs list) - zeros clauses ≡ count
        → some_empty inputs ≡ false
        → AfterEnd (zeros clauses) empty count (verdict_of plain_rules prefix clauses steps scratch room)
    open_inputs list q first counted e =
        let closed = admitted_closed prefix clauses p.admitted in
        let size = numbered_length inputs list in
        let least = first_least (suc (length inputs)) empty (map stated_by list) (sym (first_beyond inputs (map stated_by list) e) ∙ first) in
        let ran = strict_run plain_rules (family_of steps) S room list inputs steps empty q e first in
        record {
          after_input = λ a b. absurd (omega arith);
          after_step = λ a b. refuses (suc empty) (rw (lt-ltb empty (length inputs + length list) (omega arith)) at ran);
          same = λ t. accepts (numbered_clauses inputs list) first counted (rw (le-ltb empty (length inputs + length list) (either t closed size least counted)) at ran);
        }
      where
        either : (count ≡ 0) ⊎ (zeros clauses + count ≤ empty) → length inputs ≡ zeros clauses → length (numbered_clauses inputs list) ≡ length inputs + length list → suc (length inputs) ≤ empty → length (numbered_clauses inputs list) - zeros clauses ≡ count → length inputs + length list ≤ empty
        either (inl z) a b c d = omega arith
        either (inr z) a b c d = omega arith

  -- Accepted where steps may follow an empty clause: what the checker answers.
  pub former_accepted :
      verdict_of former_rules prefix clauses steps scratch room ≡ accept (record { 0 = empty }) count
      → verdict_of plain_rules prefix clauses steps scratch room ≡ answer_now (zeros clauses) empty count
  former_accepted h =
      let p = verdict_passed former_rules prefix clauses steps scratch room (accept (record { 0 = empty }) count) (λ q small. accepted_apart former_rules prefix clauses steps scratch room empty count q) h in
      answered (zeros clauses) empty count (verdict_of plain_rules prefix clauses steps scratch room) (go p.0 (run former_rules (family_of steps) S room inputs zero steps) refl p.1)
    where
      numbers :
          (final : List Words) (o : Option ℕ) → first_empty 1 final ≡ o → concluded (zeros clauses) (length final) o ≡ accept (record { 0 = empty }) count
          → (first_empty 1 final ≡ some empty) × (length final - zeros clauses ≡ count)
      numbers final none f k = absurd (accepted_apart former_rules prefix clauses steps scratch room empty count (refusal NoConclusion (length final)) (sym k))
      numbers final (some a) f k = let same = numbers_same a (length final - zeros clauses) empty count k in (f ∙ ap {B = Option ℕ} some same.0, same.1)

      some_or_none :
          Passed former_rules prefix clauses steps scratch room → (list : List Step) → Passes former_rules (family_of steps) S room inputs steps list []
          → (first_empty 1 (numbered_clauses inputs list) ≡ some empty) × (length (numbered_clauses inputs list) - zeros clauses ≡ count)
          → (b : Bool) → some_empty inputs ≡ b
          → AfterEnd (zeros clauses) empty count (verdict_of plain_rules prefix clauses steps scratch room)
      some_or_none p list q t true e = ended_inputs p list q t.0 t.1 e
      some_or_none p list q t false e = open_inputs p list q t.0 t.1 e

      go : Passed former_rules prefix clauses steps scratch room → (o : Outcome) → run former_rules (family_of steps) S room inputs zero steps ≡ o → conclude former_rules (zeros clauses) o ≡ accept (record { 0 = empty }) count → AfterEnd (zeros clauses) empty count (verdict_of plain_rules prefix clauses steps scratch room)
      go p (refused r) e k = absurd (accepted_apart former_rules prefix clauses steps scratch room empty count r (sym k))
      go p (ended final) e k =
          let t = run_ended former_rules (family_of steps) S room inputs steps final e in
          some_or_none p t.0 t.1 (rw t.2 (numbers final (first_empty 1 final) refl k)) (some_empty inputs) refl
