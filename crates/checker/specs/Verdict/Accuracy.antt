-- What an accepted verdict says (01, "Steps"; wish 2) and what makes it, with nothing supposed of tables or room, by any rules and for both families;
-- Exact.antt has the wish as its sentence, by the checker's rules. The verdict is blocked only where an existential of the clause depends, and what blocks
-- is an entry of the prefix. And wish 3 for the checker: an accepted proof makes the game lost. Assumes nothing.
use Rattle.std.specs.Prelude.{Err, Ok}
use Rattle.checker.specs.Verdict.{Verdict, accept}
use Rattle.std.specs.Prelude.{ℕ, zero, suc, ◌+◌, ◌-◌, ◌≤◌, ◌<◌, ◌≡◌, refl, ◌≢◌, Bool, true, leb, length, get_or, ℤ, pos, nat_abs}
use Rattle.std.proofs.Common.{ap, sym, subst, ◌∙◌, arith, length-append}
use Rattle.std.proofs.Math.Option.{Option, none, some}
use mathlib.Core.List.Memᴰ
use mathlib.Core.List.{List, [], ◌∷◌, ◌++◌, Memᴰ}
use borrow.Author.Tests.{leb-true, le-leb}
use Rattle.qbf.specs.Formula.{Formula, Entry, entry, existential}
use Rattle.qbf.specs.Formula.Laws.{distinct_images}
use Rattle.qbf.specs.Derivation.{leaf}
use Rattle.qbf.specs.Play.{Lost}
use Rattle.formula.specs.Bounds.{proof_bound}
use Rattle.formula.specs.Decode.{literal_of, clause_of, clauses_of, formula_of}
use Rattle.formula.specs.Decode.Laws.{magnitude_negated, clauses_no_zero}
use Rattle.formula.specs.Tables.{zeros, tables_refusal, Admitted}
use Rattle.formula.specs.Prefix.{quantifier_number, prefix_of, with_blocks, entry_count, entry_at}
use Rattle.formula.specs.Prefix.Laws.{entry_variable, entry_quantifier, entry_block, entry_member, block_variable, blocks_length}
use Rattle.formula.proofs.Theorems.Tables.Laws.{admitted_words, admitted_prefix_distinct, admitted_closed, admitted_clause_distinct, admitted_proper}
use Rattle.formula.proofs.Theorems.Tables.Refusals.{tables_refused}
use Rattle.formula.specs.Refusal.{refusal, require, number, no_blocker}
use Rattle.formula.specs.declared.refusal.Refusal.{Refusal}
use Rattle.formula.specs.declared.refusal.Blocker.{Blocker}
use Rattle.formula.specs.declared.refusal.Reason.TheVariants.{Oversized, NoRoom, NoConclusion, Blocked}
use Rattle.inference.specs.declared.read.Family.{Family}
use Rattle.inference.specs.Rules.{Rules}
use Rattle.formula.specs.Refusal.Laws.{require_passed}
use Rattle.inference.specs.Words.{Words}
use Rattle.inference.specs.Steps.{Step, resolution, reduction, family_of, Outcome, ended, refused, run}
use Rattle.inference.proofs.Theorems.Steps.Tests.{opposite_zero}
use Rattle.inference.specs.Lawful.{step_words, numbered_clauses, OfFamily, BlockedStep, RunBlocked, BlockerEntry}
use Rattle.inference.specs.Lawful.Laws.{numbered_length}
use Rattle.inference.specs.Steps.Written.{family_written}
use Rattle.inference.proofs.Theorems.Lawful.Steps.{run_lawful, lawful_run, run_blocked, RunEnds}
use Rattle.inference.specs.Derived.{AllDerived}
use Rattle.inference.specs.Derived.Laws.{lawful_steps_derived, derived_lost}
use Rattle.checker.specs.Refutation.{Accepting}
use Rattle.checker.specs.Refutation.FirstEmptyClause.{first_empty_sound, first_empty_complete, first_empty_member}
use Rattle.checker.specs.Verdict.{conclusion, concluded, conclude, if_admitted, sized_verdict, verdict_of}
use Rattle.inference.specs.Scope.{scope_of}
use Rattle.inference.specs.Empty.{first_empty}
use Rattle.checker.specs.Verdict.Conclusion.{run_conclusion}
use Rattle.inference.proofs.Theorems.Scope.Laws.{scope_decides}

-- The order of refusals, taken apart.
admitted_passed : (o : Option Refusal) (later v : Verdict) → ((r : Refusal) → o ≡ some r → v ≢ Err r) → if_admitted o later ≡ v → (o ≡ none) × (later ≡ v)
admitted_passed none later v n h = (refl, h)
admitted_passed (some r) later v n h = absurd (n r refl (sym h))

-- Accepted verdicts that are the same have the same numbers.
pub numbers_same : (a b c d : ℕ) → ◌≡◌ {A = Verdict} (accept (record { 0 = a }) b) (accept (record { 0 = c }) d) → (a ≡ c) × (b ≡ d)
numbers_same a b c d e = (ap first e, ap second e)
  where
    first : Verdict → ℕ
    first (Ok a) = a.empty.0
    first (Err r) = 0

    second : Verdict → ℕ
    second (Ok a) = a.steps
    second (Err r) = 0

-- What stands right behind others.
behind : (left right : List Blocker) (x : Blocker) → get_or (left ++ (x ∷ right)) (length left) no_blocker ≡ x
behind [] right x = refl
behind (b ∷ left) right x = behind left right x

-- What stands before the steps has passed.
pub record Passed (rules : Rules) (prefix clauses steps : List ℤ) (scratch room : ℕ) : Type 0 where
  pub admitted : Admitted prefix clauses
  pub sized : length steps ≤ proof_bound
  pub scratch_fits : rules.scratch ≤ scratch
  pub inputs_fit : zeros clauses ≤ room

module _ (rules : Rules) (prefix clauses steps : List ℤ) (scratch room : ℕ) where
  abbrev outcome : Outcome
  outcome = run rules (family_of steps) (scope_of prefix clauses) room (clauses_of clauses) zero steps

  abbrev F : Formula
  F = formula_of prefix clauses

  pub passed_verdict : Passed rules prefix clauses steps scratch room → verdict_of rules prefix clauses steps scratch room ≡ conclude rules (zeros clauses) outcome
  unfolding verdict_of sized_verdict
  passed_verdict p =
      rw (
        p.admitted.passes,
        le-leb (length steps) proof_bound p.sized,
        le-leb rules.scratch scratch p.scratch_fits,
        le-leb (zeros clauses) room p.inputs_fit,
      )

  -- A verdict that no test before the steps gave: those refuse with numbers up to 9.
  pub verdict_passed :
      (v : Verdict) → ((q : Refusal) → number q.reason ≤ 9 → v ≢ Err q)
      → verdict_of rules prefix clauses steps scratch room ≡ v
      → Passed rules prefix clauses steps scratch room × (conclude rules (zeros clauses) outcome ≡ v)
  unfolding verdict_of sized_verdict
  verdict_passed v n h =
      let a = admitted_passed (tables_refusal prefix clauses) _ v (λ r e. n r (tables_refused prefix clauses r e).early) h in
      let b = test (leb (length steps) proof_bound) (refusal Oversized 0) (omega arith) _ a.1 in
      let c = test (leb rules.scratch scratch) (refusal NoRoom 0) (omega arith) _ b.1 in
      let d = test (leb (zeros clauses) room) (refusal NoRoom (suc room)) (omega arith) _ c.1 in (
        record {
          admitted = record { passes = a.0 };
          sized = leb-true (length steps) proof_bound b.0;
          scratch_fits = leb-true rules.scratch scratch c.0;
          inputs_fit = leb-true (zeros clauses) room d.0;
        },
        d.1,
      )
    where
      test : (b : Bool) (q : Refusal) → number q.reason ≤ 9 → (later : Verdict) → require b (Err q) later ≡ v → (b ≡ true) × (later ≡ v)
      test b q small later e = require_passed b (Err q) later v (λ k. n q small (sym k)) e

  -- What a run that ended concludes with is its first empty clause.
  pub ended_conclusion : Admitted prefix clauses → (final : List Words) → outcome ≡ ended final → conclusion rules.strict (zeros clauses) final ≡ first_empty 1 final
  ended_conclusion a final e = rw (← admitted_closed prefix clauses a) (run_conclusion rules (family_of steps) (scope_of prefix clauses) room (clauses_of clauses) steps final e)

  pub accepted_apart : (n m : ℕ) (q : Refusal) → accept (record { 0 = n }) m ≢ Err q
  accepted_apart n m q e = let z : ◌≡◌ {A = ℕ} 0 1 = cc in omega arith

  -- Clauses of the table hold no 0.
  inputs_no_zero : (C : Words) → Memᴰ C (clauses_of clauses) → (x : ℤ) → Memᴰ x C → x ≢ pos 0
  inputs_no_zero C m = clauses_no_zero clauses C m

  -- Accepted: the words are a refutation.
  pub accepted_refutation :
      (n m : ℕ) → verdict_of rules prefix clauses steps scratch room ≡ accept (record { 0 = n }) m
      → Accepting rules prefix clauses steps scratch room n m
  accepted_refutation n m h =
      let p = verdict_passed (accept (record { 0 = n }) m) (λ q small. accepted_apart n m q) h in
      go p.0 outcome refl p.1
    where
      finish :
          Passed rules prefix clauses steps scratch room
          → (final : List Words) → RunEnds rules (family_of steps) F room final (clauses_of clauses) steps
          → (o : Option ℕ) → first_empty 1 final ≡ o
          → concluded (zeros clauses) (length final) o ≡ accept (record { 0 = n }) m
          → Accepting rules prefix clauses steps scratch room n m
      finish p final ends none f k = absurd (accepted_apart n m (refusal NoConclusion (length final)) (sym k))
      finish p final ends (some k) f q =
          let same = numbers_same k (length final - zeros clauses) n m q in
          let inputs : length (clauses_of clauses) ≡ zeros clauses = admitted_closed prefix clauses p.admitted in
          let first = first_empty_sound final k f in
          let size : length final ≡ length (clauses_of clauses) + length ends.steps = rw (← ends.numbered) (numbered_length (clauses_of clauses) ends.steps) in
          let counts = same.1 in
          record {
            admitted = p.admitted;
            sized = p.sized;
            scratch_fits = p.scratch_fits;
            steps = ends.steps;
            written = ends.written;
            lawful = ends.lawful;
            family = family_of steps;
            of_family = ends.of_family;
            allowed = ends.allowed;
            offsets_fit = rw ends.numbered (ends.fits (rw inputs p.inputs_fit));
            place = first.0;
            place_numbered = sym same.0 ∙ first.1;
            first_empty_lem = rw ends.numbered first.2;
            counted = omega arith;
          }

      go : Passed rules prefix clauses steps scratch room → (o : Outcome) → outcome ≡ o → conclude rules (zeros clauses) o ≡ accept (record { 0 = n }) m → Accepting rules prefix clauses steps scratch room n m
      go p (ended final) e k =
          finish p final (run_lawful rules (family_of steps) (scope_of prefix clauses) F (scope_decides prefix clauses) room final (clauses_of clauses) steps inputs_no_zero e) (first_empty 1 final) refl
          (ap (concluded (zeros clauses) (length final)) (sym (ended_conclusion p.admitted final e)) ∙ k)
      go p (refused r) e k = absurd (accepted_apart n m r (sym k))

  -- Steps of one family are of that of their words.
  own_family : (list : List Step) (f : Family) → OfFamily f list → OfFamily (family_of (step_words list)) list
  unfolding step_words
  own_family [] f o = tt
  own_family (s ∷ list) f o = subst (λ (g : Family). OfFamily g (s ∷ list)) (sym (family_written s (step_words list) ∙ o.0)) o

  -- A refutation whose steps may stand where they do is accepted.
  pub refutation_accepted :
      (n m : ℕ) → Accepting rules prefix clauses steps scratch room n m
      → verdict_of rules prefix clauses steps scratch room ≡ accept (record { 0 = n }) m
  refutation_accepted n m r =
      let list = r.steps in
      let known = numbered_clauses (clauses_of clauses) list in
      let fits = r.offsets_fit in
      let inputs : length (clauses_of clauses) ≡ zeros clauses = admitted_closed prefix clauses r.admitted in
      let size : length known ≡ length (clauses_of clauses) + length list = numbered_length (clauses_of clauses) list in
      let ran : outcome ≡ ended known =
      rw r.written (lawful_run rules (family_of (step_words list)) (scope_of prefix clauses) F (scope_decides prefix clauses) room list (clauses_of clauses) r.lawful (own_family list r.family r.of_family) r.allowed inputs_no_zero (omega arith)) in
      let first : first_empty 1 known ≡ some n = first_empty_complete known r.place r.first_empty_lem ∙ ap {B = Option ℕ} some (sym r.place_numbered) in
      let counts : length known - zeros clauses ≡ m = let c = r.counted in omega arith in
      passed_verdict (record { admitted = r.admitted; sized = r.sized; scratch_fits = r.scratch_fits; inputs_fit = omega arith })
      ∙ rw (ran, ended_conclusion r.admitted known ran, first, counts)

  -- The refusal of a blocked step comes behind those tests.
  blocked_late : (x : Blocker) (place : ℕ) (q : Refusal) → number q.reason ≤ 9 → ◌≢◌ {A = Verdict} (Err (refusal (Blocked x) place)) (Err q)
  blocked_late x place q small e =
      let r : refusal (Blocked x) place ≡ q = cc in
      let k : 17 ≡ number q.reason = ap (λ (r : Refusal). number r.reason) r in
      omega arith

  -- Refused as blocked: after lawful steps stands a reduction whose clause holds an existential that depends.
  pub blocked_depends :
      (x : Blocker) (place : ℕ) → verdict_of rules prefix clauses steps scratch room ≡ Err (refusal (Blocked x) place)
      → RunBlocked rules F (clauses_of clauses) steps place x
  blocked_depends x place h = go outcome refl (verdict_passed (Err (refusal (Blocked x) place)) (blocked_late x place) h).1
    where
      same : (a b : Refusal) → ◌≡◌ {A = Verdict} (Err a) (Err b) → a ≡ b
      same a b e = cc

      finish : (final : List Words) (o : Option ℕ) → concluded (zeros clauses) (length final) o ≡ Err (refusal (Blocked x) place) → ⊥
      finish final none e =
          let q : NoConclusion ≡ Blocked x = ap (λ (r : Refusal). r.reason) (same (refusal NoConclusion (length final)) (refusal (Blocked x) place) e) in
          let z : ◌≡◌ {A = ℕ} 0 1 = cc in
          omega arith
      finish final (some n) e = let z : ◌≡◌ {A = ℕ} 0 1 = cc in omega arith

      go : (o : Outcome) → outcome ≡ o → conclude rules (zeros clauses) o ≡ Err (refusal (Blocked x) place) → RunBlocked rules F (clauses_of clauses) steps place x
      go (ended final) e k = absurd (finish final (conclusion rules.strict (zeros clauses) final) k)
      go (refused r) e k =
          run_blocked rules (family_of steps) (scope_of prefix clauses) F (scope_decides prefix clauses) room x (clauses_of clauses) steps place inputs_no_zero
          (e ∙ ap refused (same r (refusal (Blocked x) place) k))

  -- What blocks is an entry of the prefix: its three words are the variable, 1 and the block.
  pub blocked_entry :
      (x : Blocker) (place : ℕ) → verdict_of rules prefix clauses steps scratch room ≡ Err (refusal (Blocked x) place)
      → BlockerEntry prefix x
  blocked_entry x place h =
      let r = blocked_depends x place h in
      named (verdict_passed (Err (refusal (Blocked x) place)) (blocked_late x place) h).0.admitted (numbered_clauses (clauses_of clauses) r.steps) r.blocked r.blocks
    where
      named : Admitted prefix clauses → (known : List Words) (s : Step) → BlockedStep F known s x → BlockerEntry prefix x
      named adm known (resolution f i j e L) b = absurd b
      named adm known (reduction f i a L) b =
          let k = length b.left in
          let own : get_or (with_blocks (prefix_of prefix)) k no_blocker ≡ x = ap (λ (bs : List Blocker). get_or bs k no_blocker) b.stands ∙ behind b.left b.right x in
          let l : k < entry_count prefix = omega (arith, blocks_length 0 0 (prefix_of prefix), ap {B = ℕ} (λ (bs : List Blocker). length bs) b.stands, length-append b.left (x ∷ b.right)) in
          let t = admitted_words prefix clauses adm in
          let v : (entry_at prefix k).variable ≡ x.variable.0 = sym (block_variable 0 0 (prefix_of prefix) k l) ∙ ap (λ (c : Blocker). c.variable.0) own in
          let same : entry_at prefix k ≡ entry (nat_abs b.literal) existential =
          distinct_images (λ (y : Entry). y.variable) (prefix_of prefix) (admitted_prefix_distinct prefix clauses adm) (entry_member prefix k l) b.existential (v ∙ sym b.named) in
          record {
            place = k;
            within = l;
            variable_word_lem = entry_variable prefix t k l ∙ ap pos v;
            quantifier_word_lem = entry_quantifier prefix t k l ∙ ap (λ (y : Entry). pos (quantifier_number y.quantifier)) same;
            block_word_lem = entry_block prefix t k l ∙ ap (λ (c : Blocker). pos c.block) own;
          }

  -- The input clauses of tables that pass are derived.
  pub inputs_derived : Admitted prefix clauses → (f : Family) → AllDerived F f (clauses_of clauses)
  inputs_derived a f C m = (
    leaf (clause_of C),
    record {
      valid = Memᴰ.map clause_of m;
      concluded = λ x k. Memᴰ.map literal_of k;
      conclusion = λ l k. Memᴰ.of_map literal_of C k;
      nonzero = inputs_no_zero C m;
      one_sign = λ q x k i. inputs_no_zero C m x k (opposite_zero x (sym (distinct_images nat_abs C (admitted_clause_distinct prefix clauses a C m) k i (sym (magnitude_negated x)))));
    },
  )

  -- Accepted: the game is lost.
  pub accepted_lost : (n m : ℕ) → verdict_of rules prefix clauses steps scratch room ≡ accept (record { 0 = n }) m → Lost F
  accepted_lost n m h =
      let r = accepted_refutation n m h in
      let derived = lawful_steps_derived F r.family (clauses_of clauses) r.steps r.of_family r.lawful (inputs_derived r.admitted r.family) in
      let empty = derived [] (first_empty_member (numbered_clauses (clauses_of clauses) r.steps) r.place r.first_empty_lem) in
      derived_lost F (admitted_proper prefix clauses r.admitted) r.family empty.0 empty.1
