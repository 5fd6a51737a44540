-- The parts of a step's check make up the judgement of inference/specs/Steps.antt, and each leaves the scratch ready. Assumes nothing.
use Rattle.std.specs.Prelude.{Option as Optional, Some, None, Result, Ok, Err, ⊤}
use Rattle.formula.specs.declared.literal.Variable.{Variable}
use Rattle.formula.specs.Decode.{clause_at}
use Rattle.formula.specs.Refusal.{passes}
use Rattle.formula.specs.Refusal.Laws.{passes_none, passes_some}
use Rattle.std.specs.Prelude.{ℕ, zero, suc, ◌+◌, ◌≤◌, ◌<◌, ◌≡◌, Bool, ◌&&◌, leb, length, replicate, ℤ, pos, negsuc, neg_ℤ, nat_abs}
use Rattle.std.proofs.Math.Path.{refl, ap, sym}
use Rattle.std.proofs.Common.{◌∙◌, arith, lt-ltb, le-ltb, le-leb, leb-true, length-append, length-drop, take-append-drop, zero-add, take_at, drop_at, drop-drop, take-take, length-take-le}
use Rattle.std.proofs.Math.Bool.{true, false}
use Rattle.std.proofs.Math.Option.{Option, none, some}
use mathlib.Core.List.{List, [], ◌∷◌, ◌++◌}
use borrow.Rule.Slice.PartMut.{same_len_mid, mid_len}
use Rattle.std.proofs.Math.ListN.{take, drop}
use Rattle.std.proofs.Math.Seq.{take-nil}
use Rattle.std.proofs.lemmas.List.{take-append-le, drop-append-le}
use Rattle.qbf.specs.Formula.{existential}
use Rattle.bits.specs.Flags.{flags}
use Rattle.dependency.specs.Scratch.{row_at, later, small_bound, row_in}
use Rattle.formula.specs.Prefix.{prefix_of, quantifies}
use Rattle.formula.specs.Bounds.{variable_bound, in_range, variable_fit}
use Rattle.formula.specs.Word.{word_of, variable_of}
use Rattle.formula.specs.Word.Laws.{variable_magnitude}
use Rattle.qbf.specs.Connectives.{and_both}
use Rattle.formula.specs.Tables.{Admitted}
use Rattle.formula.specs.declared.refusal.Reason.{Reason}
use Rattle.formula.specs.declared.refusal.Reason.TheVariants.{WrongPivot, BrokenStep, NoRoom}
use Rattle.inference.specs.Words.{Words, holds}
use Rattle.inference.specs.declared.read.Family.{Family}
use Rattle.inference.specs.Steps.{Scope, Step, resolution, stated_by, size_of, antecedent, resolvent, positive_existential, unresolvable, demand, judge_resolution, judge, judge_read, read_step}
use Rattle.inference.specs.Scope.{mergeable_in, scope_of}
use Rattle.inference.specs.Empty.{is_empty}
use Rattle.inference.specs.Numbered.{stored}
use Rattle.inference.specs.Numbered.Laws.{stored_length}
use Rattle.inference.specs.declared.read.StepRead.{StepRead}
use Rattle.inference.specs.Read.{fields_of, reading_of, step_of}
use Rattle.inference.specs.Read.Laws.{reading_broken, reading_step, fields_next, stated_step, step_whole}
use Rattle.checker.specs.declared.step.StepTaken.{StepTaken}
use Rattle.inference.specs.Marks.{marks_in}
use Rattle.inference.specs.Marks.Laws.{marks_cleared}
use Rattle.inference.specs.Existentials.{existentials_of}
use Rattle.inference.specs.Existentials.Laws.{existential_fit, variable_ranged}
use Rattle.inference.specs.Result.{result_reason, JudgedClean}
use Rattle.checker.specs.Step.{existentials_in, Clean, Ready, RowReady, literal_variable, KeptReady, kept_after, kept_if, resolving_reason, resolution_reason, Answers, JudgedReady, step_answer}

-- A part in the middle, cut from either end first.
pub drop_take : {A : Type 0} (n k : ℕ) (l : List A) → drop n (take (n + k) l) ≡ take k (drop n l)
drop_take zero k l = ap (λ (j : ℕ). take j l) (zero-add k)
drop_take (suc n) k [] = let e : suc n + k ≡ suc (n + k) = omega arith in rw e (sym (take-nil k))
drop_take (suc n) k (x ∷ l) = let e : suc n + k ≡ suc (n + k) = omega arith in rw e (drop_take n k l)

-- The marks, lent and given back: what is behind them stands as it was.
module _ (scratch bytes : List ℕ) (size : length bytes ≡ row_at) where
  pub front_judged : {reason : Option Reason} {r : Result ⊤ Reason} → length scratch ≡ small_bound → JudgedClean reason r (marks_in bytes) → Answers reason r scratch (bytes ++ drop row_at scratch)
  front_judged whole h =
      record {
        answer = h.answer;
        size = length-append bytes (drop row_at scratch) ∙ (let a = length-drop row_at scratch in let q : length bytes + length (drop row_at scratch) ≡ length scratch = omega arith in q);
        marks = ap marks_in (take_at bytes (drop row_at scratch) row_at size) ∙ h.wiped;
        kept = ap (take 256) (drop_at bytes (drop row_at scratch) row_at size);
      }

-- Where nothing was marked.
pub refused_clean : (scratch : List ℕ) {reason : Reason} → Clean scratch → Answers (some reason) (Err reason) scratch scratch
refused_clean scratch c = record { answer = refl; size = refl; marks = c.marks; kept = refl }

-- The row and the existentials, by the part between the marks and the flags behind.
module _ (scratch scratch' : List ℕ) (kept : take 256 (drop row_at scratch') ≡ take 256 (drop row_at scratch)) where
  row_part : take 128 (drop row_at scratch') ≡ take 128 (drop row_at scratch)
  row_part = sym (take-take 128 256 (drop row_at scratch') (omega arith)) ∙ ap (take 128) kept ∙ take-take 128 256 (drop row_at scratch) (omega arith)

  existentials_part : take 128 (drop later scratch') ≡ take 128 (drop later scratch)
  existentials_part = later_part scratch' ∙ ap (drop 128) kept ∙ sym (later_part scratch)
    where
      later_part : (l : List ℕ) → take 128 (drop later l) ≡ drop 128 (take 256 (drop row_at l))
      later_part l = ap (take 128) (sym (drop-drop 128 row_at l)) ∙ sym (drop_take 128 128 (drop row_at l))

module _ (prefix : List ℤ) (scratch : List ℕ) (ready : Ready prefix scratch) where
  pub ready_clean : Clean scratch
  ready_clean = record { size = ready.size; marks = ready.marks }

  -- An answer leaves the scratch ready.
  pub ready_again : {reason : Option Reason} {r : Result ⊤ Reason} {scratch' : List ℕ} → Answers reason r scratch scratch' → Ready prefix scratch'
  ready_again {scratch' = scratch'} h =
      record {
        size = h.size ∙ ready.size;
        marks = h.marks;
        existentials = ap flags (existentials_part scratch scratch' h.kept) ∙ ready.existentials;
      }

-- The variable of a word that is a literal, as the code finds it; a word in range is one.
pub literal_found : (w : ℤ) → variable_fit (in_range (variable_of (word_of w)) variable_bound) (variable_of (word_of w)) ≡ literal_variable w
literal_found w = go (in_range (nat_abs w) variable_bound) refl (variable_ranged w)
  where
    go : (b : Bool) → in_range (nat_abs w) variable_bound ≡ b → in_range (variable_of (word_of w)) variable_bound ≡ in_range (nat_abs w) variable_bound → variable_fit (in_range (variable_of (word_of w)) variable_bound) (variable_of (word_of w)) ≡ literal_variable w
    go true e r =
        let within = and_both (leb 1 (nat_abs w)) (leb (nat_abs w) variable_bound) e in
        ap (λ (n : ℕ). variable_fit (in_range n variable_bound) n) (variable_magnitude w (leb-true (nat_abs w) variable_bound within.1))
    go false e r = rw (r, e)

pub literal_within : (w : ℤ) → 1 ≤ nat_abs w → nat_abs w ≤ variable_bound → literal_variable w ≡ Some (record { 0 = nat_abs w })
literal_within w l u = rw (le-leb 1 (nat_abs w) l, le-leb (nat_abs w) variable_bound u)

-- The row that is kept: none at first, the one that was made last; its variable's own; and the same after an answer, which marks before the
-- row alone.
module _ (prefix clauses : List ℤ) (scratch : List ℕ) where
  pub none_kept : Ready prefix scratch → KeptReady prefix clauses None scratch
  none_kept r = record { row = λ v e. let z : ◌≡◌ {A = ℕ} 0 1 = cc in absurd (omega arith); ready = r }

  pub refused_ready : {kept later : Optional Variable} {reason : Reason} → KeptReady prefix clauses kept scratch → JudgedReady prefix clauses later (some reason) (Err reason) scratch
  refused_ready k = record { answer = refl; ready = none_kept k.ready }

  pub row_kept : {u : Variable} → RowReady prefix clauses u.0 scratch → KeptReady prefix clauses (Some u) scratch
  row_kept {u = u} r = record { row = λ v e. let same : u ≡ v = cc in rw (← same, r.row); ready = r.ready }

  pub kept_row : {kept : Optional Variable} {u : Variable} → KeptReady prefix clauses kept scratch → kept ≡ Some u → RowReady prefix clauses u.0 scratch
  kept_row {u = u} k e = record { row = k.row u e; ready = k.ready }

  pub kept_again : {kept : Optional Variable} {reason : Option Reason} {r : Result ⊤ Reason} {scratch' : List ℕ} → KeptReady prefix clauses kept scratch → Answers reason r scratch scratch' → KeptReady prefix clauses (kept_if r kept) scratch'
  unfolding row_in
  kept_again {kept = kept} {r = r} {scratch' = scratch'} k h = go r (ready_again prefix scratch k.ready h)
    where
      go : (r : Result ⊤ Reason) → Ready prefix scratch' → KeptReady prefix clauses (kept_if r kept) scratch'
      go (Ok tt) ready = record { row = λ v e. ap {B = List ℕ} (λ (bytes : List ℕ). 0 ∷ flags bytes) (row_part scratch scratch' h.kept) ∙ k.row v e; ready = ready }
      go (Err reason) ready = record { row = λ v e. let z : ◌≡◌ {A = ℕ} 0 1 = cc in absurd (omega arith); ready = ready }

-- The existentials filled in behind the row: the scratch is ready where the marks were 0, and the row stands as it was.
module _ (prefix : List ℤ) (scratch bytes : List ℕ) (size : length scratch ≡ small_bound) (part : length bytes ≡ length (take 128 (drop later scratch))) where
  abbrev filled : List ℕ
  filled = take later scratch ++ (bytes ++ drop 128 (drop later scratch))

  before_length : length (take later scratch) ≡ later
  before_length = length-take-le later scratch (omega arith)

  pub filled_ready : take row_at scratch ≡ replicate row_at 0 → flags bytes ≡ existentials_of prefix → Ready prefix filled
  filled_ready front e =
      record {
        size = same_len_mid later 128 scratch bytes part ∙ size;
        marks =
            ap marks_in (take-append-le row_at (take later scratch) (bytes ++ drop 128 (drop later scratch)) (omega (arith, before_length)) ∙ take-take row_at later scratch (omega arith) ∙ front)
            ∙ marks_cleared;
        existentials =
            ap (λ (l : List ℕ). flags (take 128 l)) (drop_at (take later scratch) (bytes ++ drop 128 (drop later scratch)) later before_length)
            ∙ ap flags (take_at bytes (drop 128 (drop later scratch)) 128 (part ∙ mid_len later 512 scratch (omega arith)))
            ∙ e;
      }

  row_before : (rest : List ℕ) → take 128 (drop row_at (take later scratch ++ rest)) ≡ take 128 (drop row_at (take later scratch))
  row_before rest =
      ap (take 128) (drop-append-le row_at (take later scratch) rest (omega (arith, before_length)))
      ∙ take-append-le 128 (drop row_at (take later scratch)) rest (omega (arith, before_length, length-drop row_at (take later scratch)))

  pub filled_row : row_in filled ≡ row_in scratch
  unfolding row_in
  filled_row =
      ap {B = List ℕ} (λ (l : List ℕ). 0 ∷ flags l)
      (row_before (bytes ++ drop 128 (drop later scratch))
      ∙ sym (row_before (drop later scratch))
      ∙ ap (λ (l : List ℕ). take 128 (drop row_at l)) (take-append-drop later scratch))

-- The judgement from its parts, on tables that pass.
module _ (prefix clauses : List ℤ) (a : Admitted prefix clauses) where
  abbrev may : ℕ → ℕ → Bool
  may = mergeable_in (prefix_of prefix)

  resolving : (f : Family) (e : ℤ) (C D L : Words) → resolving_reason f may (variable_fit (positive_existential (scope_of prefix clauses) e) (nat_abs e)) C D L ≡ judge_resolution f (scope_of prefix clauses) e L (some C) (some D)
  unfolding judge_resolution
  resolving f (pos v) C D L = go (quantifies existential (prefix_of prefix) v)
    where
      go : (b : Bool) → resolving_reason f may (variable_fit b v) C D L ≡ demand (b && holds (pos v) C && holds (neg_ℤ (pos v)) D) WrongPivot (result_reason (unresolvable f (may v) (pos v) C D) (resolvent (pos v) C D) L)
      go true = refl
      go false = refl
  resolving f (negsuc n) C D L = refl

  pub resolution_judged : (f : Family) (e : ℤ) (L : Words) (A B : Option Words) → resolution_reason f may (existentials_of prefix) e L A B ≡ judge_resolution f (scope_of prefix clauses) e L A B
  unfolding judge_resolution
  resolution_judged f e L none B = refl
  resolution_judged f e L (some C) none = refl
  resolution_judged f e L (some C) (some D) = ap (λ (v : Optional Variable). resolving_reason f may v C D L) (existential_fit prefix clauses a e) ∙ resolving f e C D L

  -- The answer to a resolution, with the existentials in the scratch.
  pub resolution_answers :
      (kept : Optional Variable) (scratch : List ℕ) → KeptReady prefix clauses kept scratch → (known : List Words) (r : Result ⊤ Reason) (scratch' : List ℕ) (f : Family) (i j e : ℤ) (L : Words)
      → Answers (resolution_reason f may (existentials_in scratch) e L (antecedent known i) (antecedent known j)) r scratch scratch'
      → JudgedReady prefix clauses kept (judge (scope_of prefix clauses) known (resolution f i j e L)) r scratch'
  resolution_answers kept scratch k known r scratch' f i j e L h =
      record {
        answer = (rw k.ready.existentials at h.answer) ∙ ap passes (resolution_judged f e L (antecedent known i) (antecedent known j));
        ready = kept_again prefix clauses scratch k h;
      }

-- The step's answer, by what was read and judged.
module _ (S : Scope) (room : ℕ) (known : List Words) (o : Option Step) (at : ℕ) (kept : Optional Variable) where
  pub step_broken : o ≡ none → Err BrokenStep ≡ step_answer at kept (judge_read S room known o)
  step_broken e = rw e

  pub step_no_room : (s : Step) → o ≡ some s → room ≤ length known → Err NoRoom ≡ step_answer at kept (judge_read S room known o)
  step_no_room s e h = rw (e, le-ltb (length known) room h)

  pub step_right : (s : Step) → o ≡ some s → length known < room → judge S known s ≡ none → Ok (record { next = at + size_of s; kept = kept_after (fields_of at s) kept; empty = is_empty (stated_by s) }) ≡ step_answer at kept (judge_read S room known o)
  step_right s e h j = rw (e, lt-ltb (length known) room h, j)

  pub step_wrong : (s : Step) (r : Reason) → o ≡ some s → length known < room → judge S known s ≡ some r → Err r ≡ step_answer at kept (judge_read S room known o)
  step_wrong s r e h j = rw (e, lt-ltb (length known) room h, j)

taken_parts : {n m : ℕ} {k l : Optional Variable} {a b : Bool} → n ≡ m → k ≡ l → a ≡ b → ◌≡◌ {A = Result StepTaken Reason} (Ok (record { next = n; kept = k; empty = a })) (Ok (record { next = m; kept = l; empty = b }))
taken_parts n k a = rw (n, k, a)

-- The same of the step at a place in the step words, by what the code read there.
module _ (prefix clauses steps : List ℤ) (offsets : List ℕ) (inputs numbered at : ℕ) (kept : Optional Variable) (family : Family) where
  abbrev known : List Words
  known = stored inputs clauses steps offsets numbered

  abbrev found : Option Step
  found = read_step family (drop at steps)

  abbrev answered : Result StepTaken Reason
  answered = step_answer at kept (judge_read (scope_of prefix clauses) (length offsets) known found)

  count : length known ≡ numbered
  count = stored_length inputs clauses steps offsets numbered

  pub told_broken : None ≡ reading_of at found → Err BrokenStep ≡ answered
  told_broken e = step_broken (scope_of prefix clauses) (length offsets) known found at kept (reading_broken at found e)

  module _ (r : StepRead) (e : Some r ≡ reading_of at found) where
    pub told_no_room : length offsets ≤ numbered → Err NoRoom ≡ answered
    told_no_room h = let t = reading_step at found r e in step_no_room (scope_of prefix clauses) (length offsets) known found at kept t.0 t.1 (omega (arith, count, h))

    module _ (within : at < length steps) (room : numbered < length offsets) {judged : Result ⊤ Reason} (h : judged ≡ passes (judge (scope_of prefix clauses) known (step_of r (clause_at steps r.statement)))) where
      pub told_wrong : {reason : Reason} → judged ≡ Err reason → Err reason ≡ answered
      told_wrong {reason = reason} was =
          let t = reading_step at found r e in
          let whole = step_whole family steps at within t.0 t.1 r t.2 in
          step_wrong (scope_of prefix clauses) (length offsets) known found at kept t.0 reason t.1 (omega (arith, count, room)) (passes_some _ _ (sym (rw whole at h) ∙ was))

      pub told_right : judged ≡ Ok tt → Ok (record { next = r.next; kept = kept_after r kept; empty = is_empty (clause_at steps r.statement) }) ≡ answered
      told_right was =
          let t = reading_step at found r e in
          let whole = step_whole family steps at within t.0 t.1 r t.2 in
          let L = clause_at steps r.statement in
          let next = ap (λ (s : StepRead). s.next) t.2 ∙ fields_next at t.0 in
          let same = ap (λ (s : StepRead). kept_after s kept) t.2 in
          let empty : is_empty L ≡ is_empty (stated_by t.0) = ap is_empty (sym (stated_step r L) ∙ ap stated_by whole) in
          taken_parts next same empty ∙ step_right (scope_of prefix clauses) (length offsets) known found at kept t.0 t.1 (omega (arith, count, room)) (passes_none _ (sym (rw whole at h) ∙ was))
