-- What the code reads of a step is what the step is. Assumes nothing.
use Rattle.std.specs.Prelude.{Option as Optional, Some, None}
use Rattle.std.specs.Prelude.{ℕ, suc, ◌+◌, ◌-◌, ◌<◌, ◌≤◌, ◌≢◌, Bool, ◌||◌, [], ◌∷◌, get_or, drop, ℤ, pos}
use Rattle.std.proofs.Math.Path.{◌≡◌, refl}
use Rattle.std.proofs.Common.{ap, sym, ◌∙◌, arith, not-suc-le-zero, le_of_suc-le-suc, length-drop, drop-cons, drop-drop, get_or-drop}
use Rattle.std.proofs.Math.Bool.{true, false}
use Rattle.std.proofs.lemmas.Bool.{false≢true}
use Rattle.std.proofs.Math.Option.{Option, none, some}
use Rattle.std.proofs.Math.ListN.{length, get_or-eq_default}
use Rattle.formula.specs.Decode.{first_clause, clause_at}
use Rattle.inference.specs.declared.read.Family.{Family}
use Rattle.inference.specs.declared.read.Family.TheVariants.{Ordinary, LongDistance}
use Rattle.inference.specs.declared.read.StepKind.{StepKind}
use Rattle.inference.specs.declared.read.StepKind.TheVariants.{Resolution, Reduction}
use Rattle.inference.specs.declared.read.StepRead.{StepRead}
use Rattle.inference.specs.Words.{Words, same_word, is_zero, closes}
use Rattle.inference.specs.Words.Laws.{same_sound, zero_ends, literal_first}
use Rattle.inference.specs.Steps.{Step, resolution, reduction, stated_by, size_of, Kind, resolves, reduces, other, kind_of, family_by, family_of, if_closed, read_fields, read_step}
use Rattle.inference.specs.Read.{kind_read, kind_is, statement_by, or_kind, any_kind, statement_from, statement_of, close_if, closed_at, fields_of, reading_of, step_by, step_of}

kind_read_resolves : (k : Kind) → (Some Resolution) ≡ kind_read k → k ≡ resolves
kind_read_resolves resolves e = refl
kind_read_resolves reduces e = let z : ◌≡◌ {A = ℕ} 0 1 = cc in absurd (omega arith)
kind_read_resolves other e = let z : ◌≡◌ {A = ℕ} 0 1 = cc in absurd (omega arith)

kind_read_reduces : (k : Kind) → (Some Reduction) ≡ kind_read k → k ≡ reduces
kind_read_reduces resolves e = let z : ◌≡◌ {A = ℕ} 0 1 = cc in absurd (omega arith)
kind_read_reduces reduces e = refl
kind_read_reduces other e = let z : ◌≡◌ {A = ℕ} 0 1 = cc in absurd (omega arith)

kind_read_other : (k : Kind) → None ≡ kind_read k → k ≡ other
kind_read_other resolves e = let z : ◌≡◌ {A = ℕ} 0 1 = cc in absurd (omega arith)
kind_read_other reduces e = let z : ◌≡◌ {A = ℕ} 0 1 = cc in absurd (omega arith)
kind_read_other other e = refl

-- A 0 closes the first clause exactly when it ends before the words do.
closes_within : (ws : Words) → length (first_clause ws) < length ws → closes ws ≡ true
unfolding closes
closes_within [] h = absurd (not-suc-le-zero h)
closes_within (w ∷ ws) h = go (is_zero w) refl (closes_within ws)
  where
    go : (b : Bool) → is_zero w ≡ b → (length (first_clause ws) < length ws → closes ws ≡ true) → (b || closes ws) ≡ true
    go true e later = refl
    go false e later = later (le_of_suc-le-suc (rw (literal_first w ws e) at h))

closes_past : (ws : Words) → length ws ≤ length (first_clause ws) → closes ws ≡ false
unfolding closes
closes_past [] h = refl
closes_past (w ∷ ws) h = go (is_zero w) refl (closes_past ws)
  where
    go : (b : Bool) → is_zero w ≡ b → (length ws ≤ length (first_clause ws) → closes ws ≡ false) → (b || closes ws) ≡ false
    go true e later = absurd (not-suc-le-zero (rw (zero_ends w ws e) at h))
    go false e later = later (le_of_suc-le-suc (rw (literal_first w ws e) at h))

module _ (words : Words) (from end : ℕ) (ends : end ≡ from + length (clause_at words from)) where
  pub close_found : end < length words → Some (end + 1) ≡ closed_at from (drop from words)
  unfolding closed_at
  close_found h =
      let k : length (clause_at words from) < length (drop from words) = rw (length-drop from words) (omega arith) in
      rw (closes_within (drop from words) k) (ap (λ (n : ℕ). Some (n + 1)) ends)

  pub close_missing : length words ≤ end → None ≡ closed_at from (drop from words)
  unfolding closed_at
  close_missing h =
      let k : length (drop from words) ≤ length (clause_at words from) = rw (length-drop from words) (omega arith) in
      rw (closes_past (drop from words) k)

-- What the closing said.
close_at : (from : ℕ) (ws : Words) (n : ℕ) → Some n ≡ closed_at from ws → (closes ws ≡ true) × (n ≡ from + length (first_clause ws) + 1)
unfolding closed_at
close_at from ws n e = go (closes ws) e
  where
    go : (b : Bool) → Some n ≡ close_if b (from + length (first_clause ws) + 1) → (b ≡ true) × (n ≡ from + length (first_clause ws) + 1)
    go true q = (refl, cc)
    go false q = let z : ◌≡◌ {A = ℕ} 0 1 = cc in absurd (omega arith)

close_none : (from : ℕ) (ws : Words) → None ≡ closed_at from ws → closes ws ≡ false
unfolding closed_at
close_none from ws e = go (closes ws) e
  where
    go : (b : Bool) → None ≡ close_if b (from + length (first_clause ws) + 1) → b ≡ false
    go true q = let z : ◌≡◌ {A = ℕ} 0 1 = cc in absurd (omega arith)
    go false q = refl

-- A closed clause begins within the words.
pub close_within : (words : Words) (from n : ℕ) → Some n ≡ closed_at from (drop from words) → from < length words
unfolding closes
close_within words from n e = go (drop from words) (length-drop from words) (close_at from (drop from words) n e).0
  where
    go : (ws : Words) → length ws ≡ length words - from → closes ws ≡ true → from < length words
    go [] l c = absurd (false≢true c)
    go (w ∷ ws) l c = omega (arith, l)

-- So the words of a step go on to its statement.
pub fields_within :
    (words : Words) (at from n : ℕ) (k : StepKind) → from ≡ statement_by at k → Some n ≡ closed_at from (drop from words)
    → (at + 3 ≤ from) × (from < length words)
fields_within words at from n k f e = (rw f (go k), close_within words from n e)
  where
    go : (k : StepKind) → at + 3 ≤ statement_by at k
    go Resolution = omega arith
    go Reduction = omega arith

-- Fields by their places.
resolves_fields : (f : Family) (d : ℤ) (ws : Words) → read_fields f resolves ws ≡ if_closed (closes (drop 3 ws)) (resolution f (get_or ws 0 d) (get_or ws 1 d) (get_or ws 2 d) (first_clause (drop 3 ws)))
unfolding closes
resolves_fields f d [] = refl
resolves_fields f d (i ∷ []) = refl
resolves_fields f d (i ∷ j ∷ []) = refl
resolves_fields f d (i ∷ j ∷ e ∷ ws) = refl

reduces_fields : (f : Family) (d : ℤ) (ws : Words) → read_fields f reduces ws ≡ if_closed (closes (drop 2 ws)) (reduction f (get_or ws 0 d) (get_or ws 1 d) (first_clause (drop 2 ws)))
unfolding closes
reduces_fields f d [] = refl
reduces_fields f d (i ∷ []) = refl
reduces_fields f d (i ∷ a ∷ ws) = refl

-- The step of a kind by places in the table.
abbrev resolution_at : Family → Words → ℕ → Step
resolution_at f steps at = resolution f (get_or steps (at + 1) (pos 0)) (get_or steps (at + 2) (pos 0)) (get_or steps (at + 3) (pos 0)) (clause_at steps (at + 4))

abbrev reduction_at : Family → Words → ℕ → Step
reduction_at f steps at = reduction f (get_or steps (at + 1) (pos 0)) (get_or steps (at + 2) (pos 0)) (clause_at steps (at + 3))

abbrev read_at : Family → Words → ℕ → Kind → Option Step
read_at f steps at resolves = if_closed (closes (drop (at + 4) steps)) (resolution_at f steps at)
read_at f steps at reduces = if_closed (closes (drop (at + 3) steps)) (reduction_at f steps at)
read_at f steps at other = none

-- A kind in a family is the kind in whichever.
any_kind_lem : (f : Family) (w : ℤ) (k : Kind) → k ≢ other → kind_of f w ≡ k → any_kind w ≡ k
unfolding same_word
any_kind_lem Ordinary w k n e = rw e (go k n)
  where
    go : (k : Kind) → k ≢ other → or_kind k (kind_of LongDistance w) ≡ k
    go resolves n = refl
    go reduces n = refl
    go other n = absurd (n refl)
any_kind_lem LongDistance w k n e = go (same_word w (pos 3)) (same_word w (pos 4)) refl refl
  where
    go : (a b : Bool) → same_word w (pos 3) ≡ a → same_word w (pos 4) ≡ b → any_kind w ≡ k
    go true b p q = let s = same_sound w (pos 3) p in rw s (rw s at e)
    go false true p q = let s = same_sound w (pos 4) q in rw s (rw s at e)
    go false false p q = absurd (n (sym (rw (p, q) at e)))

-- Where the statement begins, by the kinds that were read.
module _ (steps : Words) (at : ℕ) where
  abbrev pub Was : Family → Optional StepKind → Type 0
  Was f k = k ≡ kind_is f (get_or steps at (pos 0))

  pub statement_kind : (k : StepKind) → Some k ≡ kind_read (any_kind (get_or steps at (pos 0))) → statement_by at k ≡ statement_of steps at
  unfolding statement_of
  statement_kind k h = go (any_kind (get_or steps at (pos 0))) k h
    where
      go : (K : Kind) (k : StepKind) → Some k ≡ kind_read K → statement_by at k ≡ statement_from at K
      go resolves k h = let e : Resolution ≡ k = cc in rw (← e)
      go reduces k h = let e : Reduction ≡ k = cc in rw (← e)
      go other k h = let z : ◌≡◌ {A = ℕ} 0 1 = cc in absurd (omega arith)

  pub statement_resolves : (f : Family) → Was f (Some Resolution) → statement_of steps at ≡ at + 4
  unfolding statement_of
  statement_resolves f k = rw (any_kind_lem f (get_or steps at (pos 0)) resolves (λ e. let z : ◌≡◌ {A = ℕ} 0 1 = cc in omega arith) (kind_read_resolves (kind_of f (get_or steps at (pos 0))) k))

  pub statement_reduces : (f : Family) → Was f (Some Reduction) → statement_of steps at ≡ at + 3
  unfolding statement_of
  statement_reduces f k = rw (any_kind_lem f (get_or steps at (pos 0)) reduces (λ e. let z : ◌≡◌ {A = ℕ} 0 1 = cc in omega arith) (kind_read_reduces (kind_of f (get_or steps at (pos 0))) k))

  pub statement_other : Was Ordinary None → Was LongDistance None → statement_of steps at ≡ at
  unfolding statement_of
  statement_other k l = rw (kind_read_other (kind_of Ordinary (get_or steps at (pos 0))) k, kind_read_other (kind_of LongDistance (get_or steps at (pos 0))) l)

  pub statement_none : None ≡ kind_read (any_kind (get_or steps at (pos 0))) → statement_of steps at ≡ at
  unfolding statement_of
  statement_none h = rw (kind_read_other (any_kind (get_or steps at (pos 0))) h)

  pub statement_past : length steps ≤ at → statement_of steps at ≡ at
  unfolding statement_of same_word
  statement_past h = rw (get_or-eq_default steps (pos 0) h)

-- A reduction has no second antecedent.
abbrev pub second_by : StepKind → ℤ → ℤ
second_by Resolution j = j
second_by Reduction j = pos 0

module _ (f : Family) (steps : Words) (at : ℕ) (within : at < length steps) where
  field : (n : ℕ) → get_or (drop (suc at) steps) n (pos 0) ≡ get_or steps (at + suc n) (pos 0)
  field n = get_or-drop (suc at) steps n (pos 0) ∙ ap (λ (k : ℕ). get_or steps k (pos 0)) (let q : suc at + n ≡ at + suc n = omega arith in q)

  later : (n : ℕ) → drop n (drop (suc at) steps) ≡ drop (at + suc n) steps
  later n = drop-drop n (suc at) steps ∙ ap (λ (k : ℕ). drop k steps) (let q : suc at + n ≡ at + suc n = omega arith in q)

  read_at_lem : read_step f (drop at steps) ≡ read_at f steps at (kind_of f (get_or steps at (pos 0)))
  unfolding read_step
  read_at_lem = rw (drop-cons steps at (pos 0) within) (go (kind_of f (get_or steps at (pos 0))))
    where
      go : (k : Kind) → read_fields f k (drop (suc at) steps) ≡ read_at f steps at k
      go resolves = resolves_fields f (pos 0) (drop (suc at) steps) ∙ rw (field 0, field 1, field 2, later 3)
      go reduces = reduces_fields f (pos 0) (drop (suc at) steps) ∙ rw (field 0, field 1, later 2)
      go other = refl

  read_kind : (k : Kind) → kind_of f (get_or steps at (pos 0)) ≡ k → read_step f (drop at steps) ≡ read_at f steps at k
  read_kind k e = read_at_lem ∙ ap (read_at f steps at) e

  -- The fields, by the kind and the closing.
  pub resolution_read :
      (next : ℕ) → Was steps at f (Some Resolution) → Some next ≡ closed_at (at + 4) (drop (at + 4) steps)
      → Some (record { kind = Resolution; family = f; first = get_or steps (at + 1) (pos 0); second = get_or steps (at + 2) (pos 0); pivot = get_or steps (at + 3) (pos 0); statement = at + 4; next = next }) ≡ reading_of at (read_step f (drop at steps))
  resolution_read next k e =
      let c = close_at (at + 4) (drop (at + 4) steps) next e in
      let n : next ≡ at + (5 + length (clause_at steps (at + 4))) = let q = c.1 in omega arith in
      rw (read_kind resolves (kind_read_resolves (kind_of f (get_or steps at (pos 0))) k), c.0, n)

  pub reduction_read :
      (next : ℕ) → Was steps at f (Some Reduction) → Some next ≡ closed_at (at + 3) (drop (at + 3) steps)
      → Some (record { kind = Reduction; family = f; first = get_or steps (at + 1) (pos 0); second = pos 0; pivot = get_or steps (at + 2) (pos 0); statement = at + 3; next = next }) ≡ reading_of at (read_step f (drop at steps))
  reduction_read next k e =
      let c = close_at (at + 3) (drop (at + 3) steps) next e in
      let n : next ≡ at + (4 + length (clause_at steps (at + 3))) = let q = c.1 in omega arith in
      rw (read_kind reduces (kind_read_reduces (kind_of f (get_or steps at (pos 0))) k), c.0, n)

  pub resolution_broken : Was steps at f (Some Resolution) → None ≡ closed_at (at + 4) (drop (at + 4) steps) → None ≡ reading_of at (read_step f (drop at steps))
  resolution_broken k e = rw (read_kind resolves (kind_read_resolves (kind_of f (get_or steps at (pos 0))) k), close_none (at + 4) (drop (at + 4) steps) e)

  pub reduction_broken : Was steps at f (Some Reduction) → None ≡ closed_at (at + 3) (drop (at + 3) steps) → None ≡ reading_of at (read_step f (drop at steps))
  reduction_broken k e = rw (read_kind reduces (kind_read_reduces (kind_of f (get_or steps at (pos 0))) k), close_none (at + 3) (drop (at + 3) steps) e)

  pub fields_read :
      (kind : StepKind) (next : ℕ) → Was steps at f (Some kind) → Some next ≡ closed_at (statement_by at kind) (drop (statement_by at kind) steps)
      → Some (record { kind = kind; family = f; first = get_or steps (at + 1) (pos 0); second = second_by kind (get_or steps (at + 2) (pos 0)); pivot = get_or steps (statement_by at kind - 1) (pos 0); statement = statement_by at kind; next = next }) ≡ reading_of at (read_step f (drop at steps))
  fields_read Resolution next k e = let p : at + 4 - 1 ≡ at + 3 = omega arith in rw p (resolution_read next k e)
  fields_read Reduction next k e = let p : at + 3 - 1 ≡ at + 2 = omega arith in rw p (reduction_read next k e)

  pub fields_broken : (kind : StepKind) → Was steps at f (Some kind) → None ≡ closed_at (statement_by at kind) (drop (statement_by at kind) steps) → None ≡ reading_of at (read_step f (drop at steps))
  fields_broken Resolution k e = resolution_broken k e
  fields_broken Reduction k e = reduction_broken k e

  pub kind_broken : Was steps at f None → None ≡ reading_of at (read_step f (drop at steps))
  kind_broken k = rw (read_kind other (kind_read_other (kind_of f (get_or steps at (pos 0))) k))

  -- Where a step that was read states its result.
  pub statement_read :
      (s : Step) → read_step f (drop at steps) ≡ some s
      → ((fields_of at s).statement ≡ statement_of steps at) × (clause_at steps (statement_of steps at) ≡ stated_by s)
  unfolding statement_of
  statement_read s h = go (kind_of f (get_or steps at (pos 0))) refl (sym read_at_lem ∙ h)
    where
      closed : (b : Bool) (t u : Step) → if_closed b t ≡ some u → t ≡ u
      closed true t u e = cc
      closed false t u e = let z : ◌≡◌ {A = ℕ} 0 1 = cc in absurd (omega arith)

      go :
          (k : Kind) → kind_of f (get_or steps at (pos 0)) ≡ k → read_at f steps at k ≡ some s
          → ((fields_of at s).statement ≡ statement_from at (any_kind (get_or steps at (pos 0)))) × (clause_at steps (statement_from at (any_kind (get_or steps at (pos 0)))) ≡ stated_by s)
      go resolves q e = rw (any_kind_lem f (get_or steps at (pos 0)) resolves (λ z. let y : ◌≡◌ {A = ℕ} 0 1 = cc in omega arith) q, ← closed (closes (drop (at + 4) steps)) (resolution_at f steps at) s e) (refl, refl)
      go reduces q e = rw (any_kind_lem f (get_or steps at (pos 0)) reduces (λ z. let y : ◌≡◌ {A = ℕ} 0 1 = cc in omega arith) q, ← closed (closes (drop (at + 3) steps)) (reduction_at f steps at) s e) (refl, refl)
      go other q e = let z : ◌≡◌ {A = ℕ} 0 1 = cc in absurd (omega arith)

-- What was read says the step.
pub reading_broken : (at : ℕ) (o : Option Step) → None ≡ reading_of at o → o ≡ none
reading_broken at none h = refl
reading_broken at (some s) h = let z : ◌≡◌ {A = ℕ} 0 1 = cc in absurd (omega arith)

pub reading_step : (at : ℕ) (o : Option Step) (r : StepRead) → Some r ≡ reading_of at o → (s : Step) × (o ≡ some s) × (r ≡ fields_of at s)
reading_step at none r h = let z : ◌≡◌ {A = ℕ} 0 1 = cc in absurd (omega arith)
reading_step at (some s) r h = (s, refl, same r (fields_of at s) h)
  where
    same : (r q : StepRead) → Some r ≡ Some q → r ≡ q
    same r q e = cc

fields_step : (at : ℕ) (s : Step) → step_of (fields_of at s) (stated_by s) ≡ s
fields_step at (resolution f i j e L) = refl
fields_step at (reduction f i a L) = refl

-- The step that fields and a statement make up states it.
pub stated_step : (r : StepRead) (L : Words) → stated_by (step_of r L) ≡ L
stated_step r L = go r.kind
  where
    go : (k : StepKind) → stated_by (step_by k r L) ≡ L
    go Resolution = refl
    go Reduction = refl

-- The fields with the statement at their place make up the step that was read.
pub step_whole :
    (f : Family) (steps : Words) (at : ℕ) → at < length steps → (s : Step) → read_step f (drop at steps) ≡ some s → (r : StepRead) → r ≡ fields_of at s
    → step_of r (clause_at steps r.statement) ≡ s
step_whole f steps at within s h r e =
    let p = statement_read f steps at within s h in
    rw e (ap (step_of (fields_of at s)) (ap (clause_at steps) p.0 ∙ p.1) ∙ fields_step at s)

pub fields_next : (at : ℕ) (s : Step) → (fields_of at s).next ≡ at + size_of s
fields_next at (resolution f i j e L) = refl
fields_next at (reduction f i a L) = refl

-- The family by the first word.
family_first : (steps : Words) → 0 < length steps → family_of steps ≡ family_by (kind_of LongDistance (get_or steps 0 (pos 0)))
unfolding family_of
family_first [] h = absurd (not-suc-le-zero h)
family_first (w ∷ ws) h = refl

module _ (steps : Words) (within : 0 < length steps) where
  pub family_long : (k : StepKind) → Some k ≡ kind_is LongDistance (get_or steps 0 (pos 0)) → LongDistance ≡ family_of steps
  family_long k h = go (kind_of LongDistance (get_or steps 0 (pos 0))) h ∙ sym (family_first steps within)
    where
      go : (K : Kind) → Some k ≡ kind_read K → LongDistance ≡ family_by K
      go resolves e = refl
      go reduces e = refl
      go other e = let z : ◌≡◌ {A = ℕ} 0 1 = cc in absurd (omega arith)

  pub family_ordinary : None ≡ kind_is LongDistance (get_or steps 0 (pos 0)) → Ordinary ≡ family_of steps
  family_ordinary h = rw (kind_read_other (kind_of LongDistance (get_or steps 0 (pos 0))) h) at (sym (family_first steps within))

abbrev pub family_told : Optional StepKind → Family
family_told (Some k) = LongDistance
family_told None = Ordinary

pub family_read : (steps : Words) → 0 < length steps → (o : Optional StepKind) → o ≡ kind_is LongDistance (get_or steps 0 (pos 0)) → family_told o ≡ family_of steps
family_read steps h (Some k) e = family_long steps h k e
family_read steps h None e = family_ordinary steps h e

pub family_read_by : (steps : Words) → 0 < length steps → (k : Kind) → kind_read k ≡ kind_is LongDistance (get_or steps 0 (pos 0)) → family_by k ≡ family_of steps
family_read_by steps h resolves e = family_long steps h Resolution e
family_read_by steps h reduces e = family_long steps h Reduction e
family_read_by steps h other e = family_ordinary steps h e

pub family_none : (steps : Words) → length steps ≤ 0 → Ordinary ≡ family_of steps
unfolding family_of
family_none [] h = refl
family_none (w ∷ ws) h = absurd (not-suc-le-zero h)
