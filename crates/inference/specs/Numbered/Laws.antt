-- Numbered clauses as the code finds them are the numbered clauses: by their place, as antecedents, one more, and those of the
-- clause table. Assumes nothing.
use Rattle.std.specs.Prelude.{Option as Optional, Some, None}
use Prim.Native.Nat.{ℕ, zero, suc, ◌+◌, ◌-◌, ◌≤◌, ◌<◌}
use Rattle.std.specs.Prelude.{◌≡◌, Bool, true, false, ◌&&◌, List, [], ◌∷◌, ◌++◌, leb, ltb, set, drop, ℤ, pos, negsuc}
use Rattle.std.proofs.Math.Path.{refl, ap, sym}
use Rattle.std.proofs.Common.{ap₂, ◌∙◌, append_assoc, append-nil, add-one, not-suc-le-zero, le_of_suc-le-suc, leb-true, leb-false, le-leb, drop_of_length-le, get_or, get_or-set_other}
use Rattle.std.proofs.Math.Option.{Option, none, some}
use native.Mathlib.Omega.{arith}
use Rattle.std.proofs.Math.Decide.{dec_lt}
use Rattle.std.proofs.lemmas.Bool.{lt-leb}
use Rattle.std.proofs.Math.ListN.{length, get_elem?, length-append}
use Rattle.std.proofs.Math.Seq.{get_or-set_same}
use Rattle.qbf.specs.Connectives.{and_both}
use Rattle.formula.specs.Bounds.{in_range, number_fit}
use Rattle.formula.specs.declared.literal.ClauseNumber.{ClauseNumber}
use Rattle.inference.specs.Words.{Words, InRange, AllInRange, AllWords}
use Rattle.formula.specs.Decode.{clauses_of, clause_at}
use Rattle.formula.specs.Decode.Places.{clauses_place}
use Rattle.inference.specs.Steps.{antecedent}
use Rattle.inference.specs.Lawful.Laws.{found_member}
use Rattle.inference.specs.Read.{statement_of}
use Rattle.inference.specs.Empty.{is_empty, first_empty, empty_number, empty_after}
use Rattle.inference.specs.Empty.Laws.{empty_then, empty_turns, empty_ends}
use Rattle.inference.specs.Numbered.{number_of, table_of, place_of, stored_at, stored, OffsetsFilled}

-- A number is an input clause's, or one of a step.
pub ruleset input_or_step = (le-leb, lt-leb)

-- An element by its place.
get_append_left : {A : Type 0} (xs ys : List A) (k : ℕ) → k < length xs → get_elem? (xs ++ ys) k ≡ get_elem? xs k
get_append_left [] ys k h = absurd (not-suc-le-zero h)
get_append_left (x ∷ xs) ys zero h = refl
get_append_left (x ∷ xs) ys (suc k) h = get_append_left xs ys k (le_of_suc-le-suc h)

get_append_last : {A : Type 0} (xs : List A) (x : A) (k : ℕ) → k ≡ length xs → get_elem? (xs ++ (x ∷ [])) k ≡ some x
get_append_last [] x zero h = refl
get_append_last [] x (suc k) h = absurd (omega (arith, h))
get_append_last (y ∷ xs) x zero h = absurd (omega (arith, h))
get_append_last (y ∷ xs) x (suc k) h = get_append_last xs x k (omega (arith, h))

get_past : {A : Type 0} (xs : List A) (k : ℕ) → length xs ≤ k → get_elem? xs k ≡ none
get_past [] k h = refl
get_past (x ∷ xs) zero h = absurd (not-suc-le-zero h)
get_past (x ∷ xs) (suc k) h = get_past xs k (le_of_suc-le-suc h)

module _ (inputs : ℕ) (clauses steps : Words) (offsets : List ℕ) where
  pub stored_length : (n : ℕ) → length (stored inputs clauses steps offsets n) ≡ n
  unfolding stored
  stored_length zero = refl
  stored_length (suc n) =
      length-append (stored inputs clauses steps offsets n) (stored_at inputs clauses steps offsets n ∷ [])
      ∙ (let e = stored_length n in let q : length (stored inputs clauses steps offsets n) + 1 ≡ suc n = omega arith in q)

  pub stored_get : (n k : ℕ) → k < n → get_elem? (stored inputs clauses steps offsets n) k ≡ some (stored_at inputs clauses steps offsets k)
  unfolding stored
  stored_get zero k h = absurd (not-suc-le-zero h)
  stored_get (suc n) k h = go (dec_lt k n) (stored_get n k)
    where
      go :
          Dec (k < n) → (k < n → get_elem? (stored inputs clauses steps offsets n) k ≡ some (stored_at inputs clauses steps offsets k))
          → get_elem? (stored inputs clauses steps offsets n ++ (stored_at inputs clauses steps offsets n ∷ [])) k ≡ some (stored_at inputs clauses steps offsets k)
      go (yes l) later =
          get_append_left (stored inputs clauses steps offsets n) (stored_at inputs clauses steps offsets n ∷ []) k (rw (stored_length n) l) ∙ later l
      go (no m) later =
          let e : k ≡ n = last k n h m in
          get_append_last (stored inputs clauses steps offsets n) (stored_at inputs clauses steps offsets n) k (e ∙ sym (stored_length n))
          ∙ ap {B = Option Words} some (ap (stored_at inputs clauses steps offsets) (sym e))
        where
          last : (k n : ℕ) → k < suc n → (k < n → ⊥) → k ≡ n
          last k n l m = go' (dec_lt k n)
            where
              go' : Dec (k < n) → k ≡ n
              go' (yes i) = absurd (m i)
              go' (no i) = omega arith

-- A word that is a number.
pub number_within :
    (w : ℤ) (last : ℕ) (n : ClauseNumber) → Some n ≡ number_of w last
    → (k : ℕ) × (n.0 ≡ suc k) × (k < last) × (w ≡ pos (suc k))
number_within (negsuc m) last n e = let z : ◌≡◌ {A = ℕ} 0 1 = cc in absurd (omega arith)
number_within (pos m) last n e = go m (in_range m last) refl e
  where
    first : Optional ClauseNumber → ℕ
    first (Some k) = k.0
    first None = 0

    go : (m : ℕ) (b : Bool) → in_range m last ≡ b → Some n ≡ number_fit b m → (k : ℕ) × (n.0 ≡ suc k) × (k < last) × (pos m ≡ pos (suc k))
    go m false q h = let z : ◌≡◌ {A = ℕ} 0 1 = cc in absurd (omega arith)
    go zero true q h = let t = and_both (leb 1 0) (leb 0 last) q in absurd (omega (arith, leb-true 1 0 t.0))
    go (suc k) true q h = let t = and_both (leb 1 (suc k)) (leb (suc k) last) q in (k, ap first h, leb-true (suc k) last t.1, refl)

pub number_outside : (known : List Words) (w : ℤ) (last : ℕ) → length known ≡ last → None ≡ number_of w last → antecedent known w ≡ none
number_outside known (negsuc m) last l e = refl
number_outside known (pos zero) last l e = refl
number_outside known (pos (suc k)) last l e = go (leb (suc k) last) refl e
  where
    go : (b : Bool) → leb (suc k) last ≡ b → None ≡ number_fit (leb 1 (suc k) && b) (suc k) → get_elem? known k ≡ none
    go true q h = let s : leb 1 (suc k) ≡ true = le-leb 1 (suc k) (omega arith) in let z : ◌≡◌ {A = ℕ} 0 1 = absurd_within (rw s at h) in absurd (omega arith)
      where
        absurd_within : ◌≡◌ {A = Optional ClauseNumber} None (Some (record { 0 = suc k })) → ◌≡◌ {A = ℕ} 0 1
        absurd_within p = cc
    go false q h = get_past known k (let g = leb-false (suc k) last q in omega arith)

module _ (inputs : ℕ) (clauses steps : Words) (offsets : List ℕ) (last : ℕ) where
  -- The antecedent that a number names.
  pub number_antecedent :
      (w : ℤ) (n : ClauseNumber) → Some n ≡ number_of w last
      → antecedent (stored inputs clauses steps offsets last) w ≡ some (stored_at inputs clauses steps offsets (n.0 - 1))
  number_antecedent w n e =
      let t = number_within w last n e in
      let k : n.0 - 1 ≡ t.0 = let q = t.1 in omega arith in
      rw (t.3, k) (stored_get inputs clauses steps offsets last t.0 t.2)

  pub number_no_antecedent : (w : ℤ) → None ≡ number_of w last → antecedent (stored inputs clauses steps offsets last) w ≡ none
  number_no_antecedent w e = number_outside (stored inputs clauses steps offsets last) w last (stored_length inputs clauses steps offsets last) e

-- An offset stored past a numbered clause does not change it; that of a step past the input clauses makes its statement the clause.
module _ (inputs : ℕ) (clauses steps : Words) (offsets : List ℕ) where
  pub stored_at_later : (k i v : ℕ) → k < i → stored_at inputs clauses steps (set offsets i v) k ≡ stored_at inputs clauses steps offsets k
  unfolding stored_at
  stored_at_later k i v h =
      ap (λ (s : ℕ). clause_at (table_of (ltb k inputs) clauses steps) (place_of (ltb k inputs) steps s)) (get_or-set_other offsets i k v 0 (λ e. omega arith))

  pub stored_at_step : (n v : ℕ) → inputs ≤ n → n < length offsets → stored_at inputs clauses steps (set offsets n v) n ≡ clause_at steps (statement_of steps v)
  unfolding stored_at
  stored_at_step n v h k = rw (lt-leb (suc n) inputs (omega arith), get_or-set_same offsets n v 0 k)

-- A numbered clause by its number.
pub stored_by_number :
    (inputs : ℕ) (clauses steps : Words) (offsets : List ℕ) (n : ℕ) → 1 ≤ n
    → stored_at inputs clauses steps offsets (n - 1) ≡ clause_at (table_of (leb n inputs) clauses steps) (place_of (leb n inputs) steps (get_or offsets (n - 1) 0))
unfolding stored_at
stored_by_number inputs clauses steps offsets n h =
    let e : suc (n - 1) ≡ n = omega arith in
    ap (λ (k : ℕ). clause_at (table_of (leb k inputs) clauses steps) (place_of (leb k inputs) steps (get_or offsets (n - 1) 0))) e

pub stored_set_later :
    (inputs : ℕ) (clauses steps : Words) (offsets : List ℕ) (n i v : ℕ) → n ≤ i
    → stored inputs clauses steps (set offsets i v) n ≡ stored inputs clauses steps offsets n
unfolding stored
stored_set_later inputs clauses steps offsets zero i v h = refl
stored_set_later inputs clauses steps offsets (suc n) i v h =
    ap₂ (λ (xs : List Words) (C : Words). xs ++ (C ∷ []))
    (stored_set_later inputs clauses steps offsets n i v (omega arith))
    (stored_at_later inputs clauses steps offsets n i v h)

-- One more clause: a step's, past the input clauses.
pub stored_step :
    (inputs : ℕ) (clauses steps : Words) (offsets : List ℕ) (n v : ℕ) → inputs ≤ n → n < length offsets
    → stored inputs clauses steps (set offsets n v) (suc n) ≡ stored inputs clauses steps offsets n ++ (clause_at steps (statement_of steps v) ∷ [])
unfolding stored
stored_step inputs clauses steps offsets n v h k =
    ap₂ (λ (xs : List Words) (C : Words). xs ++ (C ∷ []))
    (stored_set_later inputs clauses steps offsets n n v (omega arith))
    (stored_at_step inputs clauses steps offsets n v h k)

-- One more input clause.
pub stored_input :
    (inputs : ℕ) (clauses steps : Words) (offsets : List ℕ) (n v : ℕ) → n < inputs → n < length offsets
    → stored inputs clauses steps (set offsets n v) (suc n) ≡ stored inputs clauses steps offsets n ++ (clause_at clauses v ∷ [])
unfolding stored stored_at
stored_input inputs clauses steps offsets n v h k =
    rw (le-leb (suc n) inputs h, get_or-set_same offsets n v 0 k)
    (ap (λ (xs : List Words). xs ++ (clause_at clauses v ∷ [])) (stored_set_later inputs clauses steps offsets n n v (omega arith)))

-- Filling the offsets of the input clauses: the first n are stored, the others stand from the place `from` on.
abbrev pub Filling : Words → List ℕ → ℕ → ℕ → Type 0
Filling clauses offsets n from = (steps : Words) → stored (length (clauses_of clauses)) clauses steps offsets n ++ clauses_of (drop from clauses) ≡ clauses_of clauses

pub filling_begins : (clauses : Words) (offsets : List ℕ) → Filling clauses offsets 0 0
unfolding stored
filling_begins clauses offsets steps = refl

filling_count : (clauses : Words) (offsets : List ℕ) (n from : ℕ) → Filling clauses offsets n from → n + length (clauses_of (drop from clauses)) ≡ length (clauses_of clauses)
filling_count clauses offsets n from h =
    ap (λ (k : ℕ). k + length (clauses_of (drop from clauses))) (sym (stored_length (length (clauses_of clauses)) clauses [] offsets n))
    ∙ sym (length-append (stored (length (clauses_of clauses)) clauses [] offsets n) (clauses_of (drop from clauses)))
    ∙ ap length (h [])

-- There is one more clause to store.
pub filling_more : (clauses : Words) (offsets : List ℕ) (n from : ℕ) → Filling clauses offsets n from → from < length clauses → n < length (clauses_of clauses)
filling_more clauses offsets n from h l =
    let c = filling_count clauses offsets n from h in
    let e = ap length (clauses_place clauses from l) in
    omega arith

-- And room for its offset.
pub filling_room :
    (clauses : Words) (offsets : List ℕ) (n from room : ℕ) → Filling clauses offsets n from → from < length clauses → length offsets ≡ room → length (clauses_of clauses) ≤ room
    → n < length offsets
filling_room clauses offsets n from room f h e r = omega (arith, filling_more clauses offsets n from f h)

pub filling_turns :
    (clauses : Words) (offsets : List ℕ) (n from : ℕ) → Filling clauses offsets n from → from < length clauses → n < length offsets
    → Filling clauses (set offsets n from) (n + 1) (from + length (clause_at clauses from) + 1)
filling_turns clauses offsets n from h l k steps =
    let more = filling_more clauses offsets n from h l in
    rw (add-one n, stored_input (length (clauses_of clauses)) clauses steps offsets n from more k)
    (append_assoc (stored (length (clauses_of clauses)) clauses steps offsets n) (clause_at clauses from ∷ []) (clauses_of (drop (from + length (clause_at clauses from) + 1) clauses))
    ∙ ap (λ (Cs : List Words). stored (length (clauses_of clauses)) clauses steps offsets n ++ Cs) (sym (clauses_place clauses from l))
    ∙ h steps)

-- The first empty clause so far, and those from the place on.
abbrev pub Finding : Words → ℕ → Optional ClauseNumber → ℕ → Type 0
Finding clauses n empty from = empty_then empty (first_empty (suc n) (clauses_of (drop from clauses))) ≡ empty_number (first_empty 1 (clauses_of clauses))

pub finding_turns :
    (clauses : Words) (n : ℕ) (empty : Optional ClauseNumber) (from : ℕ) (number : ClauseNumber) → number.0 ≡ n + 1 → Finding clauses n empty from → from < length clauses
    → Finding clauses (n + 1) (empty_after empty (is_empty (clause_at clauses from)) number) (from + length (clause_at clauses from) + 1)
finding_turns clauses n empty from number e h l =
    rw (← e)
    (empty_turns empty number (clause_at clauses from) (clauses_of (drop (from + length (clause_at clauses from) + 1) clauses))
    ∙ ap (λ (Cs : List Words). empty_then empty (first_empty number.0 Cs)) (sym (clauses_place clauses from l))
    ∙ rw (e, add-one n) h)

pub filling_ends :
    (clauses : Words) (offsets : List ℕ) (n : ℕ) (empty : Optional ClauseNumber) (from : ℕ) → Filling clauses offsets n from → Finding clauses n empty from → length clauses ≤ from
    → OffsetsFilled clauses empty offsets
unfolding clauses_of
filling_ends clauses offsets n empty from h f l =
    let nothing : drop from clauses ≡ [] = drop_of_length-le clauses l in
    let count : n ≡ length (clauses_of clauses) = let c = filling_count clauses offsets n from h in last (rw nothing at c) in
    record { input_clauses = λ steps. (rw count at (whole steps)); first_empty_lem = sym (empty_ends empty (suc n)) ∙ (rw nothing at f) }
  where
    last : n + 0 ≡ length (clauses_of clauses) → n ≡ length (clauses_of clauses)
    last e = omega arith

    whole : (steps : Words) → stored (length (clauses_of clauses)) clauses steps offsets n ≡ clauses_of clauses
    whole steps =
        let nothing : drop from clauses ≡ [] = drop_of_length-le clauses l in
        sym (append-nil (stored (length (clauses_of clauses)) clauses steps offsets n)) ∙ (rw nothing at (h steps))

-- A number that was found is in range.
pub number_range : (w : ℤ) (last : ℕ) (n : ClauseNumber) → Some n ≡ number_of w last → (1 ≤ n.0) × (n.0 ≤ last)
number_range w last n e = go (number_within w last n e)
  where
    go : (k : ℕ) × (n.0 ≡ suc k) × (k < last) × (w ≡ pos (suc k)) → (1 ≤ n.0) × (n.0 ≤ last)
    go t = let p = t.1 in let q = t.2 in (omega arith, omega arith)

-- A numbered clause is in range.
pub stored_in_range :
    (inputs : ℕ) (clauses steps : Words) (offsets : List ℕ) (last n : ℕ) → 1 ≤ n → n ≤ last
    → AllWords InRange (stored inputs clauses steps offsets last)
    → AllInRange (stored_at inputs clauses steps offsets (n - 1))
stored_in_range inputs clauses steps offsets last n h k all =
    all (stored_at inputs clauses steps offsets (n - 1))
    (found_member (stored inputs clauses steps offsets last) (n - 1) (stored_at inputs clauses steps offsets (n - 1)) (stored_get inputs clauses steps offsets last (n - 1) (omega arith)))
