-- The words of a step: how many they are; what is read is written so, and what is written is read back. Assumes nothing.
use Rattle.std.specs.Prelude.{ℕ, suc, ◌+◌, ◌*◌, ◌≤◌, ◌≡◌, ◌≢◌, Bool, ◌||◌, length, ℤ, pos}
use Rattle.std.proofs.Math.Path.{refl}
use Rattle.std.proofs.Common.{ap, sym, ◌∙◌, arith, length-append}
use Rattle.std.proofs.Math.Bool.{true, false}
use Rattle.std.proofs.lemmas.Bool.{false≢true}
use Rattle.std.proofs.Math.Option.{Option, none, some}
use mathlib.Core.List.{List, [], ◌∷◌, ◌++◌, append_assoc, Memᴰ}
use Rattle.std.proofs.Math.ListN.{drop}
use Rattle.formula.specs.Decode.{first_clause}
use Rattle.inference.specs.declared.read.Family.{Family}
use Rattle.inference.specs.declared.read.Family.TheVariants.{Ordinary, LongDistance}
use Rattle.inference.specs.Words.{Words, same_word, is_zero, closes}
use Rattle.formula.specs.Word.Laws.{zero_sound, apart_zero}
use Rattle.inference.specs.Words.Laws.{same_sound, literal_first, zero_ends}
use Rattle.inference.specs.Steps.{Step, resolution, reduction, family_in, size_of, stated_by, resolves, reduces, resolution_word, reduction_word, kind_by, family_of, if_closed, read_fields, read_step, less_one}
use Rattle.inference.specs.Lawful.{words_of, step_words}

-- ---- how many

-- The words of a step take as many places as its size says.
pub words_size : (s : Step) → length (words_of s) ≡ size_of s
words_size (resolution f i j e L) = rw (length-append L (pos 0 ∷ [])) (omega arith)
words_size (reduction f i a L) = rw (length-append L (pos 0 ∷ [])) (omega arith)

-- There is a first word.
pub size_positive : (s : Step) → size_of s ≡ suc (less_one (size_of s))
size_positive (resolution f i j e L) = rw (five (length L))
  where
    five : (n : ℕ) → 5 + n ≡ suc (4 + n)
    five n = omega arith
size_positive (reduction f i a L) = rw (four (length L))
  where
    four : (n : ℕ) → 4 + n ≡ suc (3 + n)
    four n = omega arith

-- A step has four words at least.
pub steps_size : (steps : List Step) → 4 * length steps ≤ length (step_words steps)
unfolding step_words
steps_size [] = omega arith
steps_size (s ∷ steps) = omega (arith, steps_size steps, length-append (words_of s) (step_words steps), words_size s, four s)
  where
    four : (s : Step) → 4 ≤ size_of s
    four (resolution f i j e L) = omega arith
    four (reduction f i a L) = omega arith

-- ---- read and written

-- A closed list of words begins with its first clause and a 0.
pub first_clause_split : (ws : Words) → closes ws ≡ true → ws ≡ first_clause ws ++ pos 0 ∷ drop (suc (length (first_clause ws))) ws
unfolding closes
first_clause_split [] h = absurd (false≢true h)
first_clause_split (w ∷ ws) h = go (is_zero w) refl (λ k. first_clause_split ws k)
  where
    go :
        (b : Bool) → is_zero w ≡ b
        → (closes ws ≡ true → ws ≡ first_clause ws ++ pos 0 ∷ drop (suc (length (first_clause ws))) ws)
        → w ∷ ws ≡ first_clause (w ∷ ws) ++ pos 0 ∷ drop (suc (length (first_clause (w ∷ ws)))) (w ∷ ws)
    go true e later = rw (zero_ends w ws e) (ap (λ (x : ℤ). x ∷ ws) (zero_sound w e))
    go false e later = rw (literal_first w ws e) (ap {B = Words} (λ r. w ∷ r) (later (rw e at h)))

pub first_clause_written : (L rest : Words) → ((x : ℤ) → Memᴰ x L → x ≢ pos 0) → (first_clause (L ++ pos 0 ∷ rest) ≡ L) × (closes (L ++ pos 0 ∷ rest) ≡ true)
unfolding first_clause closes is_zero
first_clause_written [] rest h = (refl, refl)
first_clause_written (x ∷ L) rest h =
    let e : is_zero x ≡ false = apart_zero x (h x (Memᴰ.head refl)) in
    let later = first_clause_written L rest (λ y m. h y (Memᴰ.tail m)) in
    (literal_first x (L ++ pos 0 ∷ rest) e ∙ ap {B = Words} (λ r. x ∷ r) later.0, or_true (is_zero x) later.1)
  where
    or_true : (b : Bool) → closes (L ++ pos 0 ∷ rest) ≡ true → (b || closes (L ++ pos 0 ∷ rest)) ≡ true
    or_true true k = refl
    or_true false k = k

closed_split : (ws : Words) → closes ws ≡ true → ws ≡ (first_clause ws ++ pos 0 ∷ []) ++ drop (suc (length (first_clause ws))) ws
closed_split ws c = first_clause_split ws c ∙ sym (append_assoc (first_clause ws) (pos 0 ∷ []) (drop (suc (length (first_clause ws))) ws))

no_step : {s : Step} {A : Type 0} → ◌≡◌ {A = Option Step} none (some s) → A
no_step e = let z : ◌≡◌ {A = ℕ} 0 1 = cc in absurd (omega arith)

some_step : (s t : Step) → ◌≡◌ {A = Option Step} (some s) (some t) → s ≡ t
some_step s t e = cc

closed_step : (b : Bool) (s t : Step) → if_closed b s ≡ some t → (b ≡ true) × (s ≡ t)
closed_step true s t e = (refl, some_step s t e)
closed_step false s t e = no_step e

-- What was read, by its first word.
fields_resolution :
    (f : Family) (ws : Words) (s : Step) → read_fields f resolves ws ≡ some s
    → (resolution_word f ∷ ws ≡ words_of s ++ drop (size_of s) (resolution_word f ∷ ws)) × (family_in s ≡ f)
fields_resolution f [] s h = no_step h
fields_resolution f (i ∷ []) s h = no_step h
fields_resolution f (i ∷ j ∷ []) s h = no_step h
fields_resolution f (i ∷ j ∷ e ∷ ws) s h =
    let c = closed_step (closes ws) (resolution f i j e (first_clause ws)) s h in
    let size : 5 + length (first_clause ws) ≡ suc (suc (suc (suc (suc (length (first_clause ws)))))) = omega arith in
    rw (← c.1, size)
    (ap {B = Words} (λ r. resolution_word f ∷ i ∷ j ∷ e ∷ r) (closed_split ws c.0), refl)

fields_reduction :
    (f : Family) (ws : Words) (s : Step) → read_fields f reduces ws ≡ some s
    → (reduction_word f ∷ ws ≡ words_of s ++ drop (size_of s) (reduction_word f ∷ ws)) × (family_in s ≡ f)
fields_reduction f [] s h = no_step h
fields_reduction f (i ∷ []) s h = no_step h
fields_reduction f (i ∷ a ∷ ws) s h =
    let c = closed_step (closes ws) (reduction f i a (first_clause ws)) s h in
    let size : 4 + length (first_clause ws) ≡ suc (suc (suc (suc (length (first_clause ws))))) = omega arith in
    rw (← c.1, size)
    (ap {B = Words} (λ r. reduction_word f ∷ i ∷ a ∷ r) (closed_split ws c.0), refl)

module _ (f : Family) where
  -- The words of what was read stand first, and it is of the family.
  pub read_written : (ws : Words) (s : Step) → read_step f ws ≡ some s → (ws ≡ words_of s ++ drop (size_of s) ws) × (family_in s ≡ f)
  unfolding read_step
  read_written [] s e = no_step e
  read_written (w ∷ ws) s e = go (same_word w (resolution_word f)) (same_word w (reduction_word f)) refl refl e
    where
      go :
          (a b : Bool) → same_word w (resolution_word f) ≡ a → same_word w (reduction_word f) ≡ b
          → read_fields f (kind_by a b) ws ≡ some s
          → (w ∷ ws ≡ words_of s ++ drop (size_of s) (w ∷ ws)) × (family_in s ≡ f)
      go true b p q h = rw (same_sound w (resolution_word f) p) (fields_resolution f ws s h)
      go false true p q h = rw (same_sound w (reduction_word f) q) (fields_reduction f ws s h)
      go false false p q h = no_step h

-- A step with no 0 in its statement is read back, as one of its family.
pub written_read : (s : Step) (rest : Words) → ((x : ℤ) → Memᴰ x (stated_by s) → x ≢ pos 0) → read_step (family_in s) (words_of s ++ rest) ≡ some s
unfolding read_step same_word
written_read (resolution Ordinary i j e L) rest h = let w = first_clause_written L rest h in rw (append_assoc L (pos 0 ∷ []) rest, w.0, w.1)
written_read (resolution LongDistance i j e L) rest h = let w = first_clause_written L rest h in rw (append_assoc L (pos 0 ∷ []) rest, w.0, w.1)
written_read (reduction Ordinary i a L) rest h = let w = first_clause_written L rest h in rw (append_assoc L (pos 0 ∷ []) rest, w.0, w.1)
written_read (reduction LongDistance i a L) rest h = let w = first_clause_written L rest h in rw (append_assoc L (pos 0 ∷ []) rest, w.0, w.1)

-- The first step tells the family of words.
pub family_written : (s : Step) (rest : Words) → family_of (words_of s ++ rest) ≡ family_in s
unfolding family_of same_word
family_written (resolution Ordinary i j e L) rest = refl
family_written (resolution LongDistance i j e L) rest = refl
family_written (reduction Ordinary i a L) rest = refl
family_written (reduction LongDistance i a L) rest = refl
