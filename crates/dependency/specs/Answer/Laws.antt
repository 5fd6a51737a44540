-- What an answer says of the refusals behind it, and what holds where a row is refused by none of them; which number asks for
-- a universal; how the row comes into its buffer. Definitions: Answer. Assumes nothing.
use Prim.Native.Nat.{ℕ, zero, suc, ◌-◌, ◌≤◌, ◌<◌}
use Rattle.std.specs.Prelude.{◌≡◌, Bool, true, false, ◌&&◌, List, ◌++◌, length, get_or, set, drop, replicate, leb, ℤ, pos, negsuc, nat_abs, Ok, Err}
use Rattle.std.proofs.Math.Path.{refl}
use Rattle.std.proofs.Common.{ap, sym, ◌∙◌, arith, leb-true, le-leb, length-append, length-drop, drop-cons}
use Rattle.std.proofs.lemmas.Bool.{false≢true}
use Rattle.std.proofs.Math.Option.{Option, none, some}
use Rattle.std.proofs.lemmas.List.{set_at}
use Rattle.std.proofs.Math.Seq.{append_snoc}
use Rattle.qbf.specs.Connectives.{and_both}
use Rattle.qbf.specs.Formula.{Formula, Prefix, universal, entry}
use Rattle.formula.specs.Bounds.{variable_bound}
use Rattle.formula.specs.Clear.Laws.{clear_append}
use Rattle.formula.specs.Clear.{clear_from}
use Rattle.formula.specs.Refusal.{refusal, require}
use Rattle.formula.specs.Prefix.{prefix_of, quantifies, Entries}
use Rattle.formula.specs.Prefix.Laws.{quantifies_sound}
use Rattle.formula.specs.Tables.{tables_refusal, first_refusal, Admitted}
use Rattle.formula.specs.Word.{word_of}
use Rattle.formula.specs.declared.literal.Variable.{Variable}
use Rattle.formula.specs.declared.word.Word.TheVariants.{Positive}
use Rattle.formula.specs.declared.refusal.Refusal.{Refusal}
use Rattle.formula.specs.declared.refusal.Reason.TheVariants.{NoRoom, NotUniversal}
use Rattle.dependency.specs.Row.{row_below, row_of}
use Rattle.dependency.specs.Row.Laws.{row_length}
use Rattle.dependency.specs.Scratch.Laws.{row_depends}
use Rattle.dependency.specs.Answer.{universal_asked, asked_for, row_refusal, asked_byte, asked_bytes}

-- No refusal: admitted tables, a universal, room.
pub record Granted (bytes : ℕ) (p c : List ℤ) (v : ℤ) (row scratch : ℕ) : Type 0 where
  pub admitted : Admitted p c
  pub asked : universal_asked (prefix_of p) v ≡ true
  pub row_room : 1025 ≤ row
  pub scratch_room : bytes ≤ scratch

some_not_none : {x : Refusal} {A : Type 0} → ◌≡◌ {A = Option Refusal} (some x) none → A
some_not_none e = let z : ◌≡◌ {A = ℕ} 0 1 = cc in absurd (omega arith)

pub granted : (bytes : ℕ) (p c : List ℤ) (v : ℤ) (row scratch : ℕ) → row_refusal bytes p c v row scratch ≡ none → Granted bytes p c v row scratch
unfolding row_refusal
granted bytes p c v row scratch h = go (tables_refusal p c) (universal_asked (prefix_of p) v) (leb 1025 row && leb bytes scratch) refl refl refl h
  where
    go :
        (t : Option Refusal) (a b : Bool) → tables_refusal p c ≡ t → universal_asked (prefix_of p) v ≡ a → (leb 1025 row && leb bytes scratch) ≡ b
        → first_refusal t (require a (some (refusal NotUniversal 0)) (require b (some (refusal NoRoom 0)) none)) ≡ none
        → Granted bytes p c v row scratch
    go (some x) a b e f g k = some_not_none k
    go none false b e f g k = some_not_none k
    go none true false e f g k = some_not_none k
    go none true true e f g k =
        let room = and_both (leb 1025 row) (leb bytes scratch) g in
        record { admitted = record { passes = e }; asked = f; row_room = leb-true 1025 row room.0; scratch_room = leb-true bytes scratch room.1 }

-- What an answer with a variable tells of the refusal.
pub asked_none : (o : Option Refusal) (w : ℤ) (v : Variable) → asked_for o w ≡ Ok v → (o ≡ none) × (v ≡ record { 0 = nat_abs w })
asked_none none w v e = (refl, cc)
asked_none (some r) w v e = let z : ◌≡◌ {A = ℕ} 0 1 = cc in absurd (omega arith)

pub asked_some : (o : Option Refusal) (w : ℤ) (r : Refusal) → asked_for o w ≡ Err r → o ≡ some r
asked_some none w r e = let z : ◌≡◌ {A = ℕ} 0 1 = cc in absurd (omega arith)
asked_some (some s) w r e = cc

-- Where a universal is asked for, the number is recognised as a variable.
module _ (p : List ℤ) (entries : Entries p) where
  pub asked_word : (w : ℤ) → universal_asked (prefix_of p) w ≡ true → word_of w ≡ Positive (record { 0 = nat_abs w })
  unfolding word_of
  asked_word (pos v) h = go v (entries.ranged (entry v universal) (quantifies_sound universal (prefix_of p) v h))
    where
      go : (v : ℕ) → (1 ≤ v) × (v ≤ variable_bound) → word_of (pos v) ≡ Positive (record { 0 = v })
      go zero r = absurd (omega arith)
      go (suc n) r = rw (le-leb (suc n) variable_bound r.1)
  asked_word (negsuc n) h = absurd (false≢true h)

  pub not_asked : (w : ℤ) → ((v : Variable) → word_of w ≡ Positive v → ⊥) → universal_asked (prefix_of p) w ≡ false
  not_asked w h = go (universal_asked (prefix_of p) w) refl
    where
      go : (b : Bool) → universal_asked (prefix_of p) w ≡ b → universal_asked (prefix_of p) w ≡ false
      go true e = absurd (h (record { 0 = nat_abs w }) (asked_word w e))
      go false e = e

-- A number that is recognised as a variable.
pub asked_variable : (P : Prefix) (w : ℤ) (v : Variable) → word_of w ≡ Positive v → universal_asked P w ≡ quantifies universal P v.0
unfolding word_of
asked_variable P (pos zero) v e = let z : ◌≡◌ {A = ℕ} 0 1 = cc in absurd (omega arith)
asked_variable P (pos (suc n)) v e = go (leb (suc n) variable_bound) refl
  where
    go : (b : Bool) → leb (suc n) variable_bound ≡ b → quantifies universal P (suc n) ≡ quantifies universal P v.0
    go true q = let k = rw q at e in let z : suc n ≡ v.0 = cc in rw z
    go false q = let k = rw q at e in let z : ◌≡◌ {A = ℕ} 0 1 = cc in absurd (omega arith)
asked_variable P (negsuc n) v e = go (leb (suc n) variable_bound) refl
  where
    go : (b : Bool) → leb (suc n) variable_bound ≡ b → false ≡ quantifies universal P v.0
    go true q = let k = rw q at e in let z : ◌≡◌ {A = ℕ} 0 1 = cc in absurd (omega arith)
    go false q = let k = rw q at e in let z : ◌≡◌ {A = ℕ} 0 1 = cc in absurd (omega arith)

-- Clearing what follows.
module _ (F : Formula) (u : ℕ) (row copied row' : List ℕ) where
  pub row_cleared : copied ≡ row_of F u ++ drop 1025 row → row' ≡ clear_from 0 1025 copied → row' ≡ row_of F u ++ replicate (length row - 1025) 0
  row_cleared e f =
      let size = row_length F u in
      let rest : length (drop 1025 row) ≡ length row - 1025 = length-drop 1025 row in
      f
      ∙ ap (clear_from 0 1025) e
      ∙ sym (λ i. clear_from 0 (size i) (row_of F u ++ drop 1025 row))
      ∙ clear_append 0 (row_of F u) (drop 1025 row)
      ∙ (λ i. row_of F u ++ replicate (rest i) 0)

-- The bytes asked of a row: so many, one more, and those of a row that was made are the row.
pub asked_length : (row : List ℕ) (n : ℕ) → length (asked_bytes row n) ≡ n
unfolding asked_bytes
asked_length row zero = refl
asked_length row (suc n) = let k = asked_length row n in simp length-append (omega arith)

pub asked_step :
    (asked row : List ℕ) (i : ℕ) → i < length row
    → set (asked_bytes asked i ++ drop i row) i (asked_byte asked i) ≡ asked_bytes asked (suc i) ++ drop (suc i) row
unfolding asked_bytes
asked_step asked row i h =
    ap (λ (l : List ℕ). set (asked_bytes asked i ++ l) i (asked_byte asked i)) (drop-cons row i 0 h)
    ∙ set_at (asked_bytes asked i) (get_or row i 0) (drop (suc i) row) (asked_byte asked i) i (asked_length asked i)
    ∙ sym (append_snoc (asked_bytes asked i) (asked_byte asked i) (drop (suc i) row))

module _ (F : Formula) (u : ℕ) (row : List ℕ) (is : row ≡ row_of F u) where
  asked_below : (n : ℕ) → n ≤ 1025 → asked_bytes row n ≡ row_below F u n
  unfolding asked_bytes row_below
  asked_below zero h = refl
  asked_below (suc n) h = rw (asked_below n (omega arith), row_depends F u row is n (omega arith))

  pub asked_row : asked_bytes row 1025 ≡ row_of F u
  unfolding row_of
  asked_row = asked_below 1025 (omega arith)
