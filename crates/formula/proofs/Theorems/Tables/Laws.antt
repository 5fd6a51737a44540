-- The check of tables against ProperTables, both ways, and what the layers above use of tables that pass: sizes, ranges of
-- words, distinct and bound variables, closed clauses, and that the decoded formula is proper. Assumes nothing.
use Rattle.std.specs.Prelude.{Ok, Err, Result}
use Rattle.formula.specs.declared.tables.Counts.{Counts}
use Prim.Native.Nat.{ℕ, zero, suc, ◌+◌, ◌-◌, ◌*◌, ◌/◌, ◌%◌, ◌≤◌, ◌<◌}
use Rattle.std.specs.Prelude.{◌≡◌, ◌⊎◌, Bool, true, false, not, cond, ◌&&◌, ◌||◌, length, get_or, leb, ltb, eqb, ℤ, negsuc}
use Rattle.std.proofs.Math.Path.{refl, ap}
use Rattle.std.proofs.Common.{sym, ◌∙◌, subst, inl, inr, not-suc-le-zero, le_of_suc-le-suc, arith, leb-true, le-leb, ltb-true, lt-ltb, eqb-true, eq-eqb, ne_eqb}
use Rattle.std.proofs.lemmas.Bool.{false≢true, lt-leb, not-true}
use Rattle.std.proofs.Math.Option.{Option, none, some}
use mathlib.Core.List.{List, [], ◌∷◌, ◌++◌, map, Memᴰ}
use Rattle.std.proofs.Math.IntN.{pos, nat_abs}
use Rattle.qbf.specs.Connectives.{and_both, or_either, or_left, or_right}
use Rattle.qbf.specs.Literal.{Literal, Clause}
use Rattle.qbf.specs.Formula.{Quantifier, existential, universal, Entry, entry, Prefix, Distinct, Proper, listed, variables}
use Rattle.formula.specs.Bounds.{variable_bound, prefix_bound, count_bound, matrix_bound}
use Rattle.formula.specs.Word.{word_of, ordinal}
use Rattle.formula.specs.Word.Laws.{ordinal_bounded, ordinal_word, ordinal_number}
pub use Rattle.formula.specs.Word.Laws.{Kind, closing, large, signed, kind}
use Rattle.formula.specs.Refusal.{refusal}
use Rattle.formula.specs.Refusal.Laws.{require_none}
use Rattle.formula.specs.Decode.{literal_of, put_first, clauses_of, first_clause, later_words, clause_of, formula_of}
use Rattle.formula.specs.Prefix.{quantifier_number, quantifier_as, prefix_of, next_block, words_from, IsTable, entry_count, entry_words, AllRanged, Entries}
use Rattle.formula.specs.Prefix.Laws.{entry_count_lem, words_length, block_bound}
use Rattle.formula.specs.Decode.Laws.{magnitude_positive, positive_magnitude, literal_variable, clause_variables, clauses_put_first, first_clause_cons, later_words_cons, clauses_first, clauses_no_zero, clause_word_lem}
use Rattle.formula.specs.Tables.{is_in, zeros, variable_word, quantifier_word, block_word, prefix_refusal, literal_word, clause_word, clauses_refusal, listed_in, sized, first_refusal, words_refusal, tables_refusal, answer_tables, tables_answer, Admitted, admits}
use Rattle.formula.specs.Tables.Proper.{ProperTables}
use Rattle.formula.specs.declared.refusal.Refusal.{Refusal}
use Rattle.formula.specs.declared.refusal.Reason.TheVariants.{OutOfRange}

-- A refusal is not its absence.
refused : {r : Refusal} {A : Type 0} → ◌≡◌ {A = Option Refusal} (some r) none → A
refused e = let z : ◌≡◌ {A = ℕ} 0 1 = cc in absurd (omega arith)

-- `is_in` tests membership.
pub is_in_sound : (v : ℕ) (xs : List ℕ) → is_in v xs ≡ true → Memᴰ v xs
unfolding is_in
is_in_sound v [] h = absurd (false≢true h)
is_in_sound v (x ∷ xs) h = go (or_either (eqb v x) (is_in v xs) h) (λ k. is_in_sound v xs k)
  where
    go : (eqb v x ≡ true) ⊎ (is_in v xs ≡ true) → (is_in v xs ≡ true → Memᴰ v xs) → Memᴰ v (x ∷ xs)
    go (inl e) later = mathlib.Core.List.Memᴰ.head (eqb-true v x e)
    go (inr k) later = mathlib.Core.List.Memᴰ.tail (later k)

pub is_in_complete : (v : ℕ) (xs : List ℕ) → Memᴰ v xs → is_in v xs ≡ true
unfolding is_in
is_in_complete v [] m = absurd (mathlib.Core.List.Memᴰ.not-nil m)
is_in_complete v (x ∷ xs) m = go (mathlib.Core.List.Memᴰ.cases_cons m) (λ k. is_in_complete v xs k)
  where
    go : (v ≡ x) ⊎ Memᴰ v xs → (Memᴰ v xs → is_in v xs ≡ true) → is_in v (x ∷ xs) ≡ true
    go (inl e) later = or_left (eqb v x) (is_in v xs) (eq-eqb v x e)
    go (inr k) later = or_right (eqb v x) (is_in v xs) (later k)

pub is_in_absent : (v : ℕ) (xs : List ℕ) → (Memᴰ v xs → ⊥) → is_in v xs ≡ false
is_in_absent v xs h = go (is_in v xs) refl
  where
    go : (b : Bool) → is_in v xs ≡ b → is_in v xs ≡ false
    go true e = absurd (h (is_in_sound v xs e))
    go false e = e

pub absent_is_in : (v : ℕ) (xs : List ℕ) → is_in v xs ≡ false → Memᴰ v xs → ⊥
absent_is_in v xs e m = false≢true (sym e ∙ is_in_complete v xs m)

-- How each kind is judged in a clause.
module _ (known : ℕ → Bool) (at : ℕ) (seen : List ℕ) (next : List ℕ → Option Refusal) where
  pub clause_word_large : (w : ℤ) → variable_bound < nat_abs w → clause_word known at seen (word_of w) next ≡ some (refusal OutOfRange at)
  unfolding word_of
  clause_word_large (pos zero) h = absurd (not-suc-le-zero h)
  clause_word_large (pos (suc n)) h = rw (lt-leb (suc n) variable_bound h)
  clause_word_large (negsuc n) h = rw (lt-leb (suc n) variable_bound h)

  pub clause_word_zero : (w : ℤ) → w ≡ pos 0 → clause_word known at seen (word_of w) next ≡ next []
  unfolding word_of
  clause_word_zero w e = rw e

  pub clause_word_literal :
      (w : ℤ) → 1 ≤ nat_abs w → nat_abs w ≤ variable_bound
      → clause_word known at seen (word_of w) next ≡ literal_word at (known (nat_abs w)) (is_in (nat_abs w) seen) (next (nat_abs w ∷ seen))
  unfolding word_of
  clause_word_literal (pos zero) l h = absurd (not-suc-le-zero l)
  clause_word_literal (pos (suc n)) l h = rw (le-leb (suc n) variable_bound h)
  clause_word_literal (negsuc n) l h = rw (le-leb (suc n) variable_bound h)

-- Entries whose words pass, after the variables `seen`.
pub record PrefixPasses (seen : List ℕ) (P : Prefix) : Type 0 where
  pub range : AllRanged P
  pub distinct : Distinct (listed P)
  pub fresh : (v : ℕ) → Memᴰ v seen → Memᴰ v (listed P) → ⊥

passes_none : (seen : List ℕ) → PrefixPasses seen []
passes_none seen = record { range = λ x m. absurd (mathlib.Core.List.Memᴰ.not-nil m); distinct = tt; fresh = λ v m k. mathlib.Core.List.Memᴰ.not-nil k }

passes_cons :
    (seen : List ℕ) (x : Entry) (P : Prefix) → 1 ≤ x.variable → x.variable ≤ variable_bound → is_in x.variable seen ≡ false
    → PrefixPasses (x.variable ∷ seen) P → PrefixPasses seen (x ∷ P)
passes_cons seen x P l h e p =
    record {
      range = λ y m. ranged y (mathlib.Core.List.Memᴰ.cases_cons m);
      distinct = (λ m. p.fresh x.variable (mathlib.Core.List.Memᴰ.head refl) m, p.distinct);
      fresh = λ v m k. apart v m (mathlib.Core.List.Memᴰ.cases_cons k);
    }
  where
    ranged : (y : Entry) → (y ≡ x) ⊎ Memᴰ y P → (1 ≤ y.variable) × (y.variable ≤ variable_bound)
    ranged y (inl q) = rw q (l, h)
    ranged y (inr m) = p.range y m

    apart : (v : ℕ) → Memᴰ v seen → (v ≡ x.variable) ⊎ Memᴰ v (listed P) → ⊥
    apart v m (inl q) = absent_is_in x.variable seen e (mathlib.Core.List.Memᴰ.cast (sym q) m)
    apart v m (inr k) = p.fresh v (mathlib.Core.List.Memᴰ.tail m) k

cons_passes :
    (seen : List ℕ) (x : Entry) (P : Prefix) → PrefixPasses seen (x ∷ P) → (is_in x.variable seen ≡ false) × PrefixPasses (x.variable ∷ seen) P
cons_passes seen x P p = (
  is_in_absent x.variable seen (λ m. p.fresh x.variable m (mathlib.Core.List.Memᴰ.head refl)),
  record {
    range = λ y m. p.range y (mathlib.Core.List.Memᴰ.tail m);
    distinct = p.distinct.1;
    fresh = λ v m k. apart v (mathlib.Core.List.Memᴰ.cases_cons m) k;
  },
)
  where
    apart : (v : ℕ) → (v ≡ x.variable) ⊎ Memᴰ v seen → Memᴰ v (listed P) → ⊥
    apart v (inl q) k = p.distinct.0 (mathlib.Core.List.Memᴰ.cast (sym q) k)
    apart v (inr m) k = p.fresh v m (mathlib.Core.List.Memᴰ.tail k)

-- A quantifier's number.
quantifier_number_lem : (q : ℕ) → (eqb q 1 || eqb q 2) ≡ true → quantifier_number (quantifier_as q) ≡ q
quantifier_number_lem q h = go (or_either (eqb q 1) (eqb q 2) h)
  where
    go : (eqb q 1 ≡ true) ⊎ (eqb q 2 ≡ true) → quantifier_number (quantifier_as q) ≡ q
    go (inl e) = rw (eqb-true q 1 e)
    go (inr e) = rw (eqb-true q 2 e)

number_quantifier : (q : Quantifier) → (eqb (quantifier_number q) 1 || eqb (quantifier_number q) 2) ≡ true
number_quantifier existential = refl
number_quantifier universal = refl

-- An entry that passes: what its words are, and what is left to judge.
record EntryPasses (seen : List ℕ) (last block : ℕ) (v q b : ℤ) (later : Option Refusal) : Type 0 where
  variable : 1 ≤ ordinal v
  fresh : is_in (ordinal v) seen ≡ false
  quantifier : quantifier_number (quantifier_as (ordinal q)) ≡ ordinal q
  due : ordinal b ≡ next_block last block (ordinal q)
  passes : later ≡ none

entry_sound :
    (at : ℕ) (seen : List ℕ) (last block : ℕ) (v q b : ℤ) (later : Option Refusal)
    → variable_word at seen (ordinal v) (quantifier_word (at + 1) (ordinal q) (block_word (at + 2) (ordinal b) (next_block last block (ordinal q)) later)) ≡ none
    → EntryPasses seen last block v q b later
entry_sound at seen last block v q b later h =
    let a = require_none (ltb 0 (ordinal v)) _ _ h in
    let f = require_none (not (is_in (ordinal v) seen)) _ _ a.1 in
    let k = require_none (eqb (ordinal q) 1 || eqb (ordinal q) 2) _ _ f.1 in
    let d = require_none (eqb (ordinal b) (next_block last block (ordinal q))) _ _ k.1 in
    record {
      variable = ltb-true 0 (ordinal v) a.0;
      fresh = not-true (is_in (ordinal v) seen) f.0;
      quantifier = quantifier_number_lem (ordinal q) k.0;
      due = eqb-true (ordinal b) (next_block last block (ordinal q)) d.0;
      passes = d.1;
    }

prefix_sound : (at : ℕ) (seen : List ℕ) (last block : ℕ) (ws : List ℤ) → prefix_refusal at seen last block ws ≡ none → PrefixPasses seen (prefix_of ws)
unfolding prefix_refusal prefix_of
prefix_sound at seen last block [] h = passes_none seen
prefix_sound at seen last block (v ∷ []) h = passes_none seen
prefix_sound at seen last block (v ∷ q ∷ []) h = passes_none seen
prefix_sound at seen last block (v ∷ q ∷ b ∷ ws) h =
    let r = entry_sound at seen last block v q b _ h in
    passes_cons seen (entry (ordinal v) (quantifier_as (ordinal q))) (prefix_of ws) r.variable (ordinal_bounded v) r.fresh
    (prefix_sound (at + 3) (ordinal v ∷ seen) (ordinal q) (next_block last block (ordinal q)) ws r.passes)

-- The words of a prefix that passes, in threes, are those of its entries.
three_left : (n m : ℕ) → suc (suc (suc n)) ≡ 3 * m → n ≡ 3 * (m - 1)
three_left n m e = omega arith

next_positive : (last block q : ℕ) → (q ≡ last → ⊥) → 1 ≤ next_block last block q
next_positive last block q n = rw (ne_eqb q last n) (omega arith)

-- The block before, where there is one, is not 0.
abbrev Begun : (last block : ℕ) → Type 0
Begun last block = (q : ℕ) → 1 ≤ q → 1 ≤ next_block last block q

begun_first : Begun 0 0
begun_first q h = next_positive 0 0 q (λ e. omega arith)

begun_next : (last block : ℕ) → 1 ≤ block → Begun last block
begun_next last block h q l = go (eqb q last)
  where
    go : (e : Bool) → 1 ≤ cond e block (block + 1)
    go true = h
    go false = omega arith

words_sound :
    (at : ℕ) (seen : List ℕ) (last block n : ℕ) (ws : List ℤ) → Begun last block → length ws ≡ 3 * n → prefix_refusal at seen last block ws ≡ none
    → words_from last block (prefix_of ws) ≡ ws
unfolding prefix_refusal prefix_of words_from
words_sound at seen last block n [] B l h = refl
words_sound at seen last block n (v ∷ []) B l h = absurd (omega arith)
words_sound at seen last block n (v ∷ q ∷ []) B l h = absurd (omega arith)
words_sound at seen last block n (v ∷ q ∷ b ∷ ws) B l h =
    let r = entry_sound at seen last block v q b _ h in
    let positive : 1 ≤ ordinal q = numbered (quantifier_as (ordinal q)) r.quantifier in
    let begun : 1 ≤ next_block last block (ordinal q) = B (ordinal q) positive in
    let later = words_sound (at + 3) (ordinal v ∷ seen) (ordinal q) (next_block last block (ordinal q)) (n - 1) ws (begun_next (ordinal q) (next_block last block (ordinal q)) begun) (three_left (length ws) n l) r.passes in
    rw (r.quantifier, later, ← r.due)
    (rw (← ordinal_word v r.variable, ← ordinal_word q positive, ← ordinal_word b (rw r.due begun)) refl)
  where
    numbered : (k : Quantifier) → quantifier_number k ≡ ordinal q → 1 ≤ ordinal q
    numbered existential e = omega (arith, e)
    numbered universal e = omega (arith, e)

-- Entries that pass: so do their words, where the blocks stay within the bound.
pub words_pass :
    (at : ℕ) (seen : List ℕ) (last block : ℕ) (P : Prefix) → block + length P ≤ variable_bound → PrefixPasses seen P
    → prefix_refusal at seen last block (words_from last block P) ≡ none
unfolding prefix_refusal words_from
words_pass at seen last block [] h p = refl
words_pass at seen last block (x ∷ P) h p =
    let c = cons_passes seen x P p in
    let r = p.range x (mathlib.Core.List.Memᴰ.head refl) in
    let next = next_block last block (quantifier_number x.quantifier) in
    let low : next ≤ block + 1 = block_bound last block (quantifier_number x.quantifier) in
    rw (
      ordinal_number x.variable r.1,
      number_ordinal x.quantifier,
      ordinal_number next (omega arith),
      lt-ltb 0 x.variable r.0,
      c.0,
      number_quantifier x.quantifier,
      eq-eqb next next refl,
    )
    (words_pass (at + 3) (x.variable ∷ seen) (quantifier_number x.quantifier) next P (omega arith) c.1)
  where
    number_ordinal : (q : Quantifier) → ordinal (pos (quantifier_number q)) ≡ quantifier_number q
    number_ordinal existential = ordinal_number 1 (omega arith)
    number_ordinal universal = ordinal_number 2 (omega arith)

-- Clauses and their closing 0s.
pub zeros_cons : (w : ℤ) (ws : List ℤ) → (w ≡ pos 0 → ⊥) → zeros (w ∷ ws) ≡ zeros ws
unfolding zeros
zeros_cons (pos zero) ws h = absurd (h refl)
zeros_cons (pos (suc n)) ws h = refl
zeros_cons (negsuc n) ws h = refl

put_first_length : (w : ℤ) (Cs : List (List ℤ)) → 1 ≤ length Cs → length (put_first w Cs) ≡ length Cs
put_first_length w [] h = absurd (not-suc-le-zero h)
put_first_length w (C ∷ Cs) h = refl

put_first_some : (w : ℤ) (Cs : List (List ℤ)) → (1 ≤ length (put_first w Cs)) × (length Cs ≤ length (put_first w Cs))
put_first_some w [] = omega arith
put_first_some w (C ∷ Cs) = omega arith

-- A 0 closes a clause, so there are no more of them than clauses.
pub zeros_clauses : (ws : List ℤ) → zeros ws ≤ length (clauses_of ws)
unfolding zeros clauses_of
zeros_clauses [] = omega arith
zeros_clauses (pos zero ∷ ws) = omega (arith, zeros_clauses ws)
zeros_clauses (pos (suc n) ∷ ws) = omega (arith, zeros_clauses ws, (put_first_some (pos (suc n)) (clauses_of ws)).1)
zeros_clauses (negsuc n ∷ ws) = omega (arith, zeros_clauses ws, (put_first_some (negsuc n) (clauses_of ws)).1)

-- With a 0 to come, the words are the first clause, its 0, and the later words.
pub first_clause_closed : (ws : List ℤ) → 1 ≤ zeros ws → ws ≡ first_clause ws ++ pos 0 ∷ later_words ws
unfolding zeros first_clause later_words
first_clause_closed [] h = absurd (not-suc-le-zero h)
first_clause_closed (pos zero ∷ ws) h = refl
first_clause_closed (pos (suc n) ∷ ws) h = ap (λ (l : List ℤ). pos (suc n) ∷ l) (first_clause_closed ws h)
first_clause_closed (negsuc n ∷ ws) h = ap (λ (l : List ℤ). negsuc n ∷ l) (first_clause_closed ws h)

-- Clause words that pass, where their first clause goes on after the variables `seen`.
record ClausesPass (known : ℕ → Bool) (seen : List ℕ) (ws : List ℤ) : Type 0 where
  range : (w : ℤ) → Memᴰ w ws → nat_abs w ≤ variable_bound
  bound : (w : ℤ) → Memᴰ w ws → (w ≡ pos 0 → ⊥) → known (nat_abs w) ≡ true
  distinct : Distinct (map nat_abs (first_clause ws))
  fresh : (v : ℕ) → Memᴰ v seen → Memᴰ v (map nat_abs (first_clause ws)) → ⊥
  later : (C : List ℤ) → Memᴰ C (clauses_of (later_words ws)) → Distinct (map nat_abs C)
  closed : length (clauses_of ws) ≡ zeros ws
  begun : (v : ℕ) → Memᴰ v seen → 1 ≤ zeros ws

-- The clauses of words: the first and those of the later words.
clauses_split : {P : List ℤ → Type 0} (ws : List ℤ) → P (first_clause ws) → ((C : List ℤ) → Memᴰ C (clauses_of (later_words ws)) → P C)
    → (C : List ℤ) → Memᴰ C (clauses_of ws) → P C
unfolding clauses_of
clauses_split [] p later C m = absurd (mathlib.Core.List.Memᴰ.not-nil m)
clauses_split {P} (w ∷ ws) p later C m = go (mathlib.Core.List.Memᴰ.cases_cons (rw (clauses_first w ws) at m))
  where
    go : (C ≡ first_clause (w ∷ ws)) ⊎ Memᴰ C (clauses_of (later_words (w ∷ ws))) → P C
    go (inl e) = subst P (sym e) p
    go (inr k) = later C k

first_of_clauses : {P : List ℤ → Type 0} (ws : List ℤ) → P [] → ((C : List ℤ) → Memᴰ C (clauses_of ws) → P C) → P (first_clause ws)
unfolding first_clause
first_of_clauses [] n h = n
first_of_clauses (w ∷ ws) n h = h (first_clause (w ∷ ws)) (rw (clauses_first w ws) (mathlib.Core.List.Memᴰ.head refl))

later_of_clauses :
    {P : List ℤ → Type 0} (ws : List ℤ)
    → ((C : List ℤ) → Memᴰ C (clauses_of ws) → P C)
    → (C : List ℤ) → Memᴰ C (clauses_of (later_words ws)) → P C
unfolding clauses_of later_words
later_of_clauses [] h C m = absurd (mathlib.Core.List.Memᴰ.not-nil m)
later_of_clauses (w ∷ ws) h C m = h C (rw (clauses_first w ws) (mathlib.Core.List.Memᴰ.tail m))

module _ (known : ℕ → Bool) where
  -- A 0 begins the next clause with nothing seen.
  pass_zero : (seen : List ℕ) (w : ℤ) (ws : List ℤ) → w ≡ pos 0 → ClausesPass known [] ws → ClausesPass known seen (w ∷ ws)
  unfolding zeros clauses_of first_clause later_words
  pass_zero seen w ws e p =
      rw e
      (record {
        range = λ v m. ranged v (mathlib.Core.List.Memᴰ.cases_cons m);
        bound = λ v m z. bounded v z (mathlib.Core.List.Memᴰ.cases_cons m);
        distinct = tt;
        fresh = λ v m k. mathlib.Core.List.Memᴰ.not-nil k;
        later = λ C m. clauses_split {P = λ (D : List ℤ). Distinct (map nat_abs D)} ws p.distinct p.later C m;
        closed = ap suc p.closed;
        begun = λ v m. omega arith;
      })
    where
      ranged : (v : ℤ) → (v ≡ pos 0) ⊎ Memᴰ v ws → nat_abs v ≤ variable_bound
      ranged v (inl q) = rw q (omega arith)
      ranged v (inr m) = p.range v m

      bounded : (v : ℤ) → (v ≡ pos 0 → ⊥) → (v ≡ pos 0) ⊎ Memᴰ v ws → known (nat_abs v) ≡ true
      bounded v z (inl q) = absurd (z q)
      bounded v z (inr m) = p.bound v m z

  zero_pass : (seen : List ℕ) (w : ℤ) (ws : List ℤ) → w ≡ pos 0 → ClausesPass known seen (w ∷ ws) → ClausesPass known [] ws
  unfolding zeros clauses_of first_clause later_words
  zero_pass seen w ws e p =
      let q : ClausesPass known seen (pos 0 ∷ ws) = rw e at p in
      record {
        range = λ v m. q.range v (mathlib.Core.List.Memᴰ.tail m);
        bound = λ v m z. q.bound v (mathlib.Core.List.Memᴰ.tail m) z;
        distinct = first_of_clauses {P = λ (D : List ℤ). Distinct (map nat_abs D)} ws tt q.later;
        fresh = λ v m k. mathlib.Core.List.Memᴰ.not-nil m;
        later = later_of_clauses {P = λ (D : List ℤ). Distinct (map nat_abs D)} ws q.later;
        closed = omega (arith, q.closed);
        begun = λ v m. absurd (mathlib.Core.List.Memᴰ.not-nil m);
      }

  -- A literal goes to the front of its clause.
  pass_literal :
      (seen : List ℕ) (w : ℤ) (ws : List ℤ)
      → 1 ≤ nat_abs w
      → nat_abs w ≤ variable_bound
      → known (nat_abs w) ≡ true
      → is_in (nat_abs w) seen ≡ false
      → ClausesPass known (nat_abs w ∷ seen) ws
      → ClausesPass known seen (w ∷ ws)
  pass_literal seen w ws l u k e p =
      let z : w ≡ pos 0 → ⊥ = positive_magnitude w l in
      let b : 1 ≤ zeros ws = p.begun (nat_abs w) (mathlib.Core.List.Memᴰ.head refl) in
      record {
        range = λ v m. ranged v (mathlib.Core.List.Memᴰ.cases_cons m);
        bound = λ v m n. bounded v n (mathlib.Core.List.Memᴰ.cases_cons m);
        distinct = rw (first_clause_cons w ws z) (λ m. p.fresh (nat_abs w) (mathlib.Core.List.Memᴰ.head refl) m, p.distinct);
        fresh = λ v m i. apart v m (mathlib.Core.List.Memᴰ.cases_cons (rw (first_clause_cons w ws z) at i));
        later = rw (later_words_cons w ws z) p.later;
        closed =
            rw (clauses_put_first w ws z, zeros_cons w ws z)
            (put_first_length w (clauses_of ws) (omega (arith, b, zeros_clauses ws)) ∙ p.closed);
        begun = λ v m. rw (zeros_cons w ws z) b;
      }
    where
      ranged : (v : ℤ) → (v ≡ w) ⊎ Memᴰ v ws → nat_abs v ≤ variable_bound
      ranged v (inl q) = rw q u
      ranged v (inr m) = p.range v m

      bounded : (v : ℤ) → (v ≡ pos 0 → ⊥) → (v ≡ w) ⊎ Memᴰ v ws → known (nat_abs v) ≡ true
      bounded v n (inl q) = rw q k
      bounded v n (inr m) = p.bound v m n

      apart : (v : ℕ) → Memᴰ v seen → (v ≡ nat_abs w) ⊎ Memᴰ v (map nat_abs (first_clause ws)) → ⊥
      apart v m (inl q) = absent_is_in (nat_abs w) seen e (mathlib.Core.List.Memᴰ.cast (sym q) m)
      apart v m (inr i) = p.fresh v (mathlib.Core.List.Memᴰ.tail m) i

  literal_pass :
      (seen : List ℕ) (w : ℤ) (ws : List ℤ)
      → 1 ≤ nat_abs w
      → ClausesPass known seen (w ∷ ws)
      → (is_in (nat_abs w) seen ≡ false) × ClausesPass known (nat_abs w ∷ seen) ws
  literal_pass seen w ws l p =
      let z : w ≡ pos 0 → ⊥ = positive_magnitude w l in
      let fresh : (v : ℕ) → Memᴰ v seen → Memᴰ v (map nat_abs (w ∷ first_clause ws)) → ⊥ = rw (first_clause_cons w ws z) at p.fresh in
      let distinct : Distinct (map nat_abs (w ∷ first_clause ws)) = rw (first_clause_cons w ws z) at p.distinct in
      let closed : length (put_first w (clauses_of ws)) ≡ zeros ws = rw (clauses_put_first w ws z, zeros_cons w ws z) at p.closed in
      let b : 1 ≤ zeros ws = omega (arith, closed, (put_first_some w (clauses_of ws)).0) in (
        is_in_absent (nat_abs w) seen (λ m. fresh (nat_abs w) m (mathlib.Core.List.Memᴰ.head refl)),
        record {
          range = λ v m. p.range v (mathlib.Core.List.Memᴰ.tail m);
          bound = λ v m n. p.bound v (mathlib.Core.List.Memᴰ.tail m) n;
          distinct = distinct.1;
          fresh = λ v m i. apart fresh distinct v (mathlib.Core.List.Memᴰ.cases_cons m) i;
          later = rw (later_words_cons w ws z) at p.later;
          closed = sym (put_first_length w (clauses_of ws) (omega (arith, b, zeros_clauses ws))) ∙ closed;
          begun = λ v m. b;
        },
      )
    where
      apart :
          ((v : ℕ) → Memᴰ v seen → Memᴰ v (map nat_abs (w ∷ first_clause ws)) → ⊥)
          → Distinct (map nat_abs (w ∷ first_clause ws))
          → (v : ℕ) → (v ≡ nat_abs w) ⊎ Memᴰ v seen → Memᴰ v (map nat_abs (first_clause ws)) → ⊥
      apart fresh distinct v (inl q) i = distinct.0 (mathlib.Core.List.Memᴰ.cast (sym q) i)
      apart fresh distinct v (inr m) i = fresh v m (mathlib.Core.List.Memᴰ.tail i)

  clauses_sound : (at : ℕ) (seen : List ℕ) (ws : List ℤ) → clauses_refusal known at seen ws ≡ none → ClausesPass known seen ws
  unfolding clauses_refusal clauses_of zeros first_clause later_words
  clauses_sound at [] [] h =
      record {
        range = λ w m. absurd (mathlib.Core.List.Memᴰ.not-nil m);
        bound = λ w m z. absurd (mathlib.Core.List.Memᴰ.not-nil m);
        distinct = tt;
        fresh = λ v m k. mathlib.Core.List.Memᴰ.not-nil m;
        later = λ C m. absurd (mathlib.Core.List.Memᴰ.not-nil m);
        closed = refl;
        begun = λ v m. absurd (mathlib.Core.List.Memᴰ.not-nil m);
      }
  clauses_sound at (v ∷ seen) [] h = refused h
  clauses_sound at seen (w ∷ ws) h = go (kind w) (λ s k. clauses_sound (at + 1) s ws k)
    where
      next : List ℕ → Option Refusal
      next s = clauses_refusal known (at + 1) s ws

      judged :
          (a b : Bool) → known (nat_abs w) ≡ a → is_in (nat_abs w) seen ≡ b
          → 1 ≤ nat_abs w
          → nat_abs w ≤ variable_bound
          → literal_word at a b (next (nat_abs w ∷ seen)) ≡ none
          → ((s : List ℕ) → next s ≡ none → ClausesPass known s ws)
          → ClausesPass known seen (w ∷ ws)
      judged false b k e l u h' later = refused h'
      judged true true k e l u h' later = refused h'
      judged true false k e l u h' later = pass_literal seen w ws l u k e (later (nat_abs w ∷ seen) h')

      go : Kind w → ((s : List ℕ) → next s ≡ none → ClausesPass known s ws) → ClausesPass known seen (w ∷ ws)
      go (closing e) later = pass_zero seen w ws e (later [] (sym (clause_word_zero known at seen next w e) ∙ h))
      go (large l) later = refused (sym (clause_word_large known at seen next w l) ∙ h)
      go (signed l u) later =
          judged (known (nat_abs w)) (is_in (nat_abs w) seen) refl refl l u (sym (clause_word_literal known at seen next w l u) ∙ h) later

  clauses_complete : (at : ℕ) (seen : List ℕ) (ws : List ℤ) → ClausesPass known seen ws → clauses_refusal known at seen ws ≡ none
  unfolding clauses_refusal zeros
  clauses_complete at [] [] p = refl
  clauses_complete at (v ∷ seen) [] p = absurd (not-suc-le-zero (p.begun v (mathlib.Core.List.Memᴰ.head refl)))
  clauses_complete at seen (w ∷ ws) p = go (kind w) (λ s k. clauses_complete (at + 1) s ws k)
    where
      next : List ℕ → Option Refusal
      next s = clauses_refusal known (at + 1) s ws

      go : Kind w → ((s : List ℕ) → ClausesPass known s ws → next s ≡ none) → clauses_refusal known at seen (w ∷ ws) ≡ none
      go (closing e) later = clause_word_zero known at seen next w e ∙ later [] (zero_pass seen w ws e p)
      go (large l) later = let h = p.range w (mathlib.Core.List.Memᴰ.head refl) in absurd (omega arith)
      go (signed l u) later =
          let q = literal_pass seen w ws l p in
          clause_word_literal known at seen next w l u
          ∙ rw (p.bound w (mathlib.Core.List.Memᴰ.head refl) (positive_magnitude w l), q.0) (later (nat_abs w ∷ seen) q.1)

-- The parts of the check: it passes when each of them does.
or_else_first : (a b : Option Refusal) → first_refusal a b ≡ none → (a ≡ none) × (b ≡ none)
or_else_first none b h = (refl, h)
or_else_first (some r) b h = refused h

record Parts (p c : List ℤ) : Type 0 where
  sizes : sized p c ≡ true
  threes : length p % 3 ≡ 0
  prefix : prefix_refusal 0 [] 0 0 p ≡ none
  clauses : clauses_refusal (listed_in p) 0 [] c ≡ none

admitted_parts : (p c : List ℤ) → Admitted p c → Parts p c
unfolding tables_refusal words_refusal
admitted_parts p c a =
    let sizes = require_none (sized p c) _ _ a.passes in
    let threes = require_none (eqb (length p % 3) 0) _ _ sizes.1 in
    let both = or_else_first (prefix_refusal 0 [] 0 0 p) (clauses_refusal (listed_in p) 0 [] c) threes.1 in
    record { sizes = sizes.0; threes = eqb-true (length p % 3) 0 threes.0; prefix = both.0; clauses = both.1 }

pub sized_bounds : (p c : List ℤ) → sized p c ≡ true → (length p ≤ prefix_bound) × (length c ≤ matrix_bound) × (zeros c ≤ count_bound)
sized_bounds p c h =
    let a = and_both (leb (length p) prefix_bound && leb (length c) matrix_bound) (leb (zeros c) count_bound) h in
    let b = and_both (leb (length p) prefix_bound) (leb (length c) matrix_bound) a.0 in
    (leb-true (length p) prefix_bound b.0, leb-true (length c) matrix_bound b.1, leb-true (zeros c) count_bound a.1)

pub bounds_sized : (p c : List ℤ) → length p ≤ prefix_bound → length c ≤ matrix_bound → zeros c ≤ count_bound → sized p c ≡ true
bounds_sized p c h k l = rw (le-leb (length p) prefix_bound h, le-leb (length c) matrix_bound k, le-leb (zeros c) count_bound l)

-- The words of a table of entries are in threes.
pub table_length : (p : List ℤ) → IsTable p → length p ≡ 3 * entry_count p
unfolding entry_words
table_length p t = ap {B = ℕ} (λ (ws : List ℤ). length ws) (sym t) ∙ words_length (prefix_of p)

-- Tables pass exactly when they are proper.
pub admitted_tables : (p c : List ℤ) → Admitted p c → ProperTables p c
admitted_tables p c a =
    let parts = admitted_parts p c a in
    let sizes = sized_bounds p c parts.sizes in
    let P = prefix_sound 0 [] 0 0 p parts.prefix in
    let C = clauses_sound (listed_in p) 0 [] c parts.clauses in
    record {
      prefix_length = omega (arith, entry_count_lem p, sizes.0);
      clauses_length = sizes.1;
      count = sizes.2;
      prefix_table = words_sound 0 [] 0 0 (length p / 3) p begun_first (omega (arith, parts.threes)) parts.prefix;
      prefix_range = record { ranged = P.range };
      prefix_distinct = P.distinct;
      clause_range = C.range;
      clause_bound = λ w m z. is_in_sound (nat_abs w) (listed (prefix_of p)) (C.bound w m z);
      clause_distinct = clauses_split {P = λ (D : List ℤ). Distinct (map nat_abs D)} c C.distinct C.later;
      closed = C.closed;
    }

pub tables_admitted : (p c : List ℤ) → ProperTables p c → Admitted p c
unfolding tables_refusal words_refusal
tables_admitted p c t =
    let words : length p ≡ 3 * entry_count p = table_length p t.prefix_table in
    let sizes : sized p c ≡ true = bounds_sized p c (omega (arith, words, t.prefix_length)) t.clauses_length t.count in
    let threes : eqb (length p % 3) 0 ≡ true = eq-eqb (length p % 3) 0 (omega (arith, words)) in
    let P : prefix_refusal 0 [] 0 0 p ≡ none =
    ap (prefix_refusal 0 [] 0 0) (sym t.prefix_table)
    ∙ words_pass 0 [] 0 0 (prefix_of p) (omega (arith, t.prefix_length))
    (record { range = t.prefix_range.ranged; distinct = t.prefix_distinct; fresh = λ v m k. mathlib.Core.List.Memᴰ.not-nil m }) in
    let C : clauses_refusal (listed_in p) 0 [] c ≡ none =
    clauses_complete (listed_in p) 0 [] c
    (record {
      range = t.clause_range;
      bound = λ w m z. is_in_complete (nat_abs w) (listed (prefix_of p)) (t.clause_bound w m z);
      distinct = first_of_clauses {P = λ (D : List ℤ). Distinct (map nat_abs D)} c tt t.clause_distinct;
      fresh = λ v m k. mathlib.Core.List.Memᴰ.not-nil m;
      later = later_of_clauses {P = λ (D : List ℤ). Distinct (map nat_abs D)} c t.clause_distinct;
      closed = t.closed;
      begun = λ v m. absurd (mathlib.Core.List.Memᴰ.not-nil m);
    }) in
    record { passes = rw (sizes, threes, P, C) }

counts_same : (a b : Counts) → ◌≡◌ {A = Result Counts Refusal} (Ok a) (Ok b) → a ≡ b
counts_same a b e = cc

-- What an answer of `check_tables` says of the tables.
pub answer_admitted : (p c : List ℤ) (v n : ℕ) → tables_answer p c ≡ admits v n → Admitted p c × (v ≡ entry_count p) × (n ≡ zeros c)
answer_admitted p c v n h = go (tables_refusal p c) refl h
  where
    go : (a : Option Refusal) → tables_refusal p c ≡ a → answer_tables a (entry_count p) (zeros c) ≡ admits v n → Admitted p c × (v ≡ entry_count p) × (n ≡ zeros c)
    go none e k =
        let same = counts_same (record { variables = entry_count p; clauses = zeros c }) (record { variables = v; clauses = n }) k in
        (record { passes = e }, sym (ap (λ (x : Counts). x.variables) same), sym (ap (λ (x : Counts). x.clauses) same))
    go (some r) e k = let z : ◌≡◌ {A = ℕ} 0 1 = cc in absurd (omega arith)

pub answer_refused : (p c : List ℤ) (r : Refusal) → tables_answer p c ≡ Err r → tables_refusal p c ≡ some r
answer_refused p c r h = go (tables_refusal p c) h
  where
    go : (a : Option Refusal) → answer_tables a (entry_count p) (zeros c) ≡ Err r → a ≡ some r
    go none k = let z : ◌≡◌ {A = ℕ} 0 1 = cc in absurd (omega arith)
    go (some s) k = cc

pub admitted_answer : (p c : List ℤ) → Admitted p c → tables_answer p c ≡ admits (entry_count p) (zeros c)
admitted_answer p c a = rw a.passes

-- A word read by its place stands in the table.
pub get_or_member : (ws : List ℤ) (i : ℕ) (d : ℤ) → i < length ws → Memᴰ (get_or ws i d) ws
get_or_member [] i d h = absurd (not-suc-le-zero h)
get_or_member (w ∷ ws) zero d h = mathlib.Core.List.Memᴰ.head refl
get_or_member (w ∷ ws) (suc i) d h = mathlib.Core.List.Memᴰ.tail (get_or_member ws i d (le_of_suc-le-suc h))

-- What the layers above read off tables that pass.
module _ (p c : List ℤ) (a : Admitted p c) where
  pub admitted_prefix_length : entry_count p ≤ 1024
  admitted_prefix_length = (admitted_tables p c a).prefix_length

  pub admitted_clauses_length : length c ≤ 65536
  admitted_clauses_length = (admitted_tables p c a).clauses_length

  pub admitted_count : zeros c ≤ 8192
  admitted_count = (admitted_tables p c a).count

  -- The part of the check that judges the clause words.
  pub admitted_clauses : clauses_refusal (listed_in p) 0 [] c ≡ none
  admitted_clauses = (admitted_parts p c a).clauses

  pub admitted_words : IsTable p
  admitted_words = (admitted_tables p c a).prefix_table

  pub admitted_entries : Entries p
  admitted_entries = (admitted_tables p c a).prefix_range

  pub admitted_prefix_distinct : Distinct (listed (prefix_of p))
  admitted_prefix_distinct = (admitted_tables p c a).prefix_distinct

  pub admitted_clause_word : (w : ℤ) → Memᴰ w c → nat_abs w ≤ 1024
  admitted_clause_word = (admitted_tables p c a).clause_range

  pub admitted_clause_at : (i : ℕ) (d : ℤ) → i < length c → nat_abs (get_or c i d) ≤ 1024
  admitted_clause_at i d h = admitted_clause_word (get_or c i d) (get_or_member c i d h)

  pub admitted_clause_bound : (w : ℤ) → Memᴰ w c → (w ≡ pos 0 → ⊥) → Memᴰ (nat_abs w) (listed (prefix_of p))
  admitted_clause_bound = (admitted_tables p c a).clause_bound

  pub admitted_clause_distinct : (C : List ℤ) → Memᴰ C (clauses_of c) → Distinct (map nat_abs C)
  admitted_clause_distinct = (admitted_tables p c a).clause_distinct

  -- no 0 in a clause: clauses_no_zero of Decode/Laws.antt, for any words
  pub admitted_closed : length (clauses_of c) ≡ zeros c
  admitted_closed = (admitted_tables p c a).closed

  -- A word of a clause: in range, not 0, and listed.
  pub admitted_literal :
      (C : List ℤ) → Memᴰ C (clauses_of c) → (w : ℤ) → Memᴰ w C
      → (1 ≤ nat_abs w) × (nat_abs w ≤ 1024) × Memᴰ (nat_abs w) (listed (prefix_of p))
  admitted_literal C m w k =
      let z : w ≡ pos 0 → ⊥ = clauses_no_zero c C m w k in
      let i : Memᴰ w c = clause_word_lem c C m w k in
      (magnitude_positive w z, admitted_clause_word w i, admitted_clause_bound w i z)

  -- The formula that the tables denote is proper.
  pub admitted_proper : Proper (formula_of p c)
  admitted_proper =
      record {
        prefix_distinct = admitted_prefix_distinct;
        clause_distinct = λ C m. once C (mathlib.Core.List.Memᴰ.of_map clause_of (clauses_of c) m);
        clause_bound = λ C m l k. bound C (mathlib.Core.List.Memᴰ.of_map clause_of (clauses_of c) m) l k;
      }
    where
      once : (C : Clause) → ((D : List ℤ) × Memᴰ D (clauses_of c) × (clause_of D ≡ C)) → Distinct (variables C)
      once C t = rw (← t.2, clause_variables t.0) (admitted_clause_distinct t.0 t.1)

      of_word : (l : Literal) (D : List ℤ) → Memᴰ D (clauses_of c) → ((w : ℤ) × Memᴰ w D × (literal_of w ≡ l)) → Memᴰ l.variable (listed (prefix_of p))
      of_word l D m t = rw (← t.2, literal_variable t.0) (admitted_literal D m t.0 t.1).2

      bound :
          (C : Clause) → ((D : List ℤ) × Memᴰ D (clauses_of c) × (clause_of D ≡ C))
          → (l : Literal) → Memᴰ l C → Memᴰ l.variable (listed (prefix_of p))
      bound C t l k = of_word l t.0 t.1 (mathlib.Core.List.Memᴰ.of_map literal_of t.0 (subst (λ (E : Clause). Memᴰ l E) (sym t.2) k))
