-- What 01's entries answer of admitted tables is what they answer of the old prefix with the same entries; an admitted table and an old prefix that was
-- admitted come in pairs, each told by the other. Definitions: Signed. Assumes nothing.
use Rattle.std.specs.Prelude.{Err}
use Rattle.formula.specs.declared.refusal.Refusal.{Refusal}
use Rattle.std.specs.Prelude.{ℕ, zero, suc, ◌≤◌, ◌≡◌, refl, length, leb, ℤ, pos, negsuc, nat_abs}
use Rattle.std.proofs.Common.{ap, sym, ◌∙◌, not-suc-le-zero, arith}
use mathlib.Core.List.Memᴰ
use mathlib.Core.List.{List, [], ◌∷◌, map, Memᴰ}
use Rattle.std.proofs.lemmas.List.{length-map}
use Rattle.qbf.specs.Formula.{Quantifier, existential, universal, Entry, entry, Prefix, listed}
use Rattle.qbf.specs.Play.{lost}
use Rattle.formula.specs.Bounds.{variable_bound}
use Rattle.formula.specs.Refusal.{refusal, require}
use Rattle.formula.specs.Decode.{formula_of, matrix_of}
use Rattle.formula.specs.Prefix.{prefix_of, prefix_words, entry_count, AllRanged}
use Rattle.formula.specs.Prefix.Laws.{words_entries}
use Rattle.formula.specs.Tables.{first_refusal, Admitted}
use Rattle.formula.proofs.Theorems.Tables.Laws.{admitted_tables, tables_admitted, admitted_words}
use Rattle.formula.specs.Write.{text_of, written, if_room, writing_refusal}
use Rattle.formula.specs.declared.refusal.Reason.TheVariants.{Oversized}
use Rattle.dependency.specs.Answer.{asked_refusal, row_refusal, row_buffer}
use Rattle.inference.specs.Rules.{Rules}
use Rattle.checker.specs.Verdict.{if_admitted, scope_verdict, sized_verdict, verdict_of}
use Rattle.inference.specs.Scope.{scope_in}
use Rattle.evaluator.specs.Evaluation.{game_bound, verdict, after_tables, unset, evaluation_of}
use Rattle.signed.specs.Signed.{signed_entry, signed_prefix, signed_by, entry_word, signed_words, signed_formula, SignedTables}

-- A word's entry is of the word's magnitude, and so is an entry's word; words to entries and back.
entry_magnitude : (w : ℤ) → (signed_entry w).variable ≡ nat_abs w
entry_magnitude (pos v) = refl
entry_magnitude (negsuc n) = refl

word_magnitude : (q : Quantifier) (v : ℕ) → nat_abs (signed_by q v) ≡ v
word_magnitude existential v = refl
word_magnitude universal zero = refl
word_magnitude universal (suc n) = refl

entry_back : (q : Quantifier) (v : ℕ) → 1 ≤ v → signed_entry (signed_by q v) ≡ entry v q
entry_back existential v h = refl
entry_back universal zero h = absurd (not-suc-le-zero h)
entry_back universal (suc n) h = refl

word_back : (w : ℤ) → entry_word (signed_entry w) ≡ w
word_back (pos v) = refl
word_back (negsuc n) = refl

pub signed_words_lem : (ws : List ℤ) → signed_words (signed_prefix ws) ≡ ws
unfolding signed_prefix
signed_words_lem [] = refl
signed_words_lem (w ∷ ws) = λ i. word_back w i ∷ signed_words_lem ws i

-- There is no universal 0 to come back.
pub signed_entries : (P : Prefix) → AllRanged P → signed_prefix (signed_words P) ≡ P
unfolding signed_prefix
signed_entries [] h = refl
signed_entries (x ∷ P) h = λ i. entry_back x.quantifier x.variable (h x (Memᴰ.head refl)).0 i ∷ signed_entries P (λ y m. h y (Memᴰ.tail m)) i

-- The entries of words: how many, their variables and their ranges.
pub signed_length : (ws : List ℤ) → length (signed_prefix ws) ≡ length ws
unfolding signed_prefix
signed_length ws = length-map ws signed_entry

pub signed_listed : (ws : List ℤ) → listed (signed_prefix ws) ≡ map nat_abs ws
unfolding signed_prefix
signed_listed [] = refl
signed_listed (w ∷ ws) = λ i. entry_magnitude w i ∷ signed_listed ws i

signed_ranged : (old clauses : List ℤ) → SignedTables old clauses → AllRanged (signed_prefix old)
unfolding signed_prefix
signed_ranged old clauses s x m =
    let t = Memᴰ.of_map signed_entry old m in
    let e : nat_abs t.0 ≡ x.variable = sym (entry_magnitude t.0) ∙ ap (λ (y : Entry). y.variable) t.2 in
    rw e at (s.prefix_range t.0 t.1)

words_ranged : (P : Prefix) → AllRanged P → (w : ℤ) → Memᴰ w (signed_words P) → (1 ≤ nat_abs w) × (nat_abs w ≤ variable_bound)
words_ranged P h w m =
    let t = Memᴰ.of_map entry_word P m in
    let e : t.0.variable ≡ nat_abs w = sym (word_magnitude t.0.quantifier t.0.variable) ∙ ap nat_abs t.2 in
    rw e at (h t.0 t.1)

-- The same entries.
module _ (prefix clauses old : List ℤ) (a : Admitted prefix clauses) (same : prefix_of prefix ≡ signed_prefix old) where
  -- as many, each prefix told by the other, one formula
  pub count_same : entry_count prefix ≡ length old
  count_same = ap {B = ℕ} (λ (P : Prefix). length P) same ∙ signed_length old

  pub table_told : prefix ≡ prefix_words (signed_prefix old)
  table_told = sym (admitted_words prefix clauses a) ∙ ap prefix_words same

  pub old_told : old ≡ signed_words (prefix_of prefix)
  old_told = sym (signed_words_lem old) ∙ ap signed_words (sym same)

  pub formula_same : formula_of prefix clauses ≡ signed_formula old clauses
  formula_same = λ i. record { prefix = same i; matrix = matrix_of clauses }

  -- rows: refusals, and the row's buffer of `row` bytes
  pub row_refusal_same :
      (bytes : ℕ) (variable : ℤ) (row scratch : ℕ)
      → row_refusal bytes prefix clauses variable row scratch ≡ asked_refusal bytes (signed_prefix old) variable row scratch
  unfolding row_refusal
  row_refusal_same bytes variable row scratch = λ i. first_refusal (a.passes i) (asked_refusal bytes (same i) variable row scratch)

  pub row_same :
      (bytes : ℕ) (variable : ℤ) (row scratch : ℕ)
      → row_buffer (row_refusal bytes prefix clauses variable row scratch) (formula_of prefix clauses) (nat_abs variable) row
      ≡ row_buffer (asked_refusal bytes (signed_prefix old) variable row scratch) (signed_formula old clauses) (nat_abs variable) row
  row_same bytes variable row scratch = λ i. row_buffer (row_refusal_same bytes variable row scratch i) (formula_same i) (nat_abs variable) row

  -- verdicts, 17's two numbers too: the old prefix has its blocks by its entries
  pub verdict_same :
      (rules : Rules) (steps : List ℤ) (scratch room : ℕ)
      → verdict_of rules prefix clauses steps scratch room ≡ scope_verdict rules (scope_in (signed_formula old clauses)) clauses steps scratch room
  unfolding verdict_of sized_verdict
  verdict_same rules steps scratch room = λ i. if_admitted (a.passes i) (scope_verdict rules (scope_in (formula_same i)) clauses steps scratch room)

  -- texts: refusals, and what is written
  pub text_same : written prefix clauses ≡ text_of (signed_prefix old) clauses
  unfolding written
  text_same = λ i. text_of (same i) clauses

  pub text_refusal_same : (room : ℕ) → writing_refusal prefix clauses room ≡ if_room (leb (length (text_of (signed_prefix old) clauses)) room)
  unfolding writing_refusal
  text_refusal_same room = λ i. first_refusal (a.passes i) (if_room (leb (length (text_same i)) room))

  -- games
  pub game_same :
      evaluation_of prefix clauses
      ≡ require (leb (length old) game_bound) (Err (refusal Oversized 0)) (verdict (lost (signed_prefix old) unset (matrix_of clauses)))
  unfolding evaluation_of
  game_same = λ i. after_tables (a.passes i) (require (leb (count_same i) game_bound) (Err (refusal Oversized 0)) (verdict (lost (same i) unset (matrix_of clauses))))

-- An old prefix for each table, and a table for each old prefix.
pub table_signed :
    (prefix clauses : List ℤ) → Admitted prefix clauses
    → SignedTables (signed_words (prefix_of prefix)) clauses × (prefix_of prefix ≡ signed_prefix (signed_words (prefix_of prefix)))
table_signed prefix clauses a =
    let t = admitted_tables prefix clauses a in
    let e : signed_prefix (signed_words (prefix_of prefix)) ≡ prefix_of prefix = signed_entries (prefix_of prefix) t.prefix_range.ranged in
    let names : listed (prefix_of prefix) ≡ map nat_abs (signed_words (prefix_of prefix)) = ap listed (sym e) ∙ signed_listed (signed_words (prefix_of prefix)) in (
      record {
        prefix_length = omega (arith, t.prefix_length, length-map (prefix_of prefix) entry_word);
        clauses_length = t.clauses_length;
        count = t.count;
        prefix_range = words_ranged (prefix_of prefix) t.prefix_range.ranged;
        prefix_distinct = rw names at t.prefix_distinct;
        clause_range = t.clause_range;
        clause_bound = λ w m z. rw names at (t.clause_bound w m z);
        clause_distinct = t.clause_distinct;
        closed = t.closed;
      },
      sym e,
    )

pub signed_table :
    (old clauses : List ℤ) → SignedTables old clauses
    → Admitted (prefix_words (signed_prefix old)) clauses × (prefix_of (prefix_words (signed_prefix old)) ≡ signed_prefix old)
signed_table old clauses s =
    let r : AllRanged (signed_prefix old) = signed_ranged old clauses s in
    let e : prefix_of (prefix_words (signed_prefix old)) ≡ signed_prefix old = words_entries 0 0 (signed_prefix old) r in
    let names : listed (prefix_of (prefix_words (signed_prefix old))) ≡ map nat_abs old = ap listed e ∙ signed_listed old in (
      tables_admitted (prefix_words (signed_prefix old)) clauses
          (record {
            prefix_length = rw e (omega (arith, s.prefix_length, signed_length old));
            clauses_length = s.clauses_length;
            count = s.count;
            prefix_table = ap prefix_words e;
            prefix_range = record { ranged = rw e r };
            prefix_distinct = rw names s.prefix_distinct;
            clause_range = s.clause_range;
            clause_bound = λ w m z. rw names (s.clause_bound w m z);
            clause_distinct = s.clause_distinct;
            closed = s.closed;
          }),
      e,
    )
