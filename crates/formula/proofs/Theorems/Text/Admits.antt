-- What is read is admitted: the words that a text is read as, with the completed prefix, pass the check of tables, and C is their number
-- of clauses. A property of each state is kept by every token. Assumes nothing.
use Rattle.std.specs.Prelude.{ℕ, zero, suc, ◌+◌, ◌*◌, ◌%◌, ◌≤◌, ◌<◌, ◌≡◌, refl, Bool, true, false, ◌||◌, length, leb, ltb, eqb, ℤ, pos}
use Rattle.std.proofs.Common.{ap, sym, ◌∙◌, arith, ltb-true, ltb-false, leb-true, le-leb, eq-eqb, ne_eqb, length-append}
use Rattle.std.proofs.Math.Bool.{or-true, or-false}
use Rattle.std.proofs.lemmas.Bool.{false≢true}
use Rattle.std.proofs.Math.Option.{Option, none, some}
use mathlib.Core.List.Memᴰ
use mathlib.Core.List.{List, [], ◌∷◌, ◌++◌, append_assoc, append-nil}
use Rattle.std.proofs.Math.Decide.{ℕ_discrete}
use Rattle.formula.specs.Bounds.{variable_bound, prefix_bound, count_bound, matrix_bound, text_bound}
use Rattle.qbf.specs.Formula.{Quantifier, entry, Prefix, listed}
use Rattle.formula.specs.Word.{word_of, signed}
use Rattle.formula.specs.Prefix.{prefix_of, prefix_words, entry_fits, entry_words}
use Rattle.formula.specs.Prefix.Laws.{words_entries, words_length}
use Rattle.formula.specs.Refusal.{refusal, require, unless}
use Rattle.formula.specs.Tables.{
  is_in,
  zeros,
  prefix_refusal,
  literal_word,
  clause_word,
  clauses_refusal,
  words_refusal,
  tables_refusal,
  Admitted,
}
use Rattle.formula.proofs.Theorems.Tables.Laws.{words_pass}
use Rattle.scanner.specs.Token.{Token, same, p_text, cnf_text, a_text, e_text, Number, natural, negative, no_number, number_of, tokens}
use Rattle.formula.specs.Text.{Reading, read, refused, State, wantsP, wantsCnf, wantsV, wants_c, between_sets, in_set, clauses, stopped, open_clause, open_from, is_open, header_number, opens, set_token, put_literal, clause_token, clauses_token, at_end, clauses_ending, tables_ending, step, run, ending, reading}
use Rattle.formula.specs.Text.Laws.{variable_fine, literal_fine, closing_fine}
use Rattle.formula.specs.Text.Distinct.{PrefixFine}
use Rattle.formula.proofs.Theorems.Text.Distinct.{prefix_empty, prefix_more, completed_fine, fine_ranged, fine_few, apart_distinct}
use Rattle.formula.specs.Free.{occurs, completed}
use Rattle.formula.proofs.Theorems.Free.Laws.{completed_lists}
use Rattle.formula.proofs.Theorems.Text.Clauses.Laws.{open_literal, open_closing, zeros_literal, zeros_closing, occurs_literal, occurs_closing}
use Rattle.formula.specs.declared.refusal.Reason.TheVariants.{Headless, Oversized, NoRoom, BadToken, Miscount}
use Rattle.formula.specs.declared.refusal.Reason.{Reason}
use Rattle.formula.specs.declared.refusal.Refusal.{Refusal}

-- A variable with a sign within the range as a word of a clause.
clause_word_lem : (known : ℕ → Bool) (at : ℕ) (seen : List ℕ) (positive : Bool) (n : ℕ) (next : List ℕ → Option Refusal) → (n ≡ 0 → ⊥) → n ≤ variable_bound → clause_word known at seen (word_of (signed positive n)) next ≡ literal_word at (known n) (is_in n seen) (next (n ∷ seen))
unfolding word_of
clause_word_lem known at seen positive zero next z h = absurd (z refl)
clause_word_lem known at seen true (suc n) next z h = rw (le-leb (suc n) variable_bound h)
clause_word_lem known at seen false (suc n) next z h = rw (le-leb (suc n) variable_bound h)

length_snoc : (ws : List ℤ) (w : ℤ) → length (ws ++ (w ∷ [])) ≡ length ws + 1
length_snoc ws w = length-append ws (w ∷ [])

-- The clause words pass for whatever prefix has their variables: what follows them is checked with the open clause as seen.
pub record ClausesPass (v c : ℕ) (words : List ℤ) : Type 0 where
  pub passes :
      (known : ℕ → Bool) → ((n : ℕ) → 1 ≤ n → occurs n words ≡ true → known n ≡ true)
      → (rest : List ℤ) → clauses_refusal known 0 [] (words ++ rest) ≡ clauses_refusal known (length words) (open_clause words) rest
  pub ranged : (n : ℕ) → 1 ≤ n → occurs n words ≡ true → n ≤ v
  pub short : length words ≤ matrix_bound
  pub few : zeros words ≤ c

clauses_empty : (v c : ℕ) → ClausesPass v c []
unfolding open_from zeros occurs
clauses_empty v c =
    record {
      passes = λ known h rest. refl;
      ranged = λ n l e. absurd (false≢true e);
      short = omega arith;
      few = omega arith;
    }

clauses_literal : (v c : ℕ) (words : List ℤ) (positive : Bool) (n : ℕ) → v ≤ variable_bound → ClausesPass v c words → 1 ≤ n → n ≤ v → is_in n (open_clause words) ≡ false → length words < matrix_bound → ClausesPass v c (words ++ (signed positive n ∷ []))
unfolding clauses_refusal
clauses_literal v c words positive n b K l h apart k =
    record {
      passes = λ known has rest.
          let before : (m : ℕ) → 1 ≤ m → occurs m words ≡ true → known m ≡ true = λ m i o. has m i (occurs_literal m words positive n ∙ rw o) in
          let own : known n ≡ true = has n l (occurs_literal n words positive n ∙ rw (eq-eqb n n refl) (or-true (occurs n words))) in
          rw (append_assoc, K.passes known before (signed positive n ∷ rest), clause_word_lem known (length words) (open_clause words) positive n (λ seen. clauses_refusal known (length words + 1) seen rest) proper (omega (arith, b, h)), own, apart, length_snoc words (signed positive n), open_literal [] words positive n proper);
      ranged = λ m i o. range m i (rw (occurs_literal m words positive n) at o) (ℕ_discrete m n);
      short = rw (length_snoc words (signed positive n)) (omega arith);
      few = rw (zeros_literal words positive n proper) K.few;
    }
  where
    proper : n ≡ 0 → ⊥
    proper z = omega (arith, l, z)

    range : (m : ℕ) → 1 ≤ m → (occurs m words || eqb m n) ≡ true → Dec (m ≡ n) → m ≤ v
    range m i o (yes q) = omega (arith, q, h)
    range m i o (no q) = K.ranged m i (sym (or-false (occurs m words)) ∙ rw (ne_eqb m n q) at o)

clauses_closing : (v c : ℕ) (words : List ℤ) → ClausesPass v c words → zeros words < c → length words < matrix_bound → ClausesPass v c (words ++ (pos 0 ∷ []))
unfolding clauses_refusal word_of
clauses_closing v c words K k l =
    record {
      passes = λ known has rest.
          rw (append_assoc, K.passes known (λ n i o. has n i (occurs_closing n words i ∙ o)) (pos 0 ∷ rest), length_snoc words (pos 0), open_closing [] words);
      ranged = λ n i o. K.ranged n i (sym (occurs_closing n words i) ∙ o);
      short = rw (length_snoc words (pos 0)) (omega arith);
      few = rw (zeros_closing words) k;
    }

-- What every token keeps.
abbrev pub Sound : State → Type 0
Sound wantsP = Unit {0}
Sound wantsCnf = Unit {0}
Sound wantsV = Unit {0}
Sound (wants_c v) = v ≤ variable_bound
Sound (between_sets v c P) = (v ≤ variable_bound) × (c ≤ count_bound) × PrefixFine v P
Sound (in_set v c q filled P) = (v ≤ variable_bound) × (c ≤ count_bound) × PrefixFine v P
Sound (clauses v c P words) =
    (v ≤ variable_bound) × (c ≤ count_bound) × PrefixFine v P × ClausesPass v c words
Sound (stopped p r) = Unit {0}

unless_sound : (at : ℕ) (x : Option Reason) (s : State) → (x ≡ none → Sound s) → Sound (unless (stopped at) x s)
unless_sound at (some r) s h = tt
unless_sound at none s h = h refl

require_sound : (b : Bool) (at : ℕ) (r : Reason) (s : State) → (b ≡ true → Sound s) → Sound (require b (stopped at r) s)
require_sound true at r s h = h refl
require_sound false at r s h = tt

number_sound : (bound at : ℕ) (m : Number) (next : ℕ → State) → ((n : ℕ) → n ≤ bound → Sound (next n)) → Sound (header_number bound at m next)
number_sound bound at (natural n) next h = require_sound (leb n bound) at Oversized (next n) (λ e. h n (leb-true n bound e))
number_sound bound at (negative n) next h = tt
number_sound bound at no_number next h = tt

module _ (prefixRoom clauseRoom : ℕ) where
  set_sound : (at v c : ℕ) (q : Quantifier) (filled : Bool) (P : Prefix) (m : Number) → (v ≤ variable_bound) × (c ≤ count_bound) × PrefixFine v P → Sound (set_token prefixRoom clauseRoom at v c q filled P m)
  set_sound at v c q filled P (natural zero) h =
      require_sound filled at BadToken (between_sets v c P) (λ e. h)
  set_sound at v c q filled P (natural (suc n)) h =
      unless_sound at _ (in_set v c q true (P ++ (entry (suc n) q ∷ []))) λ e.
      let f = variable_fine v (suc n) (is_in (suc n) (listed P)) (entry_fits prefixRoom (length P)) e in
      (h.0, h.1, prefix_more v P q (suc n) h.2 (omega arith) f.in_range f.fresh)
  set_sound at v c q filled P (negative n) h = tt
  set_sound at v c q filled P no_number h = tt

  literal_sound : (at v c : ℕ) (P : Prefix) (words : List ℤ) (positive : Bool) (n : ℕ) → Sound (clauses v c P words) → Sound (put_literal prefixRoom clauseRoom at v c P words positive n)
  literal_sound at v c P words positive n h =
      unless_sound at _ (clauses v c P (words ++ (signed positive n ∷ []))) λ e.
      let f = literal_fine v n (is_in n (open_clause words)) (length words) clauseRoom e in
      (h.0, h.1, h.2, clauses_literal v c words positive n h.0 h.3 f.least f.in_range f.apart f.short)

  clause_sound : (at v c : ℕ) (P : Prefix) (words : List ℤ) (m : Number) → zeros words < c → Sound (clauses v c P words) → Sound (clause_token prefixRoom clauseRoom at v c P words m)
  clause_sound at v c P words (natural zero) k h =
      unless_sound at _ (clauses v c P (words ++ (pos 0 ∷ []))) λ e.
      let f = closing_fine (length words) clauseRoom e in
      (h.0, h.1, h.2, clauses_closing v c words h.3 k f.short)
  clause_sound at v c P words (natural (suc n)) k h = literal_sound at v c P words true (suc n) h
  clause_sound at v c P words (negative n) k h = literal_sound at v c P words false n h
  clause_sound at v c P words no_number k h = tt

  clauses_sound : (at v c : ℕ) (P : Prefix) (words : List ℤ) (m : Number) → Sound (clauses v c P words) → Sound (clauses_token prefixRoom clauseRoom at v c P words m)
  clauses_sound at v c P words m h =
      require_sound (ltb (zeros words) c) at Miscount (clause_token prefixRoom clauseRoom at v c P words m)
      (λ e. clause_sound at v c P words m (ltb-true (zeros words) c e) h)

  opens_sound : (e a : Bool) (v c : ℕ) (P : Prefix) (later : State) → (v ≤ variable_bound) × (c ≤ count_bound) × PrefixFine v P → Sound later → Sound (opens e a v c P later)
  opens_sound true a v c P later h k = h
  opens_sound false true v c P later h k = h
  opens_sound false false v c P later h k = k

  step_sound : (s : State) (t : Token) → Sound s → Sound (step prefixRoom clauseRoom s t)
  unfolding step
  step_sound wantsP t h = require_sound (same t.bytes p_text) t.place Headless wantsCnf (λ e. tt)
  step_sound wantsCnf t h = require_sound (same t.bytes cnf_text) t.place Headless wantsV (λ e. tt)
  step_sound wantsV t h = number_sound variable_bound t.place (number_of t.bytes) wants_c (λ n k. k)
  step_sound (wants_c v) t h =
      number_sound count_bound t.place (number_of t.bytes) (λ c. between_sets v c []) (λ n k. (h, k, prefix_empty v))
  step_sound (between_sets v c P) t h =
      opens_sound (same t.bytes e_text) (same t.bytes a_text) v c P (clauses_token prefixRoom clauseRoom t.place v c P [] (number_of t.bytes)) h (clauses_sound t.place v c P [] (number_of t.bytes) (h.0, h.1, h.2, clauses_empty v c))
  step_sound (in_set v c q filled P) t h = set_sound t.place v c q filled P (number_of t.bytes) h
  step_sound (clauses v c P words) t h = clauses_sound t.place v c P words (number_of t.bytes) h
  step_sound (stopped p r) t h = tt

  pub run_sound : (s : State) (ts : List Token) → Sound s → Sound (run prefixRoom clauseRoom s ts)
  unfolding run
  run_sound s [] h = h
  run_sound s (t ∷ ts) h = run_sound (step prefixRoom clauseRoom s t) ts (step_sound s t h)

-- Entries that list different variables pass the check as words, and are the entries of these.
fine_passes : (v : ℕ) (P : Prefix) → v ≤ variable_bound → PrefixFine v P → prefix_refusal 0 [] 0 0 (prefix_words P) ≡ none
fine_passes v P h F =
    words_pass 0 [] 0 0 P (omega (arith, fine_few v P F))
    (record { range = fine_ranged v P h F; distinct = apart_distinct (listed P) F.apart; fresh = λ n m k. Memᴰ.not-nil m })

pub fine_entries : (v : ℕ) (P : Prefix) → v ≤ variable_bound → PrefixFine v P → prefix_of (prefix_words P) ≡ P
fine_entries v P h F = words_entries 0 0 P (fine_ranged v P h F)

-- The completed tables, with no clause open, are admitted.
admits : (v c : ℕ) (P : Prefix) (words : List ℤ) → Sound (clauses v c P words) → open_clause words ≡ [] → Admitted (prefix_words (completed v P words)) words
unfolding tables_refusal words_refusal clauses_refusal entry_words
admits v c P words h e =
    let Q : Prefix = completed v P words in
    let F = completed_fine v v P words (omega arith) h.2 in
    let K = h.3 in
    let long : length (prefix_words Q) ≡ 3 * length Q = words_length Q in
    let a : leb (length (prefix_words Q)) prefix_bound ≡ true = le-leb (length (prefix_words Q)) prefix_bound (omega (arith, long, fine_few v Q F, h.0)) in
    let t : eqb (length (prefix_words Q) % 3) 0 ≡ true = eq-eqb (length (prefix_words Q) % 3) 0 (omega (arith, long)) in
    let b : leb (length words) matrix_bound ≡ true = le-leb (length words) matrix_bound K.short in
    let d : leb (zeros words) count_bound ≡ true = le-leb (zeros words) count_bound (omega (arith, K.few, h.1)) in
    let p : prefix_refusal 0 [] 0 0 (prefix_words Q) ≡ none = fine_passes v Q h.0 F in
    let has : (n : ℕ) → 1 ≤ n → occurs n words ≡ true → is_in n (listed Q) ≡ true = λ n l o. completed_lists v P words n l (K.ranged n l o) o in
    let q : clauses_refusal (λ m. is_in m (listed Q)) 0 [] words ≡ none = rw e at (rw append-nil at (K.passes (λ m. is_in m (listed Q)) has [])) in
    record { passes = rw (a, b, d, t, p) (ap (λ (R : Prefix). clauses_refusal (λ m. is_in m (listed R)) 0 [] words) (fine_entries v Q h.0 F) ∙ q) }

pub record ReadAdmitted (prefix words : List ℤ) (count : ℕ) : Type 0 where
  pub admitted : Admitted prefix words
  pub counted : count ≡ zeros words

same_read : (prefix words p w : List ℤ) (c n : ℕ) → read prefix words c ≡ read p w n → ReadAdmitted prefix words c → ReadAdmitted p w n
same_read prefix words p w c n e h =
    let a : prefix ≡ p = cc in
    let b : words ≡ w = cc in
    let d : c ≡ n = cc in
    record { admitted = rw (← a, ← b) h.admitted; counted = rw (← b, ← d) h.counted }

-- A refusal is no reading.
not_refused : (r : Refusal) (p w : List ℤ) (n : ℕ) → refused r ≡ read p w n → ReadAdmitted p w n
not_refused r p w n e = let z : ◌≡◌ {A = ℕ} 0 1 = cc in absurd (omega arith)

clauses_admitted : (prefixRoom : ℕ) (text : List ℕ) (v c : ℕ) (P : Prefix) (words p w : List ℤ) (n : ℕ) → Sound (clauses v c P words) → tables_ending prefixRoom text v c P words ≡ read p w n → ReadAdmitted p w n
clauses_admitted prefixRoom text v c P words p w n h e = go (open_clause words) (ltb (zeros words) c) (leb (length (prefix_words (completed v P words))) prefixRoom) refl refl e
  where
    abbreviated : Reading
    abbreviated = read (prefix_words (completed v P words)) words c

    go :
        (o : List ℕ) (m f : Bool) → open_clause words ≡ o → ltb (zeros words) c ≡ m
        → clauses_ending text (is_open o) m (require f (refused (at_end text NoRoom)) abbreviated) ≡ read p w n → ReadAdmitted p w n
    go (x ∷ xs) m f i g k = not_refused _ p w n k
    go [] true f i g k = not_refused _ p w n k
    go [] false false i g k = not_refused _ p w n k
    go [] false true i g k =
        let q : c ≤ zeros words = ltb-false (zeros words) c g in
        same_read (prefix_words (completed v P words)) words p w c n k (record { admitted = admits v c P words h i; counted = omega (arith, h.3.few) })

ending_admitted : (prefixRoom : ℕ) (text : List ℕ) (s : State) (p w : List ℤ) (n : ℕ) → Sound s → ending prefixRoom text s ≡ read p w n → ReadAdmitted p w n
unfolding ending
ending_admitted prefixRoom text wantsP p w n h e = not_refused _ p w n e
ending_admitted prefixRoom text wantsCnf p w n h e = not_refused _ p w n e
ending_admitted prefixRoom text wantsV p w n h e = not_refused _ p w n e
ending_admitted prefixRoom text (wants_c v) p w n h e = not_refused _ p w n e
ending_admitted prefixRoom text (between_sets v c P) p w n h e =
    clauses_admitted prefixRoom text v c P [] p w n (h.0, h.1, h.2, clauses_empty v c) e
ending_admitted prefixRoom text (in_set v c q filled P) p w n h e = not_refused _ p w n e
ending_admitted prefixRoom text (clauses v c P words) p w n h e = clauses_admitted prefixRoom text v c P words p w n h e
ending_admitted prefixRoom text (stopped q r) p w n h e = not_refused _ p w n e

-- What is read passes the check of tables, and C is the number of its clauses.
pub read_admitted : (text : List ℕ) (prefixRoom clauseRoom : ℕ) (prefix words : List ℤ) (count : ℕ) → reading text prefixRoom clauseRoom ≡ read prefix words count → ReadAdmitted prefix words count
unfolding reading
read_admitted text prefixRoom clauseRoom prefix words count e = go (leb (length text) text_bound) e
  where
    go : (b : Bool) → require b (refused (refusal Oversized 0)) (ending prefixRoom text (run prefixRoom clauseRoom wantsP (tokens text))) ≡ read prefix words count → ReadAdmitted prefix words count
    go true f = ending_admitted prefixRoom text _ prefix words count (run_sound prefixRoom clauseRoom wantsP (tokens text) tt) f
    go false f = not_refused _ prefix words count f
