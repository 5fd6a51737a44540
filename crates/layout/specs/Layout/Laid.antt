-- Texts that are read are laid out: what the tokens so far are, state by state of the reader. Assumes nothing.
use Prim.Native.Nat.{ℕ, zero, suc, ◌≤◌, ◌<◌}
use Rattle.std.specs.Prelude.{◌≡◌, Bool, ◌⊎◌, leb, ltb, ℤ, pos, nat_abs, length}
use Rattle.std.proofs.Math.Path.{refl, sym}
use Rattle.std.proofs.Common.{ap, ◌∙◌, inl, inr, arith, length-append}
use Rattle.std.proofs.Math.Bool.{true, false}
use Rattle.std.proofs.Math.Option.{Option, none, some}
use mathlib.Core.List.Memᴰ
use mathlib.Core.List.{List, [], ◌∷◌, ◌++◌, map, flat_map, append_assoc, append-nil, map-append, Memᴰ}
use Rattle.qbf.specs.Formula.{Quantifier, existential, universal, entry, Prefix, listed}
use Rattle.formula.specs.Bounds.{variable_bound, count_bound}
use Rattle.formula.specs.Decimal.{decimal}
use Rattle.formula.specs.Prefix.{entry_fits}
use Rattle.formula.specs.Refusal.{require, unless}
use Rattle.formula.specs.Tables.{is_in, zeros}
use Rattle.formula.specs.Text.{
  State,
  wantsP,
  wantsCnf,
  wantsV,
  wants_c,
  between_sets,
  in_set,
  clauses,
  stopped,
  open_clause,
  header_number,
  variable_reason,
  literal_reason,
  closing_reason,
  opens,
  set_token,
  put_literal,
  clause_token,
  clauses_token,
  step,
  run,
}
use Rattle.formula.proofs.Theorems.Text.Clauses.Laws.{signed_magnitude}
use Rattle.formula.specs.Text.Laws.{literal_fine, closing_fine}
use Rattle.scanner.specs.Token.{Token, same, p_text, cnf_text, e_text, a_text, Number, natural, negative, no_number, number_of}
use Rattle.formula.specs.Word.{signed}
use Rattle.formula.specs.Write.{letter_of, literal_text}
use Rattle.formula.specs.declared.refusal.Reason.{Reason}
use Rattle.formula.specs.declared.refusal.Reason.TheVariants.{Headless, Oversized, BadToken, Miscount}
use Rattle.layout.specs.Layout.{QuantifierSet, set_tokens, Sets, set_entries, entries_of}
use Rattle.layout.specs.Layout.Numbers.{same_bytes, natural_is, negative_is}
use Rattle.layout.specs.Layout.Pieces.{bytes_of}

abbrev pub header_tokens : ℕ → ℕ → List (List ℕ)
header_tokens v c = p_text ∷ cnf_text ∷ decimal v ∷ decimal c ∷ []

-- The tokens so far, between sets, in a set, among the clauses.
pub record SetsTold (v c : ℕ) (P : Prefix) (done : List (List ℕ)) : Type 0 where
  pub sets : List QuantifierSet
  pub told : done ≡ header_tokens v c ++ flat_map set_tokens sets
  pub entries : P ≡ entries_of sets
  pub its_sets : Sets sets

pub record SetTold (v c : ℕ) (q : Quantifier) (full : Bool) (P : Prefix) (done : List (List ℕ)) : Type 0 where
  pub sets : List QuantifierSet
  pub variables : List ℕ
  pub told : done ≡ header_tokens v c ++ (flat_map set_tokens sets ++ ((letter_of q ∷ []) ∷ map decimal variables))
  pub entries : P ≡ entries_of sets ++ map (λ (n : ℕ). entry n q) variables
  pub its_sets : Sets sets
  pub some_listed : full ≡ true → 1 ≤ length variables
  pub positive : (n : ℕ) → Memᴰ n variables → 1 ≤ n

pub record ClausesTold (clauseRoom v c : ℕ) (P : Prefix) (words : List ℤ) (done : List (List ℕ)) : Type 0 where
  pub sets : List QuantifierSet
  pub told : done ≡ header_tokens v c ++ (flat_map set_tokens sets ++ map literal_text words)
  pub entries : P ≡ entries_of sets
  pub its_sets : Sets sets
  pub range : (w : ℤ) → Memᴰ w words → nat_abs w ≤ v
  pub room : length words ≤ clauseRoom

abbrev pub Told : (clauseRoom : ℕ) → State → List (List ℕ) → Type 0
Told clauseRoom wantsP done = done ≡ []
Told clauseRoom wantsCnf done = done ≡ p_text ∷ []
Told clauseRoom wantsV done = done ≡ p_text ∷ cnf_text ∷ []
Told clauseRoom (wants_c v) done = done ≡ p_text ∷ cnf_text ∷ decimal v ∷ []
Told clauseRoom (between_sets v c P) done = SetsTold v c P done
Told clauseRoom (in_set v c q full P) done = SetTold v c q full P done
Told clauseRoom (clauses v c P words) done = ClausesTold clauseRoom v c P words done
Told clauseRoom (stopped at r) done = Unit {0}

-- Before the first clause token the reader is still among the sets.
pub sets_told : (clauseRoom v c : ℕ) (P : Prefix) (done : List (List ℕ)) → SetsTold v c P done → ClausesTold clauseRoom v c P [] done
sets_told clauseRoom v c P done T =
    record { sets = T.sets; told = T.told ∙ ap {B = List (List ℕ)} (λ r. header_tokens v c ++ r) (sym (append-nil (flat_map set_tokens T.sets))); entries = T.entries; its_sets = T.its_sets; range = λ w m. absurd (Memᴰ.not-nil m); room = omega arith }

-- One more: in a list of lists joined, in a list of sets.
flat_snoc : {A B : Type 0} (f : A → List B) (xs : List A) (x : A) → flat_map f (xs ++ (x ∷ [])) ≡ flat_map f xs ++ f x
unfolding flat_map
flat_snoc f [] x = append-nil (f x)
flat_snoc f (y ∷ xs) x = rw (flat_snoc f xs x) (sym (append_assoc (f y) (flat_map f xs) (f x)))

sets_snoc : (sets : List QuantifierSet) (s : QuantifierSet) → Sets sets → 1 ≤ length s.variables → ((n : ℕ) → Memᴰ n s.variables → 1 ≤ n) → Sets (sets ++ (s ∷ []))
sets_snoc [] s h l k = (l, k, tt)
sets_snoc (t ∷ sets) s h l k = (h.0, h.1, sets_snoc sets s h.2 l k)

-- A token behind three parts.
behind : (A B C : List (List ℕ)) (t : List ℕ) → (A ++ (B ++ C)) ++ (t ∷ []) ≡ A ++ (B ++ (C ++ (t ∷ [])))
behind A B C t = append_assoc A (B ++ C) (t ∷ []) ∙ ap {B = List (List ℕ)} (λ r. A ++ r) (append_assoc B C (t ∷ []))

module _ (prefixRoom clauseRoom : ℕ) where
  require_told : (b : Bool) (at : ℕ) (r : Reason) (s : State) (done : List (List ℕ)) → (b ≡ true → Told clauseRoom s done) → Told clauseRoom (require b (stopped at r) s) done
  require_told true at r s done h = h refl
  require_told false at r s done h = tt

  unless_told : (at : ℕ) (x : Option Reason) (s : State) (done : List (List ℕ)) → (x ≡ none → Told clauseRoom s done) → Told clauseRoom (unless (stopped at) x s) done
  unless_told at (some r) s done h = tt
  unless_told at none s done h = h refl

  number_told :
      (bound at : ℕ) (m : Number) (next : ℕ → State) (done : List (List ℕ)) → ((n : ℕ) → m ≡ natural n → Told clauseRoom (next n) done) → Told clauseRoom (header_number bound at m next) done
  number_told bound at (natural n) next done h = require_told (leb n bound) at Oversized (next n) done (λ e. h n refl)
  number_told bound at (negative n) next done h = tt
  number_told bound at no_number next done h = tt

  -- A token of a set.
  close_told : (v c : ℕ) (q : Quantifier) (P : Prefix) (done : List (List ℕ)) (bytes : List ℕ) → SetTold v c q true P done → bytes ≡ decimal 0 → SetsTold v c P (done ++ (bytes ∷ []))
  close_told v c q P done bytes T e =
      let s : QuantifierSet = record { quantifier = q; variables = T.variables } in
      record {
        sets = T.sets ++ (s ∷ []);
        told = rw (e, T.told) (behind (header_tokens v c) (flat_map set_tokens T.sets) ((letter_of q ∷ []) ∷ map decimal T.variables) (decimal 0) ∙ ap {B = List (List ℕ)} (λ r. header_tokens v c ++ r) (sym (flat_snoc set_tokens T.sets s)));
        entries = T.entries ∙ sym (flat_snoc set_entries T.sets s);
        its_sets = sets_snoc T.sets s T.its_sets (T.some_listed refl) T.positive;
      }

  list_told :
      (v c : ℕ) (q : Quantifier) (full : Bool) (P : Prefix) (done : List (List ℕ)) (bytes : List ℕ) (n : ℕ) → SetTold v c q full P done → bytes ≡ decimal n → 1 ≤ n
      → SetTold v c q true (P ++ (entry n q ∷ [])) (done ++ (bytes ∷ []))
  list_told v c q full P done bytes n T e l =
      record {
        sets = T.sets;
        variables = T.variables ++ (n ∷ []);
        told = rw (e, T.told, map-append decimal T.variables (n ∷ [])) (behind (header_tokens v c) (flat_map set_tokens T.sets) ((letter_of q ∷ []) ∷ map decimal T.variables) (decimal n));
        entries = rw (T.entries, map-append (λ (k : ℕ). entry k q) T.variables (n ∷ [])) (append_assoc (entries_of T.sets) (map (λ (k : ℕ). entry k q) T.variables) (entry n q ∷ []));
        its_sets = T.its_sets;
        some_listed = λ h. omega (arith, length-append T.variables (n ∷ []));
        positive = λ m k. own m (Memᴰ.append_cases T.variables k);
      }
    where
      own : (m : ℕ) → Memᴰ m T.variables ⊎ Memᴰ m (n ∷ []) → 1 ≤ m
      own m (inl k) = T.positive m k
      own m (inr k) = omega (arith, l, Memᴰ.eq_of_singleton k)

  set_told :
      (at v c : ℕ) (q : Quantifier) (full : Bool) (P : Prefix) (done : List (List ℕ)) (bytes : List ℕ) (m : Number) → number_of bytes ≡ m → SetTold v c q full P done
      → Told clauseRoom (set_token prefixRoom clauseRoom at v c q full P m) (done ++ (bytes ∷ []))
  set_told at v c q full P done bytes (natural zero) e T =
      require_told full at BadToken (between_sets v c P) (done ++ (bytes ∷ [])) (λ f. close_told v c q P done bytes (rw f at T) (natural_is bytes 0 e))
  set_told at v c q full P done bytes (natural (suc n)) e T =
      unless_told at (variable_reason v (suc n) (is_in (suc n) (listed P)) (entry_fits prefixRoom (length P))) (in_set v c q true (P ++ (entry (suc n) q ∷ []))) (done ++ (bytes ∷ []))
      (λ x. list_told v c q full P done bytes (suc n) T (natural_is bytes (suc n) e) (omega arith))
  set_told at v c q full P done bytes (negative n) e T = tt
  set_told at v c q full P done bytes no_number e T = tt

  -- A token of a clause.
  word_told :
      (v c : ℕ) (P : Prefix) (words : List ℤ) (done : List (List ℕ)) (bytes : List ℕ) (w : ℤ) → ClausesTold clauseRoom v c P words done → bytes ≡ literal_text w → nat_abs w ≤ v → length words < clauseRoom
      → ClausesTold clauseRoom v c P (words ++ (w ∷ [])) (done ++ (bytes ∷ []))
  word_told v c P words done bytes w T e l h =
      record {
        sets = T.sets;
        told = rw (e, T.told, map-append literal_text words (w ∷ [])) (behind (header_tokens v c) (flat_map set_tokens T.sets) (map literal_text words) (literal_text w));
        entries = T.entries;
        its_sets = T.its_sets;
        range = λ u m. own u (Memᴰ.append_cases words m);
        room = omega (arith, h, length-append words (w ∷ []));
      }
    where
      own : (u : ℤ) → Memᴰ u words ⊎ Memᴰ u (w ∷ []) → nat_abs u ≤ v
      own u (inl k) = T.range u k
      own u (inr k) = rw (Memᴰ.eq_of_singleton k) l

  literal_told :
      (at v c : ℕ) (P : Prefix) (words : List ℤ) (done : List (List ℕ)) (bytes : List ℕ) (positive : Bool) (n : ℕ) → ClausesTold clauseRoom v c P words done → bytes ≡ literal_text (signed positive n)
      → Told clauseRoom (put_literal prefixRoom clauseRoom at v c P words positive n) (done ++ (bytes ∷ []))
  literal_told at v c P words done bytes positive n T e =
      unless_told at (literal_reason v n (is_in n (open_clause words)) (length words) clauseRoom) (clauses v c P (words ++ (signed positive n ∷ []))) (done ++ (bytes ∷ []))
      (λ x.
      let f = literal_fine v n (is_in n (open_clause words)) (length words) clauseRoom x in
      word_told v c P words done bytes (signed positive n) T e (rw (signed_magnitude positive n) f.in_range) f.fits)

  minus_text : (n : ℕ) → 1 ≤ n → 45 ∷ decimal n ≡ literal_text (signed false n)
  unfolding literal_text
  minus_text zero h = absurd (omega arith)
  minus_text (suc n) h = refl

  plain_text : (n : ℕ) → decimal n ≡ literal_text (pos n)
  unfolding literal_text
  plain_text n = refl

  clause_told :
      (at v c : ℕ) (P : Prefix) (words : List ℤ) (done : List (List ℕ)) (bytes : List ℕ) (m : Number) → number_of bytes ≡ m → ClausesTold clauseRoom v c P words done
      → Told clauseRoom (clause_token prefixRoom clauseRoom at v c P words m) (done ++ (bytes ∷ []))
  clause_told at v c P words done bytes (natural zero) e T =
      unless_told at (closing_reason (length words) clauseRoom) (clauses v c P (words ++ (pos 0 ∷ []))) (done ++ (bytes ∷ []))
      (λ x. word_told v c P words done bytes (pos 0) T (natural_is bytes 0 e ∙ plain_text 0) (omega arith) (closing_fine (length words) clauseRoom x).fits)
  clause_told at v c P words done bytes (natural (suc n)) e T = literal_told at v c P words done bytes true (suc n) T (natural_is bytes (suc n) e ∙ plain_text (suc n))
  clause_told at v c P words done bytes (negative n) e T =
      let k = negative_is bytes n e in
      literal_told at v c P words done bytes false n T (k.0 ∙ minus_text n k.1)
  clause_told at v c P words done bytes no_number e T = tt

  clauses_told :
      (at v c : ℕ) (P : Prefix) (words : List ℤ) (done : List (List ℕ)) (bytes : List ℕ) → ClausesTold clauseRoom v c P words done
      → Told clauseRoom (clauses_token prefixRoom clauseRoom at v c P words (number_of bytes)) (done ++ (bytes ∷ []))
  clauses_told at v c P words done bytes T =
      require_told (ltb (zeros words) c) at Miscount (clause_token prefixRoom clauseRoom at v c P words (number_of bytes)) (done ++ (bytes ∷ []))
      (λ e. clause_told at v c P words done bytes (number_of bytes) refl T)

  -- A letter opens a set.
  open_told :
      (v c : ℕ) (P : Prefix) (done : List (List ℕ)) (bytes : List ℕ) (q : Quantifier) → SetsTold v c P done → bytes ≡ letter_of q ∷ [] → SetTold v c q false P (done ++ (bytes ∷ []))
  open_told v c P done bytes q T e =
      record {
        sets = T.sets;
        variables = [];
        told = rw (e, T.told) (append_assoc (header_tokens v c) (flat_map set_tokens T.sets) ((letter_of q ∷ []) ∷ []));
        entries = T.entries ∙ sym (append-nil (entries_of T.sets));
        its_sets = T.its_sets;
        some_listed = λ f. let z : ◌≡◌ {A = ℕ} 0 1 = cc in absurd (omega arith);
        positive = λ n m. absurd (Memᴰ.not-nil m);
      }

  opens_told :
      (v c : ℕ) (P : Prefix) (done : List (List ℕ)) (bytes : List ℕ) (e a : Bool) (later : State) → same bytes e_text ≡ e → same bytes a_text ≡ a → SetsTold v c P done
      → Told clauseRoom later (done ++ (bytes ∷ [])) → Told clauseRoom (opens e a v c P later) (done ++ (bytes ∷ []))
  unfolding letter_of
  opens_told v c P done bytes true a later f g T h = open_told v c P done bytes existential T (same_bytes bytes e_text f)
  opens_told v c P done bytes false true later f g T h = open_told v c P done bytes universal T (same_bytes bytes a_text g)
  opens_told v c P done bytes false false later f g T h = h

  step_told : (s : State) (t : Token) (done : List (List ℕ)) → Told clauseRoom s done → Told clauseRoom (step prefixRoom clauseRoom s t) (done ++ (t.bytes ∷ []))
  unfolding step flat_map
  step_told wantsP t done h = require_told (same t.bytes p_text) t.place Headless wantsCnf (done ++ (t.bytes ∷ [])) (λ e. rw (h, same_bytes t.bytes p_text e))
  step_told wantsCnf t done h = require_told (same t.bytes cnf_text) t.place Headless wantsV (done ++ (t.bytes ∷ [])) (λ e. rw (h, same_bytes t.bytes cnf_text e))
  step_told wantsV t done h =
      number_told variable_bound t.place (number_of t.bytes) wants_c (done ++ (t.bytes ∷ [])) (λ n e. rw (h, natural_is t.bytes n e))
  step_told (wants_c v) t done h =
      number_told count_bound t.place (number_of t.bytes) (λ c. between_sets v c []) (done ++ (t.bytes ∷ []))
      (λ c e. record { sets = []; told = rw (h, natural_is t.bytes c e); entries = refl; its_sets = tt })
  step_told (between_sets v c P) t done h =
      opens_told v c P done t.bytes (same t.bytes e_text) (same t.bytes a_text) (clauses_token prefixRoom clauseRoom t.place v c P [] (number_of t.bytes)) refl refl h
      (clauses_told t.place v c P [] done t.bytes (sets_told clauseRoom v c P done h))
  step_told (in_set v c q full P) t done h = set_told t.place v c q full P done t.bytes (number_of t.bytes) refl h
  step_told (clauses v c P words) t done h = clauses_told t.place v c P words done t.bytes h
  step_told (stopped at r) t done h = tt

  pub run_told : (s : State) (ts : List Token) (done : List (List ℕ)) → Told clauseRoom s done → Told clauseRoom (run prefixRoom clauseRoom s ts) (done ++ bytes_of ts)
  unfolding run
  run_told s [] done h = rw append-nil h
  run_told s (t ∷ ts) done h =
      rw at_end_lem (run_told (step prefixRoom clauseRoom s t) ts (done ++ (t.bytes ∷ [])) (step_told s t done h))
    where
      at_end_lem : done ++ (t.bytes ∷ bytes_of ts) ≡ (done ++ (t.bytes ∷ [])) ++ bytes_of ts
      at_end_lem = sym (append_assoc done (t.bytes ∷ []) (bytes_of ts))
