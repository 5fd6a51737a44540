-- Texts that are laid out are read: the tokens of the header, of the sets and of the clauses, each from state to state of the reader,
-- wherever they stand. Assumes nothing.
use Prim.Native.Nat.{ℕ, zero, suc, ◌+◌, ◌≤◌, ◌<◌}
use Rattle.std.specs.Prelude.{◌≡◌, Bool, true, false, ◌⊎◌, ℤ, pos, negsuc, nat_abs, length}
use Rattle.std.proofs.Math.Path.{refl, ap, subst}
use Rattle.std.proofs.Common.{sym, ◌∙◌, inl, inr, arith}
use mathlib.Core.List.{List, [], ◌∷◌, ◌++◌, map, flat_map, append_assoc, append-nil, Memᴰ}
use borrow.Author.Tests.{le-leb, lt-ltb, ne_eqb}
use Rattle.std.proofs.Math.ListN.{length-append}
use Rattle.qbf.specs.Formula.{Quantifier, existential, universal, entry, Prefix, listed, Distinct}
use Rattle.formula.specs.Bounds.{variable_bound, count_bound, matrix_bound}
use Rattle.formula.specs.Decimal.{decimal}
use Rattle.formula.specs.Decimal.Laws.{decimal_small}
use Rattle.formula.specs.Decode.Laws.{magnitude_positive}
use Rattle.formula.proofs.Theorems.Free.Laws.{listed_append}
use Rattle.formula.specs.Prefix.{entry_words, entry_fits}
use Rattle.formula.specs.Prefix.Laws.{words_rise, entry_room}
use Rattle.formula.specs.RoundTrip.Scan.{decimal_number, minus_number, decimal_unlike}
use Rattle.formula.proofs.Theorems.RoundTrip.Clauses.{open_word, zeros_word, Among, among_clauses}
use Rattle.formula.specs.Tables.{is_in, zeros}
use Rattle.formula.proofs.Theorems.Tables.Laws.{is_in_absent}
use Rattle.formula.specs.Text.{State, wantsP, wantsCnf, wantsV, wants_c, between_sets, in_set, clauses, open_clause, variable_reason, literal_reason, closing_reason, step, run}
use Rattle.formula.proofs.Theorems.Text.Clauses.Laws.{open_closing, zeros_closing}
use Rattle.scanner.specs.Token.{Token, same, p_text, cnf_text}
use Rattle.formula.specs.Write.{letter_of, literal_text}
use Rattle.layout.specs.Layout.{QuantifierSet, set_tokens, Sets, clause_tokens, Clauses, set_entries, entries_of, closed, words_of}
use Rattle.layout.specs.Layout.Pieces.{bytes_of}

-- A number that stands behind others, in a list without repetition, is not among them.
distinct_absent : (xs : List ℕ) (n : ℕ) (ys : List ℕ) → Distinct (xs ++ (n ∷ ys)) → Memᴰ n xs → ⊥
distinct_absent [] n ys d m = mathlib.Core.List.Memᴰ.not-nil m
distinct_absent (x ∷ xs) n ys d m = go (mathlib.Core.List.Memᴰ.cases_cons m) (distinct_absent xs n ys d.1)
  where
    go : (n ≡ x) ⊎ Memᴰ n xs → (Memᴰ n xs → ⊥) → ⊥
    go (inl e) later = d.0 (mathlib.Core.List.Memᴰ.cast (sym e) (mathlib.Core.List.Memᴰ.append_right xs (mathlib.Core.List.Memᴰ.head refl)))
    go (inr k) later = later k

module _ (prefixRoom clauseRoom : ℕ) where
  -- The tokens take the reader from state to state.
  abbrev pub Walks : State → List (List ℕ) → State → Type 0
  Walks s [] s' = s ≡ s'
  Walks s (b ∷ bs) s' = (t : State) × ((at : ℕ) → step prefixRoom clauseRoom s (record { bytes = b; place = at }) ≡ t) × Walks t bs s'

  pub walks_append : (s s' s'' : State) (xs ys : List (List ℕ)) → Walks s xs s' → Walks s' ys s'' → Walks s (xs ++ ys) s''
  walks_append s s' s'' [] ys e w = subst (λ (q : State). Walks q ys s'') (sym e) w
  walks_append s s' s'' (x ∷ xs) ys f w = (f.0, f.1, walks_append f.0 s' s'' xs ys f.2 w)

  pub walks_run : (s s' : State) (ts : List Token) → Walks s (bytes_of ts) s' → run prefixRoom clauseRoom s ts ≡ s'
  unfolding run
  walks_run s s' [] e = e
  walks_run s s' (t ∷ ts) f = rw (f.1 t.place) (walks_run f.0 s' ts f.2)

  pub header_walks : (v c : ℕ) → v ≤ variable_bound → c ≤ count_bound → Walks wantsP (p_text ∷ cnf_text ∷ decimal v ∷ decimal c ∷ []) (between_sets v c [])
  unfolding step same
  header_walks v c h k =
      (wantsCnf, λ at. refl, (wantsV, λ at. refl, (wants_c v, λ at. rw (decimal_number v, le-leb v variable_bound h), (between_sets v c [], λ at. rw (decimal_number c, le-leb c count_bound k), refl))))

  -- A set's variables, its letter and its 0.
  abbrev filled_after : Bool → List ℕ → Bool
  filled_after filled [] = filled
  filled_after filled (n ∷ ns) = true

  abbrev entries_with : Quantifier → List ℕ → Prefix
  entries_with q ns = map (λ (n : ℕ). entry n q) ns

  list_step :
      (v c : ℕ) (q : Quantifier) (filled : Bool) (P : Prefix) (n : ℕ) → 1 ≤ n → n ≤ v → is_in n (listed P) ≡ false → entry_fits prefixRoom (length P) ≡ true
      → (at : ℕ) → step prefixRoom clauseRoom (in_set v c q filled P) (record { bytes = decimal n; place = at }) ≡ in_set v c q true (P ++ (entry n q ∷ []))
  unfolding step variable_reason
  list_step v c q filled P zero l h f r at = absurd (omega arith)
  list_step v c q filled P (suc n) l h f r at = rw (decimal_number (suc n), le-leb (suc n) v h, f, r)

  variables_walk :
      (v c : ℕ) (q : Quantifier) (filled : Bool) (P : Prefix) (ns : List ℕ) → ((n : ℕ) → Memᴰ n ns → (1 ≤ n) × (n ≤ v)) → Distinct (listed (P ++ entries_with q ns))
      → entry_words (length (P ++ entries_with q ns)) ≤ prefixRoom → Walks (in_set v c q filled P) (map decimal ns) (in_set v c q (filled_after filled ns) (P ++ entries_with q ns))
  variables_walk v c q filled P [] r d h = ap (λ (Q : Prefix). in_set v c q filled Q) (sym (append-nil P))
  variables_walk v c q filled P (n ∷ ns) r d h =
      let own = r n (mathlib.Core.List.Memᴰ.head refl) in
      let fresh : is_in n (listed P) ≡ false = is_in_absent n (listed P) (distinct_absent (listed P) n (listed (entries_with q ns)) (subst Distinct (listed_append P (entry n q ∷ entries_with q ns)) d)) in
      let long : suc (length P) ≤ length (P ++ (entry n q ∷ entries_with q ns)) = rw length-append (omega arith) in
      let fits : entry_fits prefixRoom (length P) ≡ true = entry_room prefixRoom (length P) (omega (arith, h, words_rise (suc (length P)) (length (P ++ (entry n q ∷ entries_with q ns))) long)) in
      let on : (P ++ (entry n q ∷ [])) ++ entries_with q ns ≡ P ++ (entry n q ∷ entries_with q ns) = append_assoc P (entry n q ∷ []) (entries_with q ns) in
      (in_set v c q true (P ++ (entry n q ∷ [])), list_step v c q filled P n own.0 own.1 fresh fits, later ns on (variables_walk v c q true (P ++ (entry n q ∷ [])) ns (λ m k. r m (mathlib.Core.List.Memᴰ.tail k)) (subst (λ (Q : Prefix). Distinct (listed Q)) (sym on) d) (subst (λ (Q : Prefix). entry_words (length Q) ≤ prefixRoom) (sym on) h)))
    where
      later :
          (ms : List ℕ) {Q R : Prefix} → Q ≡ R → Walks (in_set v c q true (P ++ (entry n q ∷ []))) (map decimal ns) (in_set v c q (filled_after true ms) Q)
          → Walks (in_set v c q true (P ++ (entry n q ∷ []))) (map decimal ns) (in_set v c q true R)
      later [] e w = subst (λ (S : Prefix). Walks (in_set v c q true (P ++ (entry n q ∷ []))) (map decimal ns) (in_set v c q true S)) e w
      later (m ∷ ms) e w = subst (λ (S : Prefix). Walks (in_set v c q true (P ++ (entry n q ∷ []))) (map decimal ns) (in_set v c q true S)) e w

  letter_step : (v c : ℕ) (P : Prefix) (q : Quantifier) (at : ℕ) → step prefixRoom clauseRoom (between_sets v c P) (record { bytes = letter_of q ∷ []; place = at }) ≡ in_set v c q false P
  unfolding step same letter_of
  letter_step v c P existential at = refl
  letter_step v c P universal at = refl

  close_step : (v c : ℕ) (q : Quantifier) (P : Prefix) (at : ℕ) → step prefixRoom clauseRoom (in_set v c q true P) (record { bytes = decimal 0; place = at }) ≡ between_sets v c P
  unfolding step
  close_step v c q P at = rw (decimal_number 0)

  set_walk :
      (v c : ℕ) (P : Prefix) (s : QuantifierSet) → 1 ≤ length s.variables → ((n : ℕ) → Memᴰ n s.variables → (1 ≤ n) × (n ≤ v)) → Distinct (listed (P ++ set_entries s))
      → entry_words (length (P ++ set_entries s)) ≤ prefixRoom → Walks (between_sets v c P) (set_tokens s) (between_sets v c (P ++ set_entries s))
  set_walk v c P s l r d h =
      (in_set v c s.quantifier false P, letter_step v c P s.quantifier, walks_append (in_set v c s.quantifier false P) (in_set v c s.quantifier true (P ++ set_entries s)) (between_sets v c (P ++ set_entries s)) (map decimal s.variables) (decimal 0 ∷ []) (full s.variables l (variables_walk v c s.quantifier false P s.variables r d h)) (between_sets v c (P ++ set_entries s), close_step v c s.quantifier (P ++ set_entries s), refl))
    where
      full :
          (ns : List ℕ) → 1 ≤ length ns → Walks (in_set v c s.quantifier false P) (map decimal s.variables) (in_set v c s.quantifier (filled_after false ns) (P ++ set_entries s))
          → Walks (in_set v c s.quantifier false P) (map decimal s.variables) (in_set v c s.quantifier true (P ++ set_entries s))
      full [] l w = absurd (omega arith)
      full (n ∷ ns) l w = w

-- What entries list, in parts.
member_left : (A B : Prefix) {n : ℕ} → Memᴰ n (listed A) → Memᴰ n (listed (A ++ B))
member_left A B m = rw (listed_append A B) (mathlib.Core.List.Memᴰ.append_left (listed B) m)

member_right : (A B : Prefix) {n : ℕ} → Memᴰ n (listed B) → Memᴰ n (listed (A ++ B))
member_right A B m = rw (listed_append A B) (mathlib.Core.List.Memᴰ.append_right (listed A) m)

distinct_left : (A B : Prefix) → Distinct (listed (A ++ B)) → Distinct (listed A)
distinct_left [] B d = tt
distinct_left (x ∷ A) B d = (λ m. d.0 (member_left A B m), distinct_left A B d.1)

listed_with : (q : Quantifier) (ns : List ℕ) → listed (map (λ (n : ℕ). entry n q) ns) ≡ ns
listed_with q [] = refl
listed_with q (n ∷ ns) = ap {B = List ℕ} (λ r. n ∷ r) (listed_with q ns)

module _ (prefixRoom clauseRoom : ℕ) where
  pub sets_walk :
      (v c : ℕ) (P : Prefix) (sets : List QuantifierSet) → Sets sets → ((n : ℕ) → Memᴰ n (listed (entries_of sets)) → n ≤ v) → Distinct (listed (P ++ entries_of sets))
      → entry_words (length (P ++ entries_of sets)) ≤ prefixRoom → Walks prefixRoom clauseRoom (between_sets v c P) (flat_map set_tokens sets) (between_sets v c (P ++ entries_of sets))
  unfolding flat_map
  sets_walk v c P [] f r d h = ap (λ (Q : Prefix). between_sets v c Q) (sym (append-nil P))
  sets_walk v c P (s ∷ sets) f r d h =
      let on : (P ++ set_entries s) ++ entries_of sets ≡ P ++ (set_entries s ++ entries_of sets) = append_assoc P (set_entries s) (entries_of sets) in
      let apart : Distinct (listed ((P ++ set_entries s) ++ entries_of sets)) = subst (λ (Q : Prefix). Distinct (listed Q)) (sym on) d in
      let room : entry_words (length ((P ++ set_entries s) ++ entries_of sets)) ≤ prefixRoom = subst (λ (Q : Prefix). entry_words (length Q) ≤ prefixRoom) (sym on) h in
      let part = words_rise (length (P ++ set_entries s)) (length ((P ++ set_entries s) ++ entries_of sets)) (omega (arith, length-append (P ++ set_entries s) (entries_of sets))) in
      walks_append prefixRoom clauseRoom (between_sets v c P) (between_sets v c (P ++ set_entries s)) (between_sets v c (P ++ (set_entries s ++ entries_of sets))) (set_tokens s) (flat_map set_tokens sets)
      (set_walk prefixRoom clauseRoom v c P s f.0 (λ n m. (f.1 n m, r n (member_left (set_entries s) (entries_of sets) (rw (listed_with s.quantifier s.variables) m)))) (distinct_left (P ++ set_entries s) (entries_of sets) apart) (omega (arith, part, room)))
      (subst (λ (Q : Prefix). Walks prefixRoom clauseRoom (between_sets v c (P ++ set_entries s)) (flat_map set_tokens sets) (between_sets v c Q)) on (sets_walk v c (P ++ set_entries s) sets f.2 (λ n m. r n (member_right (set_entries s) (entries_of sets) m)) apart room))

module _ (prefixRoom clauseRoom v c : ℕ) (P : Prefix) where
  zero_unlike : (w : ℕ) → 57 < w → same (decimal 0) (w ∷ []) ≡ false
  unfolding same
  zero_unlike w h = rw (decimal_small 0 (omega arith)) (rw (ne_eqb 48 w (λ e. omega (arith, e, h))))

  closing_step_lem :
      (s : State) (done : List ℤ) → Among prefixRoom clauseRoom v c P s done → zeros done < c → length done < matrix_bound → length done < clauseRoom
      → (at : ℕ) → step prefixRoom clauseRoom s (record { bytes = decimal 0; place = at }) ≡ clauses v c P (done ++ (pos 0 ∷ []))
  unfolding closing_reason
  closing_step_lem s done a z m r at =
      a.steps (decimal 0) at (zero_unlike 101 (omega arith)) (zero_unlike 97 (omega arith))
      ∙ rw (decimal_number 0, lt-ltb (zeros done) c z, lt-ltb (length done) matrix_bound m, lt-ltb (length done) clauseRoom r)

  literal_step_lem :
      (s : State) (done : List ℤ) (w : ℤ) → Among prefixRoom clauseRoom v c P s done → zeros done < c → length done < matrix_bound → length done < clauseRoom
      → 1 ≤ nat_abs w → nat_abs w ≤ v → is_in (nat_abs w) (open_clause done) ≡ false
      → (at : ℕ) → step prefixRoom clauseRoom s (record { bytes = literal_text w; place = at }) ≡ clauses v c P (done ++ (w ∷ []))
  unfolding literal_text literal_reason same
  literal_step_lem s done (pos zero) a z m r l h f at = absurd (omega arith)
  literal_step_lem s done (pos (suc n)) a z m r l h f at =
      a.steps (decimal (suc n)) at (decimal_unlike (suc n) 101 (omega arith) (omega arith)) (decimal_unlike (suc n) 97 (omega arith) (omega arith))
      ∙ rw (decimal_number (suc n), lt-ltb (zeros done) c z, lt-ltb 0 (suc n) (omega arith), le-leb (suc n) v h, lt-ltb (length done) matrix_bound m, f, lt-ltb (length done) clauseRoom r)
  literal_step_lem s done (negsuc n) a z m r l h f at =
      a.steps (45 ∷ decimal (suc n)) at refl refl
      ∙ rw (minus_number (suc n) (omega arith), lt-ltb (zeros done) c z, lt-ltb 0 (suc n) (omega arith), le-leb (suc n) v h, lt-ltb (length done) matrix_bound m, f, lt-ltb (length done) clauseRoom r)

  -- Words are read: no clause is left open, and so many are closed.
  pub record WordsRead (s : State) (tokens : List (List ℕ)) (all : List ℤ) (closings : ℕ) : Type 0 where
    pub after : State
    pub walks : Walks prefixRoom clauseRoom s tokens after
    pub among : Among prefixRoom clauseRoom v c P after all
    pub shut : open_clause all ≡ []
    pub count : zeros all ≡ closings

  -- A clause whose variables are none of the open clause's: its literals, then its 0.
  clause_walk :
      (s : State) (done C : List ℤ) → Among prefixRoom clauseRoom v c P s done → zeros done < c → length done + length (closed C) ≤ matrix_bound → length done + length (closed C) ≤ clauseRoom
      → ((w : ℤ) → Memᴰ w C → (1 ≤ nat_abs w) × (nat_abs w ≤ v)) → Distinct (map nat_abs C) → ((n : ℕ) → Memᴰ n (open_clause done) → Memᴰ n (map nat_abs C) → ⊥)
      → WordsRead s (clause_tokens C) (done ++ closed C) (suc (zeros done))
  clause_walk s done [] a z m r h d f =
      record {
        after = clauses v c P (done ++ (pos 0 ∷ []));
        walks = (clauses v c P (done ++ (pos 0 ∷ [])), closing_step_lem s done a z (omega (arith, m)) (omega (arith, r)), refl);
        among = among_clauses prefixRoom clauseRoom v c P (done ++ (pos 0 ∷ []));
        shut = open_closing [] done;
        count = zeros_closing done;
      }
  clause_walk s done (w ∷ C) a z m r h d f =
      let own = h w (mathlib.Core.List.Memᴰ.head refl) in
      let next : List ℤ = done ++ (w ∷ []) in
      let long : length next ≡ length done + 1 = length-append done (w ∷ []) in
      let W = clause_walk (clauses v c P next) next C (among_clauses prefixRoom clauseRoom v c P next) (rw (zeros_word done w own.0) z) (omega (arith, m, long)) (omega (arith, r, long)) (λ u k. h u (mathlib.Core.List.Memᴰ.tail k)) d.1 (λ n k i. apart n (mathlib.Core.List.Memᴰ.cases_cons (rw (open_word done w own.0) at k)) i) in
      let e : next ++ closed C ≡ done ++ (w ∷ closed C) = append_assoc done (w ∷ []) (closed C) in
      record {
        after = W.after;
        walks = (clauses v c P next, literal_step_lem s done w a z (omega (arith, m)) (omega (arith, r)) own.0 own.1 (is_in_absent (nat_abs w) (open_clause done) (λ k. f (nat_abs w) k (mathlib.Core.List.Memᴰ.head refl))), W.walks);
        among = rw e at W.among;
        shut = rw e at W.shut;
        count = rw (← e) (W.count ∙ ap suc (zeros_word done w own.0));
      }
    where
      apart : (n : ℕ) → (n ≡ nat_abs w) ⊎ Memᴰ n (open_clause done) → Memᴰ n (map nat_abs C) → ⊥
      apart n (inl e) i = d.0 (mathlib.Core.List.Memᴰ.cast (sym e) i)
      apart n (inr k) i = f n k (mathlib.Core.List.Memᴰ.tail i)

  -- Clauses that are left to read, and what is known of them.
  pub record Left (done : List ℤ) (Cs : List (List ℤ)) : Type 0 where
    pub shut : open_clause done ≡ []
    pub count : zeros done + length Cs ≡ c
    pub words : length done + length (words_of Cs) ≤ matrix_bound
    pub room : length done + length (words_of Cs) ≤ clauseRoom
    pub its_clauses : Clauses Cs
    pub range : (w : ℤ) → Memᴰ w (words_of Cs) → nat_abs w ≤ v
    pub once : (C : List ℤ) → Memᴰ C Cs → Distinct (map nat_abs C)

  pub clauses_walk : (s : State) (done : List ℤ) (Cs : List (List ℤ)) → Among prefixRoom clauseRoom v c P s done → Left done Cs → WordsRead s (flat_map clause_tokens Cs) (done ++ words_of Cs) c
  unfolding flat_map
  clauses_walk s done [] a h = rw append-nil (record { after = s; walks = refl; among = a; shut = h.shut; count = omega (arith, h.count) })
  clauses_walk s done (C ∷ Cs) a h =
      let long = length-append (closed C) (words_of Cs) in
      let first : Memᴰ C (C ∷ Cs) = mathlib.Core.List.Memᴰ.head refl in
      let one = clause_walk s done C a (omega (arith, h.count)) (omega (arith, h.words, long)) (omega (arith, h.room, long)) (λ w m. (magnitude_positive w (h.its_clauses C first w m), h.range w (mathlib.Core.List.Memᴰ.append_left (words_of Cs) (mathlib.Core.List.Memᴰ.append_left (pos 0 ∷ []) m)))) (h.once C first) (λ n k i. mathlib.Core.List.Memᴰ.not-nil (rw h.shut at k)) in
      let more = length-append done (closed C) in
      let left : Left (done ++ closed C) Cs =
      record {
        shut = one.shut;
        count = omega (arith, one.count, h.count);
        words = omega (arith, h.words, long, more);
        room = omega (arith, h.room, long, more);
        its_clauses = λ D m. h.its_clauses D (mathlib.Core.List.Memᴰ.tail m);
        range = λ w m. h.range w (mathlib.Core.List.Memᴰ.append_right (closed C) m);
        once = λ D m. h.once D (mathlib.Core.List.Memᴰ.tail m);
      } in
      let rest = clauses_walk one.after (done ++ closed C) Cs one.among left in
      let e : (done ++ closed C) ++ words_of Cs ≡ done ++ (closed C ++ words_of Cs) = append_assoc done (closed C) (words_of Cs) in
      record {
        after = rest.after;
        walks = walks_append prefixRoom clauseRoom s one.after rest.after (clause_tokens C) (flat_map clause_tokens Cs) one.walks rest.walks;
        among = rw e at rest.among;
        shut = rw e at rest.shut;
        count = rw (← e) rest.count;
      }
