-- The written header and the written prefix lines under the reader: the header is taken, then each run's line lists its
-- variables in order. Assumes nothing.
use Prim.Native.Nat.{ℕ, zero, suc, ◌+◌, ◌≤◌}
use Rattle.std.specs.Prelude.{◌≡◌, refl, ◌⊎◌, Bool, eqb}
use Rattle.std.proofs.Common.{sym, inl, inr, arith, length-append}
use Rattle.std.proofs.Math.Bool.{true, false}
use mathlib.Core.List.Memᴰ
use mathlib.Core.List.{
  [],
  ◌∷◌,
  ◌++◌,
  append_assoc,
  append-nil,
  map-append,
  Memᴰ,
}
use borrow.Author.Tests.{le-leb}
use Rattle.std.proofs.Math.ListN.{length}
use Rattle.qbf.specs.Formula.{Quantifier, existential, universal, Entry, entry, Prefix, listed, Distinct}
use Rattle.formula.specs.Bounds.{variable_bound, count_bound}
use Rattle.formula.specs.Prefix.{entry_words, entry_fits}
use Rattle.formula.specs.Prefix.Laws.{words_rise, entry_room}
use Rattle.formula.specs.Tables.{is_in}
use Rattle.formula.proofs.Theorems.Tables.Laws.{is_in_absent}
use Rattle.formula.specs.Decimal.{decimal}
use Rattle.formula.specs.Write.{header_text, letter_of}
use Rattle.formula.specs.Write.Stream.{line_end, line_turn, entry_text, prefix_text}
use Rattle.scanner.specs.Token.{is_blank, IsRun, same, number_of}
use Rattle.formula.specs.Text.{State, wantsP, wantsCnf, wantsV, wants_c, between_sets, in_set, variable_reason, step}
use Rattle.formula.specs.RoundTrip.Scan.{decimal_run, decimal_number, Takes, takes_none, takes_append, takes_token}

-- `0`, `p`, `cnf`, `e`, `a`.
pub zero_run : IsRun (48 ∷ [])
unfolding is_blank
zero_run = record { no_blank = (refl, tt); full = omega arith }

p_run : IsRun (112 ∷ [])
unfolding is_blank
p_run = record { no_blank = (refl, tt); full = omega arith }

cnf_run : IsRun (99 ∷ 110 ∷ 102 ∷ [])
unfolding is_blank
cnf_run = record { no_blank = (refl, (refl, (refl, tt))); full = omega arith }

e_run : IsRun (101 ∷ [])
unfolding is_blank
e_run = record { no_blank = (refl, tt); full = omega arith }

a_run : IsRun (97 ∷ [])
unfolding is_blank
a_run = record { no_blank = (refl, tt); full = omega arith }

-- Space and LF part tokens.
pub space_blank : is_blank 32 ≡ true
unfolding is_blank
space_blank = refl

pub feed_blank : is_blank 10 ≡ true
unfolding is_blank
feed_blank = refl

module _ (prefixRoom clauseRoom : ℕ) where
  pub header_takes :
      (top count : ℕ) → top ≤ variable_bound → count ≤ count_bound → Takes prefixRoom clauseRoom wantsP (header_text top count) (between_sets top count [])
  unfolding header_text step same
  header_takes top count h k =
      rw (sym (append_assoc (decimal top) (32 ∷ []) (decimal count ++ (10 ∷ []))))
      (takes_append prefixRoom clauseRoom (takes_token prefixRoom clauseRoom 32 wantsCnf p_run space_blank (λ at. refl))
      (takes_append prefixRoom clauseRoom (takes_token prefixRoom clauseRoom 32 wantsV cnf_run space_blank (λ at. refl))
      (takes_append prefixRoom clauseRoom
      (takes_token prefixRoom clauseRoom 32 (wants_c top) (decimal_run top) space_blank (λ at. rw (decimal_number top, le-leb top variable_bound h)))
      (takes_token prefixRoom clauseRoom 10 (between_sets top count []) (decimal_run count) feed_blank (λ at. rw (decimal_number count, le-leb count count_bound k))))))

-- Entries still to list after `done`: in range, each once, none of those done, and room for the words of all.
pub record Lists (v room : ℕ) (done P : Prefix) : Type 0 where
  pub range : (u : ℕ) → Memᴰ u (listed P) → (1 ≤ u) × (u ≤ v)
  pub distinct : Distinct (listed P)
  pub fresh : (u : ℕ) → Memᴰ u (listed done) → Memᴰ u (listed P) → ⊥
  pub within : entry_words (length done + length P) ≤ room

lists_later : {v room : ℕ} {done : Prefix} {x : Entry} {P : Prefix} → Lists v room done (x ∷ P) → Lists v room (done ++ (x ∷ [])) P
lists_later {v} {room} {done} {x} {P} l =
    record {
      range = λ u m. l.range u (Memᴰ.tail m);
      distinct = l.distinct.1;
      fresh = λ u m k. apart u (Memᴰ.append_cases (listed done) (rw (map-append (λ (y : Entry). y.variable) done (x ∷ [])) at m)) k;
      within = omega (arith, l.within, words_rise (length (done ++ (x ∷ [])) + length P) (length done + length (x ∷ P)) (rw length-append (omega arith)));
    }
  where
    apart : (u : ℕ) → Memᴰ u (listed done) ⊎ Memᴰ u (x.variable ∷ []) → Memᴰ u (listed P) → ⊥
    apart u (inl m) k = l.fresh u m (Memᴰ.tail k)
    apart u (inr m) k = l.distinct.0 (Memᴰ.cast (sym (Memᴰ.eq_of_singleton m)) k)

module _ (prefixRoom clauseRoom v c : ℕ) where
  -- The reader's state where the letter of the open line is `last`, none where that is 0.
  data Line (done : Prefix) : ℕ → State → Type 0 where
    none_open : Line done 0 (between_sets v c done)
    set_open : (q : Quantifier) → Line done (letter_of q) (in_set v c q true done)

  -- A line ends; a line begins; a variable is listed.
  ends : (q : Quantifier) (done : Prefix) → Takes prefixRoom clauseRoom (in_set v c q true done) (48 ∷ 10 ∷ []) (between_sets v c done)
  unfolding step number_of same
  ends q done = takes_token prefixRoom clauseRoom 10 (between_sets v c done) zero_run feed_blank (λ at. refl)

  begins : (q : Quantifier) (done : Prefix) → Takes prefixRoom clauseRoom (between_sets v c done) (letter_of q ∷ 32 ∷ []) (in_set v c q false done)
  unfolding step letter_of same
  begins existential done = takes_token prefixRoom clauseRoom 32 (in_set v c existential false done) e_run space_blank (λ at. refl)
  begins universal done = takes_token prefixRoom clauseRoom 32 (in_set v c universal false done) a_run space_blank (λ at. refl)

  lists_variable :
      (q : Quantifier) (filled : Bool) (done : Prefix) (n : ℕ)
      → 1 ≤ n → n ≤ v → v ≤ variable_bound → is_in n (listed done) ≡ false → entry_fits prefixRoom (length done) ≡ true
      → Takes prefixRoom clauseRoom (in_set v c q filled done) (decimal n ++ (32 ∷ [])) (in_set v c q true (done ++ (entry n q ∷ [])))
  unfolding step variable_reason
  lists_variable q filled done zero p h b e r = absurd (omega arith)
  lists_variable q filled done (suc n) p h b e r =
      takes_token prefixRoom clauseRoom 32
      (in_set v c q true (done ++ (entry (suc n) q ∷ [])))
      (decimal_run (suc n))
      space_blank
      (λ at. rw (decimal_number (suc n), le-leb (suc n) v h, e, r))

  -- What stands before a variable opens the line of its quantifier.
  turns :
      (done : Prefix) (q : Quantifier) (last : ℕ) (s : State) → Line done last s
      → (filled : Bool) × Takes prefixRoom clauseRoom s (line_turn (eqb last (letter_of q)) last (letter_of q)) (in_set v c q filled done)
  unfolding line_turn line_end letter_of
  turns done existential last s none_open = (false, begins existential done)
  turns done universal last s none_open = (false, begins universal done)
  turns done existential last s (set_open existential) = (true, takes_none prefixRoom clauseRoom (in_set v c existential true done))
  turns done existential last s (set_open universal) = (false, takes_append prefixRoom clauseRoom (ends universal done) (begins existential done))
  turns done universal last s (set_open existential) = (false, takes_append prefixRoom clauseRoom (ends existential done) (begins universal done))
  turns done universal last s (set_open universal) = (true, takes_none prefixRoom clauseRoom (in_set v c universal true done))

  closes : (done : Prefix) (last : ℕ) (s : State) → Line done last s → Takes prefixRoom clauseRoom s (line_end last) (between_sets v c done)
  unfolding line_end letter_of
  closes done last s none_open = takes_none prefixRoom clauseRoom (between_sets v c done)
  closes done last s (set_open existential) = ends existential done
  closes done last s (set_open universal) = ends universal done

  -- An entry's text lists its variable.
  entry_takes :
      (done : Prefix) (q : Quantifier) (n last : ℕ) (s : State) → Line done last s
      → 1 ≤ n → n ≤ v → v ≤ variable_bound → is_in n (listed done) ≡ false → entry_fits prefixRoom (length done) ≡ true
      → Takes prefixRoom clauseRoom s (entry_text last (letter_of q) n) (in_set v c q true (done ++ (entry n q ∷ [])))
  unfolding entry_text
  entry_takes done q n last s o p h b e r =
      let t = turns done q last s o in
      takes_append prefixRoom clauseRoom t.1 (lists_variable q t.0 done n p h b e r)

  -- The prefix lines list the entries in order.
  prefix_takes :
      (done P : Prefix) (last : ℕ) (s : State) → v ≤ variable_bound → Line done last s → Lists v prefixRoom done P
      → Takes prefixRoom clauseRoom s (prefix_text last P) (between_sets v c (done ++ P))
  unfolding prefix_text
  prefix_takes done [] last s b o l = rw append-nil (closes done last s o)
  prefix_takes done (x ∷ P) last s b o l =
      let n = x.variable in
      let q = x.quantifier in
      let r = l.range n (Memᴰ.head refl) in
      let e : is_in n (listed done) ≡ false = is_in_absent n (listed done) (λ m. l.fresh n m (Memᴰ.head refl)) in
      let first = entry_takes done q n last s o r.0 r.1 b e (entry_room prefixRoom (length done) (omega (arith, l.within, words_rise (suc (length done)) (length done + length (x ∷ P)) (omega arith)))) in
      let later = prefix_takes (done ++ (x ∷ [])) P (letter_of q) (in_set v c q true (done ++ (x ∷ []))) b (set_open q) (lists_later l) in
      takes_append prefixRoom clauseRoom first
      (rw (append_assoc done (x ∷ []) P) at later)

  -- From an empty prefix.
  pub prefix_taken :
      (P : Prefix) → v ≤ variable_bound → Lists v prefixRoom [] P
      → Takes prefixRoom clauseRoom (between_sets v c []) (prefix_text 0 P) (between_sets v c P)
  prefix_taken P b l = prefix_takes [] P 0 (between_sets v c []) b none_open l
