-- The written clause lines under the reader: each word is put behind those before it, and at the end no clause is open and
-- none is missing. Assumes nothing.
use Prim.Native.Nat.{ℕ, zero, suc, ◌+◌, ◌<◌, ◌≤◌}
use Rattle.std.specs.Prelude.{◌≡◌, Bool, true, false, length, ℤ, pos, negsuc, nat_abs}
use Rattle.std.proofs.Math.Path.{refl}
use Rattle.std.proofs.Common.{sym, ◌∙◌, arith}
use Rattle.std.proofs.lemmas.Bool.{false≢true}
use Rattle.std.proofs.Math.Option.{Option, none, some}
use mathlib.Core.List.{List, [], ◌∷◌, ◌++◌, append_assoc, append-nil}
use Rattle.std.proofs.Math.Decide.{ℕ_discrete}
use borrow.Author.Tests.{lt-ltb, le-leb, ne_eqb}
use Rattle.std.proofs.Math.ListN.{length-append}
use Rattle.formula.specs.Bounds.{variable_bound, matrix_bound}
use Rattle.qbf.specs.Formula.{Prefix, listed}
use Rattle.formula.specs.Free.{occurs}
use Rattle.formula.specs.Word.{word_of, signed as with_sign}
use Rattle.formula.specs.Decode.Laws.{positive_magnitude}
use Rattle.formula.specs.Tables.{is_in, zeros, literal_word, clause_word, clauses_end, clauses_refusal}
use Rattle.formula.proofs.Theorems.Tables.Laws.{Kind, kind, closing, large, signed, clause_word_large, clause_word_literal}
use Rattle.formula.specs.Write.Stream.{word_text, clauses_text}
use Rattle.formula.specs.Decimal.{decimal}
use Rattle.scanner.specs.Token.{is_blank, IsRun, same, a_text, e_text, number_of}
use Rattle.formula.specs.Text.{State, between_sets, clauses, open_clause, is_open, literal_reason, closing_reason, clauses_token, step, tables_ending, ending}
use Rattle.formula.proofs.Theorems.Text.Clauses.Laws.{open_literal, open_closing, zeros_literal, zeros_closing}
use Rattle.formula.specs.RoundTrip.Scan.{Takes, takes_none, takes_append, takes_token, decimal_run, decimal_number, minus_number, decimal_unlike}
use Rattle.formula.proofs.Theorems.RoundTrip.Prefix.{zero_run, space_blank, feed_blank}
use Rattle.formula.specs.declared.refusal.Refusal.{Refusal}

-- A minus and digits are a run.
minus_run : (n : ℕ) → IsRun (45 ∷ decimal n)
unfolding is_blank
minus_run n = record { no_blank = (refl, (decimal_run n).no_blank); full = omega arith }

-- A refusal is not its absence.
refused : {r : Refusal} {A : Type 0} → ◌≡◌ {A = Option Refusal} (some r) none → A
refused e = let z : ◌≡◌ {A = ℕ} 0 1 = cc in absurd (omega arith)

-- A literal that passes the check: its variable is listed, its clause does not hold it, and what follows passes.
pub record LiteralPasses (known : ℕ → Bool) (seen : List ℕ) (w : ℤ) (next : List ℕ → Option Refusal) : Type 0 where
  pub bound : known (nat_abs w) ≡ true
  pub new : is_in (nat_abs w) seen ≡ false
  pub later : next (nat_abs w ∷ seen) ≡ none

pub literal_passes :
    (known : ℕ → Bool) (at : ℕ) (seen : List ℕ) (next : List ℕ → Option Refusal) (w : ℤ)
    → 1 ≤ nat_abs w → clause_word known at seen (word_of w) next ≡ none → LiteralPasses known seen w next
literal_passes known at seen next w p h = go (kind w)
  where
    judged :
        (a b : Bool) → known (nat_abs w) ≡ a → is_in (nat_abs w) seen ≡ b → literal_word at a b (next (nat_abs w ∷ seen)) ≡ none
        → LiteralPasses known seen w next
    judged false b e f k = refused k
    judged true true e f k = refused k
    judged true false e f k = record { bound = e; new = f; later = k }

    go : Kind w → LiteralPasses known seen w next
    go (closing e) = absurd (positive_magnitude w p e)
    go (large l) = refused (sym (clause_word_large known at seen next w l) ∙ h)
    go (signed l u) = judged (known (nat_abs w)) (is_in (nat_abs w) seen) refl refl (sym (clause_word_literal known at seen next w l u) ∙ h)

-- A clause that was begun is closed by a later 0.
pub begun_closes : (known : ℕ → Bool) (at v : ℕ) (seen : List ℕ) (ws : List ℤ) → clauses_refusal known at (v ∷ seen) ws ≡ none → 1 ≤ zeros ws
unfolding clauses_refusal zeros
begun_closes known at v seen [] h = refused h
begun_closes known at v seen (pos zero ∷ ws) h = omega arith
begun_closes known at v seen (pos (suc n) ∷ ws) h =
    begun_closes known (at + 1) (suc n) (v ∷ seen) ws
    (literal_passes known at (v ∷ seen) (λ s. clauses_refusal known (at + 1) s ws) (pos (suc n)) (omega arith) h).later
begun_closes known at v seen (negsuc n ∷ ws) h =
    begun_closes known (at + 1) (suc n) (v ∷ seen) ws
    (literal_passes known at (v ∷ seen) (λ s. clauses_refusal known (at + 1) s ws) (negsuc n) (omega arith) h).later

-- Clauses that pass hold no variable that is not known.
pub all_known : (known : ℕ → Bool) (at : ℕ) (seen : List ℕ) (ws : List ℤ) → clauses_refusal known at seen ws ≡ none → (n : ℕ) → 1 ≤ n → occurs n ws ≡ true → known n ≡ true
unfolding clauses_refusal occurs word_of
all_known known at seen [] h n l o = absurd (false≢true o)
all_known known at seen (w ∷ ws) h n l o = go (ℕ_discrete n (nat_abs w)) (kind w) (λ s g. all_known known (at + 1) s ws g n l)
  where
    go : Dec (n ≡ nat_abs w) → Kind w → ((s : List ℕ) → clauses_refusal known (at + 1) s ws ≡ none → occurs n ws ≡ true → known n ≡ true) → known n ≡ true
    go (yes e) k later =
        rw e (literal_passes known at seen (λ s. clauses_refusal known (at + 1) s ws) w (omega (arith, l, e)) h).bound
    go (no e) (closing z) later = later [] (rw z at h) (rw (ne_eqb n (nat_abs w) e) at o)
    go (no e) (large k) later = refused (sym (clause_word_large known at seen (λ s. clauses_refusal known (at + 1) s ws) w k) ∙ h)
    go (no e) (signed k u) later =
        later (nat_abs w ∷ seen) (literal_passes known at seen (λ s. clauses_refusal known (at + 1) s ws) w k h).later (rw (ne_eqb n (nat_abs w) e) at o)

-- A word's sign as the reader keeps it.
unfoldable positive : ℤ → Bool
positive (pos n) = true
positive (negsuc n) = false

signed_word_lem : (w : ℤ) → 1 ≤ nat_abs w → with_sign (positive w) (nat_abs w) ≡ w
unfolding positive
signed_word_lem (pos n) h = refl
signed_word_lem (negsuc n) h = refl

-- One more literal: it stands first in the open clause, and closes none.
pub open_word : (ws : List ℤ) (w : ℤ) → 1 ≤ nat_abs w → open_clause (ws ++ (w ∷ [])) ≡ nat_abs w ∷ open_clause ws
open_word ws w h = rw (signed_word_lem w h) at (open_literal [] ws (positive w) (nat_abs w) (λ e. omega arith))

pub zeros_word : (ws : List ℤ) (w : ℤ) → 1 ≤ nat_abs w → zeros (ws ++ (w ∷ [])) ≡ zeros ws
zeros_word ws w h = rw (signed_word_lem w h) at (zeros_literal ws (positive w) (nat_abs w) (λ e. omega arith))

module _ (prefixRoom clauseRoom v c : ℕ) (P : Prefix) where
  -- The variables that the entries list.
  abbrev known : ℕ → Bool
  known n = is_in n (listed P)

  -- The reader is among the clauses, having read the words `done`: before the first of them it is still among the sets.
  pub record Among (s : State) (done : List ℤ) : Type 0 where
    pub steps :
        (bytes : List ℕ) (at : ℕ) → same bytes e_text ≡ false → same bytes a_text ≡ false
        → step prefixRoom clauseRoom s (record { bytes = bytes; place = at }) ≡ clauses_token prefixRoom clauseRoom at v c P done (number_of bytes)
    pub ends : (text : List ℕ) → ending prefixRoom text s ≡ tables_ending prefixRoom text v c P done

  pub among_sets : Among (between_sets v c P) []
  unfolding step ending
  among_sets = record { steps = λ t at e a. rw (e, a); ends = λ at. refl }

  pub among_clauses : (done : List ℤ) → Among (clauses v c P done) done
  unfolding step ending
  among_clauses done = record { steps = λ t at e a. refl; ends = λ at. refl }

  -- Room for one more word of a clause that is not past the last.
  record Room (done : List ℤ) : Type 0 where
    count : zeros done < c
    words : length done < matrix_bound
    room : length done < clauseRoom

  closes :
      (s : State) (done : List ℤ) → Among s done → Room done
      → Takes prefixRoom clauseRoom s (48 ∷ 10 ∷ []) (clauses v c P (done ++ (pos 0 ∷ [])))
  unfolding closing_reason number_of same
  closes s done a r =
      takes_token prefixRoom clauseRoom 10
      (clauses v c P (done ++ (pos 0 ∷ [])))
      zero_run
      feed_blank
      (λ at.
      a.steps (48 ∷ []) at refl refl
      ∙ rw (lt-ltb (zeros done) c r.count, lt-ltb (length done) matrix_bound r.words, lt-ltb (length done) clauseRoom r.room))

  puts :
      (s : State) (done : List ℤ) (w : ℤ) → Among s done → Room done → v ≤ variable_bound
      → 1 ≤ nat_abs w → nat_abs w ≤ v → is_in (nat_abs w) (open_clause done) ≡ false
      → Takes prefixRoom clauseRoom s (word_text w) (clauses v c P (done ++ (w ∷ [])))
  unfolding word_text literal_reason same
  puts s done (pos zero) a r b l h f = absurd (omega arith)
  puts s done (pos (suc n)) a r b l h f =
      takes_token prefixRoom clauseRoom 32
      (clauses v c P (done ++ (pos (suc n) ∷ [])))
      (decimal_run (suc n))
      space_blank
      (λ at.
      a.steps (decimal (suc n)) at (decimal_unlike (suc n) 101 (omega arith) (omega arith)) (decimal_unlike (suc n) 97 (omega arith) (omega arith))
      ∙ rw (
        decimal_number (suc n),
        lt-ltb (zeros done) c r.count,
        lt-ltb 0 (suc n) (omega arith),
        le-leb (suc n) v h,
        lt-ltb (length done) matrix_bound r.words,
        f,
        lt-ltb (length done) clauseRoom r.room,
      ))
  puts s done (negsuc n) a r b l h f =
      takes_token prefixRoom clauseRoom 32
      (clauses v c P (done ++ (negsuc n ∷ [])))
      (minus_run (suc n))
      space_blank
      (λ at.
      a.steps (45 ∷ decimal (suc n)) at refl refl
      ∙ rw (
        minus_number (suc n) (omega arith),
        lt-ltb (zeros done) c r.count,
        lt-ltb 0 (suc n) (omega arith),
        le-leb (suc n) v h,
        lt-ltb (length done) matrix_bound r.words,
        f,
        lt-ltb (length done) clauseRoom r.room,
      ))

  -- Words that pass the check after `done`, with room for all and no clause too many or too few.
  pub record Passes (at : ℕ) (done ws : List ℤ) : Type 0 where
    pub passes : clauses_refusal known at (open_clause done) ws ≡ none
    pub count : zeros done + zeros ws ≡ c
    pub words : length done + length ws ≤ matrix_bound
    pub room : length done + length ws ≤ clauseRoom

  -- The words are read, and no clause is left open.
  pub record AllRead (s : State) (text : List ℕ) (all : List ℤ) : Type 0 where
    pub after : State
    pub taken : Takes prefixRoom clauseRoom s text after
    pub among : Among after all
    pub shut : is_open (open_clause all) ≡ false

  pub nothing_open : (at : ℕ) (seen : List ℕ) → clauses_end at seen ≡ none → is_open seen ≡ false
  nothing_open at [] h = refl
  nothing_open at (u ∷ seen) h = refused h

  -- A word is taken and the later ones follow.
  reads_word :
      {s : State} {piece : List ℕ} (done : List ℤ) (w : ℤ) (ws : List ℤ) (text : List ℕ)
      → Takes prefixRoom clauseRoom s piece (clauses v c P (done ++ (w ∷ [])))
      → AllRead (clauses v c P (done ++ (w ∷ []))) text ((done ++ (w ∷ [])) ++ ws) → AllRead s (piece ++ text) (done ++ (w ∷ ws))
  reads_word {s} {piece} done w ws text t r =
      let e : (done ++ (w ∷ [])) ++ ws ≡ done ++ (w ∷ ws) = append_assoc done (w ∷ []) ws in
      record {
        after = r.after;
        taken = takes_append prefixRoom clauseRoom t r.taken;
        among = rw e at r.among;
        shut = rw e at r.shut;
      }

  module _ (b : v ≤ variable_bound) (below : (n : ℕ) → known n ≡ true → n ≤ v) where
    -- A literal, which is 1 or more in magnitude, and what is left of the check after it.
    literal_step_lem :
        (at : ℕ) (s : State) (done : List ℤ) (w : ℤ) (ws : List ℤ) → 1 ≤ nat_abs w → zeros (w ∷ ws) ≡ zeros ws → Among s done → Passes at done (w ∷ ws)
        → Takes prefixRoom clauseRoom s (word_text w) (clauses v c P (done ++ (w ∷ []))) × Passes (at + 1) (done ++ (w ∷ [])) ws
    unfolding clauses_refusal
    literal_step_lem at s done w ws l z a h =
        let q = literal_passes known at (open_clause done) (λ seen. clauses_refusal known (at + 1) seen ws) w l h.passes in
        let k : 1 ≤ zeros ws = begun_closes known (at + 1) (nat_abs w) (open_clause done) ws q.later in
        let r : Room done =
        record { count = omega (arith, h.count, z, k); words = omega (arith, h.words); room = omega (arith, h.room) } in (
          puts s done w a r b l (below (nat_abs w) q.bound) q.new,
          record {
            passes = rw (open_word done w l) q.later;
            count = rw (zeros_word done w l) (omega (arith, h.count, z));
            words = rw length-append (omega (arith, h.words));
            room = rw length-append (omega (arith, h.room));
          },
        )

    -- A closing 0.
    closing_step_lem :
        (at : ℕ) (s : State) (done ws : List ℤ) → Among s done → Passes at done (pos 0 ∷ ws)
        → Takes prefixRoom clauseRoom s (word_text (pos 0)) (clauses v c P (done ++ (pos 0 ∷ []))) × Passes (at + 1) (done ++ (pos 0 ∷ [])) ws
    unfolding clauses_refusal word_of word_text zeros
    closing_step_lem at s done ws a h =
        let r : Room done = record { count = omega (arith, h.count); words = omega (arith, h.words); room = omega (arith, h.room) } in (
          closes s done a r,
          record {
            passes = rw (open_closing [] done) h.passes;
            count = rw (zeros_closing done) (omega (arith, h.count));
            words = rw length-append (omega (arith, h.words));
            room = rw length-append (omega (arith, h.room));
          },
        )

    pub clauses_reads : (at : ℕ) (s : State) (done ws : List ℤ) → Among s done → Passes at done ws → AllRead s (clauses_text ws) (done ++ ws)
    unfolding clauses_refusal clauses_text zeros
    clauses_reads at s done [] a h =
        rw append-nil (record { after = s; taken = takes_none prefixRoom clauseRoom s; among = a; shut = nothing_open at (open_clause done) h.passes })
    clauses_reads at s done (pos zero ∷ ws) a h =
        let t = closing_step_lem at s done ws a h in
        reads_word done (pos 0) ws (clauses_text ws) t.0
        (clauses_reads (at + 1) (clauses v c P (done ++ (pos 0 ∷ []))) (done ++ (pos 0 ∷ [])) ws (among_clauses (done ++ (pos 0 ∷ []))) t.1)
    clauses_reads at s done (pos (suc n) ∷ ws) a h =
        let t = literal_step_lem at s done (pos (suc n)) ws (omega arith) refl a h in
        reads_word done (pos (suc n)) ws (clauses_text ws) t.0
        (clauses_reads (at + 1) (clauses v c P (done ++ (pos (suc n) ∷ []))) (done ++ (pos (suc n) ∷ [])) ws (among_clauses (done ++ (pos (suc n) ∷ []))) t.1)
    clauses_reads at s done (negsuc n ∷ ws) a h =
        let t = literal_step_lem at s done (negsuc n) ws (omega arith) refl a h in
        reads_word done (negsuc n) ws (clauses_text ws) t.0
        (clauses_reads (at + 1) (clauses v c P (done ++ (negsuc n ∷ []))) (done ++ (negsuc n ∷ [])) ws (among_clauses (done ++ (negsuc n ∷ []))) t.1)
