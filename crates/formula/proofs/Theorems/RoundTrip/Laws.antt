-- The round trip: `written_read`, of the definitions, and `round_trip`, of the two entries' contracts. Assumes nothing.
use Rattle.std.specs.Prelude.{Result, Ok}
use Rattle.formula.specs.declared.read.Filled.{Filled}
use Rattle.std.specs.Prelude.{ℕ, ◌-◌, ◌≤◌, max, ◌≡◌, refl, ◌⊎◌, Bool, true, false, length, take, replicate, leb, ℤ}
use Rattle.std.proofs.Math.Path.{ap}
use Rattle.std.proofs.Common.{sym, ◌∙◌, inl, inr, le-leb, le-ltb, take_at}
use Rattle.std.proofs.Math.Option.{Option, none, some}
use mathlib.Core.List.Memᴰ
use mathlib.Core.List.{List, [], ◌∷◌, append-nil, Memᴰ}
use native.Mathlib.Omega.{arith}
use Rattle.qbf.specs.Formula.{Entry, Prefix, listed}
use Rattle.formula.specs.Bounds.{text_bound}
use Rattle.formula.specs.Free.{completed}
use Rattle.formula.proofs.Theorems.Free.Laws.{completed_listed}
use Rattle.formula.specs.Prefix.{prefix_of, entry_words}
use Rattle.formula.specs.Tables.{is_in, zeros, listed_in, first_refusal, tables_refusal, Admitted}
use Rattle.formula.proofs.Theorems.Tables.Laws.{
  is_in_sound,
  table_length,
  admitted_words,
  admitted_clauses,
  admitted_clauses_length,
  admitted_count,
  admitted_entries,
  admitted_prefix_distinct,
}
use Rattle.formula.specs.Write.{written, header_text, largest, if_room, writing_refusal, answer_writing, text_after, Writes}
use Rattle.formula.specs.Write.Stream.{clauses_text}
use Rattle.formula.proofs.Theorems.Write.Lines.{written_stream}
use Rattle.formula.proofs.Theorems.Write.Length.{largest_bounded, written_fits}
use Rattle.scanner.specs.Token.{is_blank, lead_from, tokens_from, tokens}
use Rattle.formula.proofs.Theorems.Text.Admits.{read_admitted}
use Rattle.formula.specs.Text.{read, wantsP, between_sets, open_from, run, ending, reading, ReadPost}
use Rattle.formula.specs.RoundTrip.{ReadBack}
use Rattle.formula.specs.RoundTrip.Scan.{Takes, takes_append}
use Rattle.formula.proofs.Theorems.RoundTrip.Prefix.{Lists, header_takes, prefix_taken}
use Rattle.formula.proofs.Theorems.RoundTrip.Clauses.{all_known, Passes, AllRead, among_sets, clauses_reads}
use Rattle.formula.specs.declared.refusal.Refusal.{Refusal}

-- No variable of the prefix is above V.
member_largest : (P : Prefix) (x : Entry) → Memᴰ x P → x.variable ≤ largest P
unfolding largest
member_largest [] x m = absurd (Memᴰ.not-nil m)
member_largest (y ∷ P) x m = go (Memᴰ.cases_cons m) (λ k. member_largest P x k)
  where
    go : (x ≡ y) ⊎ Memᴰ x P → (Memᴰ x P → x.variable ≤ largest P) → x.variable ≤ max y.variable (largest P)
    go (inl e) later = omega (arith, ap (λ (z : Entry). z.variable) e)
    go (inr k) later = omega (arith, later k)

listed_largest : (P : Prefix) (n : ℕ) → is_in n (listed P) ≡ true → n ≤ largest P
listed_largest P n h =
    let t = Memᴰ.of_map (λ (x : Entry). x.variable) P (is_in_sound n (listed P) h) in
    omega (arith, t.2, member_largest P t.0 t.1)

-- A text that begins with `p` has no comment.
tokens_p : (bytes : List ℕ) → tokens (112 ∷ bytes) ≡ tokens_from 0 [] (112 ∷ bytes)
unfolding lead_from is_blank
tokens_p bytes = refl

module _ (p c : List ℤ) (prefixRoom clauseRoom : ℕ) (a : Admitted p c) (h : length p ≤ prefixRoom) (k : length c ≤ clauseRoom) where
  prefix_lists : Lists (largest (prefix_of p)) prefixRoom [] (prefix_of p)
  unfolding entry_words
  prefix_lists =
      record {
        range = λ n m.
            let t = Memᴰ.of_map (λ (x : Entry). x.variable) (prefix_of p) m in
            rw (← t.2) (((admitted_entries p c a).ranged t.0 t.1).0, member_largest (prefix_of p) t.0 t.1);
        distinct = admitted_prefix_distinct p c a;
        fresh = λ u m n. Memᴰ.not-nil m;
        within = omega (arith, table_length p (admitted_words p c a));
      }

  clauses_passes : Passes prefixRoom clauseRoom (largest (prefix_of p)) (zeros c) (prefix_of p) 0 [] c
  unfolding open_from zeros
  clauses_passes =
      record { passes = admitted_clauses p c a; count = omega arith; words = omega (arith, admitted_clauses_length p c a); room = omega arith }

  clauses_read_lem : AllRead prefixRoom clauseRoom (largest (prefix_of p)) (zeros c) (prefix_of p) (between_sets (largest (prefix_of p)) (zeros c) (prefix_of p)) (clauses_text c) c
  clauses_read_lem =
      clauses_reads prefixRoom clauseRoom (largest (prefix_of p)) (zeros c) (prefix_of p)
      (largest_bounded p (admitted_entries p c a))
      (listed_largest (prefix_of p))
      0
      (between_sets (largest (prefix_of p)) (zeros c) (prefix_of p))
      []
      c
      (among_sets prefixRoom clauseRoom (largest (prefix_of p)) (zeros c) (prefix_of p))
      clauses_passes

  -- The whole text takes the reader from its start to where all is read.
  text_taken : Takes prefixRoom clauseRoom wantsP (written p c) clauses_read_lem.after
  text_taken =
      rw (written_stream p c a)
      (takes_append prefixRoom clauseRoom
      (header_takes prefixRoom clauseRoom (largest (prefix_of p)) (zeros c) (largest_bounded p (admitted_entries p c a)) (admitted_count p c a))
      (takes_append prefixRoom clauseRoom
      (prefix_taken prefixRoom clauseRoom (largest (prefix_of p)) (zeros c) (prefix_of p) (largest_bounded p (admitted_entries p c a)) prefix_lists)
      clauses_read_lem.taken))

  tokens_written : tokens (written p c) ≡ tokens_from 0 [] (written p c)
  unfolding written header_text
  tokens_written = tokens_p _

  run_written : run prefixRoom clauseRoom wantsP (tokens (written p c)) ≡ clauses_read_lem.after
  unfolding run tokens_from
  run_written =
      ap (run prefixRoom clauseRoom wantsP) (tokens_written ∙ ap (tokens_from 0 []) (sym (append-nil (written p c))))
      ∙ text_taken.takes 0 []

  -- Every variable of the clauses is listed, so the prefix is complete.
  complete_written : completed (largest (prefix_of p)) (prefix_of p) c ≡ prefix_of p
  complete_written = completed_listed (largest (prefix_of p)) (prefix_of p) c (all_known (listed_in p) 0 [] c (admitted_clauses p c a))

  ending_written : (text : List ℕ) → ending prefixRoom text clauses_read_lem.after ≡ read p c (zeros c)
  ending_written text =
      clauses_read_lem.among.ends text
      ∙ rw (clauses_read_lem.shut, le-ltb (zeros c) (zeros c) (omega arith), complete_written, admitted_words p c a, le-leb (length p) prefixRoom h)

  -- What is written is read as the tables that it was written from.
  pub written_read : reading (written p c) prefixRoom clauseRoom ≡ read p c (zeros c)
  unfolding reading
  written_read = rw (le-leb (length (written p c)) text_bound (written_fits p c a), run_written) (ending_written (written p c))

-- What is read, written and read again is the same: the completed prefix is listed whole.
pub read_written :
    (text : List ℕ) (prefixRoom clauseRoom : ℕ) (p c : List ℤ) (count : ℕ) → reading text prefixRoom clauseRoom ≡ read p c count
    → (prefixRoom' clauseRoom' : ℕ) → length p ≤ prefixRoom' → length c ≤ clauseRoom' → reading (written p c) prefixRoom' clauseRoom' ≡ read p c count
read_written text prefixRoom clauseRoom p c count e prefixRoom' clauseRoom' h k =
    let a = read_admitted text prefixRoom clauseRoom p c count e in
    written_read p c prefixRoom' clauseRoom' a.admitted h k ∙ rw a.counted

-- A text that was written: the tables are admitted, and its used part is the written text.
record WasWritten (p c : List ℤ) (used : ℕ) (text : List ℕ) : Type 0 where
  admitted : Admitted p c
  part : take used text ≡ written p c

was_written : (p c : List ℤ) (room used : ℕ) (text : List ℕ) → Writes p c room (Ok used) text → WasWritten p c used text
unfolding writing_refusal
was_written p c room used text w = go (tables_refusal p c) refl (leb (length (written p c)) room) w.answers w.leaves
  where
    go :
        (o : Option Refusal) → tables_refusal p c ≡ o → (b : Bool)
        → Ok used ≡ answer_writing (first_refusal o (if_room b)) (length (written p c))
        → text ≡ text_after (first_refusal o (if_room b)) (written p c) room
        → WasWritten p c used text
    go none q true e f =
        let n : used ≡ length (written p c) = cc in
        record { admitted = record { passes = q }; part = rw (f, n) (take_at (written p c) (replicate (room - length (written p c)) 0) (length (written p c)) refl) }
    go none q false e f = let z : ◌≡◌ {A = ℕ} 0 1 = cc in absurd (omega arith)
    go (some r) q b e f = let z : ◌≡◌ {A = ℕ} 0 1 = cc in absurd (omega arith)

pub round_trip :
    (p c : List ℤ) (room used : ℕ) (text : List ℕ) (prefix clauses prefix' clauses' : List ℤ) (answer : Result Filled Refusal)
    → Writes p c room (Ok used) text
    → length p ≤ length prefix
    → length c ≤ length clauses
    → ReadPost (take used text) prefix clauses prefix' clauses' answer
    → ReadBack p c prefix clauses prefix' clauses' answer
round_trip p c room used text prefix clauses prefix' clauses' answer w h k r =
    let t = was_written p c room used text w in
    let e : reading (take used text) (length prefix) (length clauses) ≡ read p c (zeros c) =
    rw t.part (written_read p c (length prefix) (length clauses) t.admitted h k) in
    record { answers = rw e at r.answers; fills_prefix = rw e at r.fills_prefix; fills_clauses = rw e at r.fills_clauses }
