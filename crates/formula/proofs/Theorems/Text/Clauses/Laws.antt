-- Laws of reading the clauses: the marks of the open clause's variables, and one law for each outcome of a token.
-- Assumes nothing.
use Rattle.std.specs.Prelude.{Result, Ok, Err}
use Rattle.formula.specs.declared.clauses.ClauseStep.{ClauseStep}
use Rattle.formula.specs.declared.clauses.ClauseStep.TheVariants.{Literal, Closed}
use Prim.Native.Nat.{ℕ, zero, suc, ◌+◌, ◌/◌, ◌%◌, ◌≤◌, ◌<◌, min}
use Rattle.std.specs.Prelude.{◌≡◌, Bool, ◌||◌, length, get_or, set, take, ltb, eqb, ℤ, pos, negsuc, nat_abs}
use Rattle.std.proofs.Math.Path.{refl, ap, sym}
use Rattle.std.proofs.Common.{◌∙◌, add-one, arith, get_or-set_same, get_or-set_other, take-suc-set, length-take-le}
use Rattle.std.proofs.Math.Bool.{true, false, and-false, or-true, or-false}
use Rattle.std.proofs.Math.Option.{Option, none, some}
use mathlib.Core.List.{List, [], ◌∷◌, ◌++◌}
use Rattle.std.proofs.Math.Decide.{ℕ_discrete}
use borrow.Author.Tests.{leb-true, leb-false, lt-leb, lt-ltb, le-ltb, eq-eqb, ne_eqb}
use Rattle.std.proofs.Math.ListN.{length-set}
use Rattle.std.proofs.Math.Dec.{leb}
use Rattle.formula.specs.Bounds.{variable_bound}
use Rattle.qbf.specs.Formula.{Prefix, listed}
use Rattle.formula.specs.Free.{occurs, completed}
use Rattle.formula.specs.Free.Complete.{is_listed, is_free_mark}
use Rattle.formula.proofs.Theorems.Free.Laws.{occurs_append}
use Rattle.formula.specs.Tables.{is_in, zeros}
use Rattle.formula.specs.Word.{signed}
use Rattle.formula.specs.Text.{reading_from, clauses, stopped, open_from, open_clause, is_open, literal_reason, closing_reason, put_literal, clause_token, clauses_ending, completing, step, ending}
use Rattle.formula.specs.Refusal.{unless, refused_at, require}
use Rattle.formula.specs.Text.Sets.{Listed}
use Rattle.formula.specs.Text.Clauses.{
  holds_open,
  mark_for,
  Marked,
  MarksFree,
  literal_step,
  marked_reason,
  LiteralPost,
  closing_step,
  ClosingPost,
  TokenStates,
  ClauseTokenPost,
  clauses_end,
  ClausesPost,
}
use Rattle.formula.specs.Text.Laws.{literal_fine, closing_fine, from_end, from_token, from_refused}
use Rattle.scanner.specs.Position.{position_at}
use Rattle.scanner.specs.Token.{tokens_at, Number, natural, negative, number_of}
use Rattle.scanner.specs.Token.Scan.{too_large, shown}
use Rattle.scanner.proofs.Theorems.Token.Laws.{Finds}
use Rattle.scanner.proofs.Theorems.Token.Numbers.{shown_natural, shown_negative, shown_no_number}
use Rattle.formula.specs.declared.refusal.Reason.TheVariants.{BadToken, Miscount}
use Rattle.formula.specs.declared.refusal.Reason.{Reason}
use Rattle.scanner.specs.declared.position.Position.{Position}
use Rattle.scanner.specs.declared.token.Token.{Token as Shown}
use Rattle.scanner.specs.declared.token.Token.TheVariants.{Natural, Negative, NoNumber}

-- One more word of a table.
take_push : (xs : List ℤ) (n : ℕ) (w : ℤ) → n < length xs → take (n + 1) (set xs n w) ≡ take n xs ++ (w ∷ [])
take_push xs n w h = rw add-one (take-suc-set xs n w h)

-- One more word: a literal joins the open clause, 0 closes it.
pub open_literal : (seen : List ℕ) (ws : List ℤ) (positive : Bool) (n : ℕ) → (n ≡ 0 → ⊥) → open_from seen (ws ++ (signed positive n ∷ [])) ≡ n ∷ open_from seen ws
unfolding open_from
open_literal seen [] positive zero z = absurd (z refl)
open_literal seen [] true (suc n) z = refl
open_literal seen [] false (suc n) z = refl
open_literal seen (pos zero ∷ ws) positive n z = open_literal [] ws positive n z
open_literal seen (pos (suc m) ∷ ws) positive n z = open_literal (suc m ∷ seen) ws positive n z
open_literal seen (negsuc m ∷ ws) positive n z = open_literal (suc m ∷ seen) ws positive n z

pub open_closing : (seen : List ℕ) (ws : List ℤ) → open_from seen (ws ++ (pos 0 ∷ [])) ≡ []
unfolding open_from
open_closing seen [] = refl
open_closing seen (pos zero ∷ ws) = open_closing [] ws
open_closing seen (pos (suc m) ∷ ws) = open_closing (suc m ∷ seen) ws
open_closing seen (negsuc m ∷ ws) = open_closing (suc m ∷ seen) ws

pub zeros_literal : (ws : List ℤ) (positive : Bool) (n : ℕ) → (n ≡ 0 → ⊥) → zeros (ws ++ (signed positive n ∷ [])) ≡ zeros ws
unfolding zeros
zeros_literal [] positive zero z = absurd (z refl)
zeros_literal [] true (suc n) z = refl
zeros_literal [] false (suc n) z = refl
zeros_literal (pos zero ∷ ws) positive n z = ap suc (zeros_literal ws positive n z)
zeros_literal (pos (suc m) ∷ ws) positive n z = zeros_literal ws positive n z
zeros_literal (negsuc m ∷ ws) positive n z = zeros_literal ws positive n z

pub zeros_closing : (ws : List ℤ) → zeros (ws ++ (pos 0 ∷ [])) ≡ suc (zeros ws)
unfolding zeros
zeros_closing [] = refl
zeros_closing (pos zero ∷ ws) = ap suc (zeros_closing ws)
zeros_closing (pos (suc m) ∷ ws) = zeros_closing ws
zeros_closing (negsuc m ∷ ws) = zeros_closing ws

-- The word of a literal has its variable's magnitude.
pub signed_magnitude : (positive : Bool) (n : ℕ) → nat_abs (signed positive n) ≡ n
signed_magnitude true n = refl
signed_magnitude false zero = refl
signed_magnitude false (suc n) = refl

pub occurs_literal : (v : ℕ) (ws : List ℤ) (positive : Bool) (n : ℕ) → occurs v (ws ++ (signed positive n ∷ [])) ≡ (occurs v ws || eqb v n)
unfolding occurs
occurs_literal v ws positive n = occurs_append v ws (signed positive n ∷ []) ∙ rw (signed_magnitude positive n) (ap (λ b. occurs v ws || b) (or-false (eqb v n)))

pub occurs_closing : (v : ℕ) (ws : List ℤ) → 1 ≤ v → occurs v (ws ++ (pos 0 ∷ [])) ≡ occurs v ws
unfolding occurs
occurs_closing v ws h = occurs_append v ws (pos 0 ∷ []) ∙ rw (ne_eqb v 0 (omega arith)) (or-false (occurs v ws))

-- The marks before the first clause, after a literal, after a closing 0.
pub marked_begins : (marks : List ℕ) (P : Prefix) → Listed marks P → Marked marks P [] 0
unfolding is_in open_from zeros occurs
marked_begins marks P L =
    record {
      size = L.size;
      says = λ v k. L.says v k ∙ parity (get_or marks v 0) (L.small v);
      seen = λ v k l. sym (le-ltb 1 (get_or marks v 0) (L.small v));
      holds = λ v k. sym (ne_eqb (get_or marks v 0 / 2) (0 + 1) (omega (arith, L.small v)));
      small = λ v. omega (arith, L.small v);
      count = refl;
    }
  where
    parity : (m : ℕ) → m ≤ 1 → ltb 0 m ≡ eqb (m % 2) 1
    parity m h = go (ℕ_discrete m 0)
      where
        go : Dec (m ≡ 0) → ltb 0 m ≡ eqb (m % 2) 1
        go (yes e) = rw e
        go (no e) = let one : m ≡ 1 = omega (arith, e) in rw one

module _ (marks : List ℕ) (P : Prefix) (words : List ℤ) (closed : ℕ) (M : Marked marks P words closed) where
  pub marked_literal : (positive : Bool) (n : ℕ) → n ≤ variable_bound → 1 ≤ n → Marked (set marks n (mark_for (get_or marks n 0) closed)) P (words ++ (signed positive n ∷ [])) closed
  unfolding is_in
  marked_literal positive n h l =
      record {
        size = rw length-set M.size;
        says = λ v k. says v k (ℕ_discrete v n);
        seen = λ v k b. occurs_literal v words positive n ∙ seen v k b (ℕ_discrete v n);
        holds = λ v k. rw (open_literal [] words positive n proper) (holds v k (ℕ_discrete v n));
        small = λ v. small v (ℕ_discrete v n);
        count = zeros_literal words positive n proper ∙ M.count;
      }
    where
      proper : n ≡ 0 → ⊥
      proper e = omega (arith, l, e)

      inside : n < length marks
      inside = omega (arith, M.size)

      new : ℕ
      new = mark_for (get_or marks n 0) closed

      says : (v : ℕ) → v ≤ variable_bound → Dec (v ≡ n) → is_in v (listed P) ≡ is_listed (get_or (set marks n new) v 0)
      says v k (yes e) =
          let same : new % 2 ≡ get_or marks n 0 % 2 = omega arith in
          rw (e, get_or-set_same marks n new 0 inside, same) (M.says n h)
      says v k (no e) = rw (get_or-set_other marks n v new 0 e) (M.says v k)

      seen : (v : ℕ) → v ≤ variable_bound → 1 ≤ v → Dec (v ≡ n) → (occurs v words || eqb v n) ≡ ltb 1 (get_or (set marks n new) v 0)
      seen v k b (yes e) = rw (e, get_or-set_same marks n new 0 inside, eq-eqb n n refl, or-true, lt-ltb 1 new (omega arith))
      seen v k b (no e) = rw (get_or-set_other marks n v new 0 e, ne_eqb v n e, or-false) (M.seen v k b)

      holds : (v : ℕ) → v ≤ variable_bound → Dec (v ≡ n) → is_in v (n ∷ open_clause words) ≡ holds_open (get_or (set marks n new) v 0) closed
      holds v k (yes e) =
          let half : new / 2 ≡ closed + 1 = omega arith in
          rw (e, get_or-set_same marks n new 0 inside, half, eq-eqb n n refl, eq-eqb (closed + 1) (closed + 1) refl)
      holds v k (no e) = rw (get_or-set_other marks n v new 0 e, ne_eqb v n e) (M.holds v k)

      small : (v : ℕ) → Dec (v ≡ n) → get_or (set marks n new) v 0 / 2 ≤ closed + 1
      small v (yes e) = rw (e, get_or-set_same marks n new 0 inside) (omega arith)
      small v (no e) = rw (get_or-set_other marks n v new 0 e) (M.small v)

  pub marked_closing : Marked marks P (words ++ (pos 0 ∷ [])) (closed + 1)
  unfolding is_in
  marked_closing =
      record {
        size = M.size;
        says = M.says;
        seen = λ v k b. occurs_closing v words b ∙ M.seen v k b;
        holds = λ v k. rw (open_closing [] words) (sym (ne_eqb (get_or marks v 0 / 2) (closed + 1 + 1) (omega (arith, M.small v))));
        small = λ v. omega (arith, M.small v);
        count = zeros_closing words ∙ ap suc M.count ∙ sym (add-one closed);
      }

  pub marks_free : MarksFree marks P words
  unfolding is_free_mark
  marks_free = record { size = M.size; frees = λ v l k. rw (M.seen v k l, M.says v k) }

pub literal_none : (x : Option Reason) → (Ok Literal) ≡ literal_step x → x ≡ none
literal_none none e = refl
literal_none (some r) e = let z : ◌≡◌ {A = ℕ} 0 1 = cc in absurd (omega arith)

-- What a literal does to the state and to the tables, by its answer: m is read as the literal of k, which the code has as n.
module _ {n v : ℕ} {positive : Bool} {used closed : ℕ} {table : List ℤ} {marks : List ℕ} {table' : List ℤ} {marks' : List ℕ} {answer : Result ClauseStep Reason} (small : v ≤ variable_bound) (room : used ≤ length table) (size : length marks ≡ variable_bound + 1) (m : Number) (k : ℕ) (isLiteral : (place prefixRoom c : ℕ) (P : Prefix) → clause_token prefixRoom (length table) place v c P (take used table) m ≡ put_literal prefixRoom (length table) place v c P (take used table) positive k) (s : min k too_large ≡ n) (post : LiteralPost n v positive used closed table marks table' marks' answer) where
  abbrev judged : Option Reason
  judged = marked_reason v n marks closed used (length table)

  literal_judged : (place prefixRoom c : ℕ) (P : Prefix) → Marked marks P (take used table) closed → clause_token prefixRoom (length table) place v c P (take used table) m ≡ unless (stopped place) judged (clauses v c P (take used table ++ (signed positive k ∷ [])))
  unfolding literal_reason
  literal_judged place prefixRoom c P M = isLiteral place prefixRoom c P ∙ go (leb k v) refl
    where
      go : (b : Bool) → leb k v ≡ b → put_literal prefixRoom (length table) place v c P (take used table) positive k ≡ unless (stopped place) judged (clauses v c P (take used table ++ (signed positive k ∷ [])))
      go true f =
          let h = leb-true k v f in
          let is : n ≡ k = omega (arith, s, small) in
          rw (length-take-le used table room, is, M.holds k (omega (arith, small)))
      go false f = rw (f, lt-leb n v (omega (arith, s, leb-false k v f, small)), and-false (ltb 0 k), and-false (ltb 0 n))

  pub literal_post : ClauseTokenPost m v used closed table marks table' marks' answer
  literal_post = go judged refl post.answers
    where
      go : (o : Option Reason) → judged ≡ o → answer ≡ literal_step o → ClauseTokenPost m v used closed table marks table' marks' answer
      go none e a =
          let f = literal_fine v n (holds_open (get_or marks n 0) closed) used (length table) e in
          let is : k ≡ n = omega (arith, s, f.in_range, small) in
          let stored = rw a at post.stores in
          let pushed : take (used + 1) table' ≡ take used table ++ (signed positive n ∷ []) = rw stored.0 (take_push table used (signed positive n) f.fits) in
          rw a (record {
            states = λ p rp c P M. (
              rw pushed (literal_judged p rp c P M ∙ rw (e, is)),
              rw (pushed, stored.1) (marked_literal marks P (take used table) closed M positive n (omega (arith, f.in_range, small)) f.least),
              rw (pushed, open_literal [] (take used table) positive n (λ z. omega (arith, f.least, z))),
            );
            stores = (f.fits, rw (stored.1, length-set) size);
          })
      go (some r) e a = rw a (record { states = λ p rp c P M. literal_judged p rp c P M ∙ rw e; stores = tt })

-- A number that is not 0 is a literal; so is one with a minus.
natural_literal : (v used : ℕ) (table : List ℤ) (k : ℕ) → (k ≡ 0 → ⊥) → (place prefixRoom c : ℕ) (P : Prefix) → clause_token prefixRoom (length table) place v c P (take used table) (natural k) ≡ put_literal prefixRoom (length table) place v c P (take used table) true k
natural_literal v used table zero z place prefixRoom c P = absurd (z refl)
natural_literal v used table (suc k) z place prefixRoom c P = refl

module _ {n v used closed : ℕ} {table : List ℤ} {marks : List ℕ} {table' : List ℤ} {marks' : List ℕ} {answer : Result ClauseStep Reason} (small : v ≤ variable_bound) (room : used ≤ length table) (size : length marks ≡ variable_bound + 1) where
  pub natural_post : (n ≡ 0 → ⊥) → LiteralPost n v true used closed table marks table' marks' answer → (m : Number) → shown m ≡ Natural n → ClauseTokenPost m v used closed table marks table' marks' answer
  natural_post z post m sh =
      let k = shown_natural m n sh in
      rw k.1 (literal_post small room size (natural k.0) k.0 (natural_literal v used table k.0 (λ e. z (omega (arith, k.2)))) k.2 post)

  pub negative_post : LiteralPost n v false used closed table marks table' marks' answer → (m : Number) → shown m ≡ Negative n → ClauseTokenPost m v used closed table marks table' marks' answer
  negative_post post m sh = let k = shown_negative m n sh in rw k.1 (literal_post small room size (negative k.0) k.0 (λ p rp c P. refl) k.2 post)

pub no_number_post : (v used closed : ℕ) (table : List ℤ) (marks : List ℕ) (table' : List ℤ) (marks' : List ℕ) (m : Number) → shown m ≡ NoNumber → ClauseTokenPost m v used closed table marks table' marks' (Err BadToken)
no_number_post v used closed table marks table' marks' m sh = rw (shown_no_number m sh) (record { states = λ p rp c P M. refl; stores = tt })

-- The same of a closing 0.
pub closing_post : {n v used closed : ℕ} {table table' : List ℤ} {marks : List ℕ} {answer : Result ClauseStep Reason} → used ≤ length table → length marks ≡ variable_bound + 1 → ClosingPost used table table' answer → n ≡ 0 → (m : Number) → shown m ≡ Natural n → ClauseTokenPost m v used closed table marks table' marks answer
closing_post {n} {v} {used} {closed} {table} {table'} {marks} {answer} room size post z m sh =
    let k = shown_natural m n sh in
    let none_left : k.0 ≡ 0 = omega (arith, k.2) in
    rw (k.1, none_left) (go (closing_reason used (length table)) refl post.answers)
  where
    go : (o : Option Reason) → closing_reason used (length table) ≡ o → answer ≡ closing_step o → ClauseTokenPost (natural 0) v used closed table marks table' marks answer
    go none e a =
        let f = closing_fine used (length table) e in
        let stored = rw a at post.stores in
        let pushed : take (used + 1) table' ≡ take used table ++ (pos 0 ∷ []) = rw stored (take_push table used (pos 0) f.fits) in
        rw a (record {
          states = λ p rp c P M. (
            rw (pushed, length-take-le used table room, e),
            rw pushed (marked_closing marks P (take used table) closed M),
            rw (pushed, open_closing [] (take used table)),
          );
          stores = (f.fits, size);
        })
    go (some r) e a = rw a (record { states = λ p rp c P M. rw (length-take-le used table room, e); stores = tt })

-- Among the clauses, at the place `at`: `used` words are used, `closed` clauses are closed, the open one from `start` on.
pub record ClausesRead (text : List ℕ) (from v c : ℕ) (room : ℕ) (table : List ℤ) (marks : List ℕ) (at used closed start prefixRoom : ℕ) (P : Prefix) : Type 0 where
  pub marked : Marked marks P (take used table) closed
  pub opened : is_open (open_clause (take used table)) ≡ ltb start used
  pub reads : reading_from prefixRoom room text (clauses v c P []) from ≡ reading_from prefixRoom room text (clauses v c P (take used table)) at

pub record ClausesSoFar (text : List ℕ) (from v c : ℕ) (table₀ table : List ℤ) (marks₀ marks : List ℕ) (at used closed start : ℕ) : Type 0 where
  pub room : used ≤ length table
  pub same : length table ≡ length table₀
  pub size : length marks ≡ variable_bound + 1
  pub begun : start ≤ used
  pub few : closed ≤ c
  pub sofar : (prefixRoom : ℕ) (P : Prefix) → Listed marks₀ P → ClausesRead text from v c (length table₀) table marks at used closed start prefixRoom P

pub clauses_begin : (text : List ℕ) (from v c : ℕ) (table : List ℤ) (marks : List ℕ) → length marks ≡ variable_bound + 1 → ClausesSoFar text from v c table table marks marks from 0 0 0
unfolding open_from
clauses_begin text from v c table marks h =
    record {
      room = omega arith;
      same = refl;
      size = h;
      begun = omega arith;
      few = omega arith;
      sofar = λ rp P L. record { marked = marked_begins marks P L; opened = refl; reads = refl };
    }

module _ {text : List ℕ} {from v c : ℕ} {table₀ table : List ℤ} {marks₀ marks : List ℕ} {at used closed start : ℕ} (I : ClausesSoFar text from v c table₀ table marks₀ marks at used closed start) where
  pub clauses_end_lem : tokens_at text at ≡ [] → (prefixRoom : ℕ) (P : Prefix) → Listed marks₀ P → ClausesPost text from v c prefixRoom P table₀ table marks (clauses_end (position_at text (length text)) (ltb start used) (ltb closed c) used)
  unfolding ending
  clauses_end_lem e rp P L =
      let R = I.sofar rp P L in
      go (ltb start used) (ltb closed c) (R.reads ∙ from_end rp (length table₀) text (clauses v c P (take used table)) at e ∙ rw (R.opened, R.marked.count))
    where
      go : (o m : Bool) → reading_from rp (length table₀) text (clauses v c P []) from ≡ clauses_ending text o m (completing rp text (completed v P (take used table)) (take used table) c) → ClausesPost text from v c rp P table₀ table marks (clauses_end (position_at text (length text)) o m used)
      go true m e = e
      go false true e = e
      go false false e = (e, I.room, marks_free marks P (take used table) closed (I.sofar rp P L).marked, refl)

  module _ {shows : Shown} {p k : Position} (f : Finds text at shows p k) where
    -- The token at hand goes to a clause, or is one too many.
    clauses_step : (b : Bool) → ltb closed c ≡ b → (prefixRoom : ℕ) (P : Prefix) → Listed marks₀ P → reading_from prefixRoom (length table₀) text (clauses v c P []) from ≡ reading_from prefixRoom (length table₀) text (require b (stopped p.place Miscount) (clause_token prefixRoom (length table₀) p.place v c P (take used table) (number_of f.bytes))) k.place
    unfolding step
    clauses_step b e rp P L =
        let R = I.sofar rp P L in
        R.reads ∙ from_token rp (length table₀) text (clauses v c P (take used table)) f ∙ rw (R.marked.count, e)

    pub clauses_over : c ≤ closed → (table' : List ℤ) (marks' : List ℕ) (prefixRoom : ℕ) (P : Prefix) → Listed marks₀ P → ClausesPost text from v c prefixRoom P table₀ table' marks' (Err (refused_at p Miscount))
    clauses_over h table' marks' rp P L =
        clauses_step false (le-ltb closed c h) rp P L ∙ from_refused rp (length table₀) text f.place_in Miscount k.place

    module _ (h : closed < c) where
      pub clauses_refuse : {r : Reason} {table' : List ℤ} {marks' : List ℕ} → ClauseTokenPost (number_of f.bytes) v used closed table marks table' marks' (Err r) → (prefixRoom : ℕ) (P : Prefix) → Listed marks₀ P → ClausesPost text from v c prefixRoom P table₀ table' marks' (Err (refused_at p r))
      clauses_refuse {r} post rp P L =
          clauses_step true (lt-ltb closed c h) rp P L ∙ rw (← I.same, post.states p.place rp c P (I.sofar rp P L).marked) (from_refused rp (length table) text f.place_in r k.place)

      pub clauses_literal : {table' : List ℤ} {marks' : List ℕ} → length table' ≡ length table → ClauseTokenPost (number_of f.bytes) v used closed table marks table' marks' (Ok Literal) → ClausesSoFar text from v c table₀ table' marks₀ marks' k.place (used + 1) closed start
      clauses_literal {table'} {marks'} l post =
          record {
            room = omega (arith, l, post.stores.0);
            same = l ∙ I.same;
            size = post.stores.1;
            begun = omega (arith, I.begun);
            few = I.few;
            sofar = λ rp P L. more rp P L (post.states p.place rp c P (I.sofar rp P L).marked);
          }
        where
          more : (rp : ℕ) (P : Prefix) → Listed marks₀ P → TokenStates (number_of f.bytes) p.place v used closed table table' marks' rp c P (Ok Literal) → ClausesRead text from v c (length table₀) table' marks' k.place (used + 1) closed start rp P
          more rp P L s =
              record {
                marked = s.1;
                opened = s.2 ∙ sym (lt-ltb start (used + 1) (omega (arith, I.begun)));
                reads = clauses_step true (lt-ltb closed c h) rp P L ∙ rw (← I.same, s.0);
              }

      pub clauses_closed : {table' : List ℤ} {marks' : List ℕ} → length table' ≡ length table → ClauseTokenPost (number_of f.bytes) v used closed table marks table' marks' (Ok Closed) → ClausesSoFar text from v c table₀ table' marks₀ marks' k.place (used + 1) (closed + 1) (used + 1)
      clauses_closed {table'} {marks'} l post =
          record {
            room = omega (arith, l, post.stores.0);
            same = l ∙ I.same;
            size = post.stores.1;
            begun = omega arith;
            few = omega arith;
            sofar = λ rp P L. more rp P L (post.states p.place rp c P (I.sofar rp P L).marked);
          }
        where
          more : (rp : ℕ) (P : Prefix) → Listed marks₀ P → TokenStates (number_of f.bytes) p.place v used closed table table' marks' rp c P (Ok Closed) → ClausesRead text from v c (length table₀) table' marks' k.place (used + 1) (closed + 1) (used + 1) rp P
          more rp P L s =
              record {
                marked = s.1;
                opened = s.2 ∙ sym (le-ltb (used + 1) (used + 1) (omega arith));
                reads = clauses_step true (lt-ltb closed c h) rp P L ∙ rw (← I.same, s.0);
              }
