-- Laws of reading the sets: the marks of the variables listed, and one law for each outcome of a token in a set.
-- Assumes nothing.
use Rattle.std.specs.Prelude.{Result, Ok, Err}
use Rattle.formula.specs.declared.sets.SetStep.{SetStep}
use Rattle.formula.specs.declared.sets.SetStep.TheVariants.{Listed as Lists, Closed}
use Prim.Native.Nat.{ℕ, zero, suc, ◌+◌, ◌≤◌, ◌<◌, min}
use Rattle.std.proofs.Math.Path.{◌≡◌, refl, sym}
use Rattle.std.proofs.Common.{◌∙◌, add-one, arith, length-set, get_or-set_same, get_or-set_other}
use Rattle.std.specs.Prelude.{Bool, ◌||◌, length, get_or, set, ltb, eqb, ℤ}
use Rattle.std.proofs.Math.Bool.{true, false, or-true, or-false}
use Rattle.std.proofs.Math.Option.{Option, none, some}
use mathlib.Core.List.{List, [], ◌∷◌, ◌++◌}
use Rattle.std.proofs.Math.Decide.{ℕ_discrete}
use borrow.Author.Tests.{leb-true, leb-false, lt-leb, lt-ltb, le-ltb, eq-eqb, ne_eqb}
use Rattle.std.proofs.Math.Dec.{leb}
use Rattle.qbf.specs.Formula.{Quantifier, entry, Prefix, listed}
use Rattle.formula.specs.Bounds.{variable_bound}
use Rattle.formula.specs.Refusal.{refused_at, unless}
use Rattle.formula.specs.Prefix.{entries_in, entry_words, entry_fits, quantifier_of}
use Rattle.formula.specs.Prefix.Laws.{entries_none, entries_length, put_entries, put_within}
use Rattle.formula.specs.Tables.{is_in, zeros}
use Rattle.scanner.specs.Position.Cursor.{PositionIn}
use Rattle.scanner.specs.Token.{tokens_at, same, a_text, e_text, Number, natural, number_of}
use Rattle.scanner.specs.Token.Scan.{too_large, shown}
use Rattle.scanner.proofs.Theorems.Token.Laws.{Finds}
use Rattle.scanner.proofs.Theorems.Token.Numbers.{shown_natural, shown_negative, shown_no_number}
use Rattle.formula.specs.Text.{between_sets, in_set, clauses, stopped, at_end, opens, open_from, variable_reason, set_token, clauses_token, step, ending, reading_from}
use Rattle.formula.proofs.Theorems.Text.Distinct.{or_no, prefix_more}
use Rattle.formula.specs.Text.Laws.{variable_fine, from_end, from_token, from_refused}
use Rattle.formula.specs.Text.Sets.{Listed, listing, ListingPost, set_closing, SetTokenPost, SetPost, SetsPost}
use Rattle.formula.specs.declared.refusal.Reason.TheVariants.{BadToken, Unfinished}
use Rattle.formula.specs.declared.refusal.Reason.{Reason}
use Rattle.formula.specs.declared.refusal.Refusal.{Refusal}
use Rattle.scanner.specs.declared.position.Position.{Position}
use Rattle.scanner.specs.declared.token.Token.{Token as Shown}
use Rattle.scanner.specs.declared.token.Token.TheVariants.{Natural, Negative, NoNumber}

-- One more entry lists its variable.
pub listed_snoc : (v : ℕ) (P : Prefix) (n : ℕ) (q : Quantifier) → is_in v (listed (P ++ (entry n q ∷ []))) ≡ (is_in v (listed P) || eqb v n)
unfolding is_in
listed_snoc v [] n q = or-false (eqb v n)
listed_snoc v (x ∷ P) n q = go (eqb v x.variable) (listed_snoc v P n q)
  where
    go : (b : Bool) → is_in v (listed (P ++ (entry n q ∷ []))) ≡ (is_in v (listed P) || eqb v n) → (b || is_in v (listed (P ++ (entry n q ∷ [])))) ≡ ((b || is_in v (listed P)) || eqb v n)
    go true e = refl
    go false e = e

-- The marks after a variable is listed.
listed_more : (marks : List ℕ) (P : Prefix) (q : Quantifier) (n : ℕ) → n ≤ variable_bound → 0 < n → ltb 0 (get_or marks n 0) ≡ false → Listed marks P → Listed (set marks n 1) (P ++ (entry n q ∷ []))
listed_more marks P q n h z fresh L =
    record { size = rw length-set L.size; nought = rw (get_or-set_other marks n 0 1 0 (λ e. omega arith)) L.nought; says = λ v k. says v k (ℕ_discrete v n); small = λ v. small v (ℕ_discrete v n); fine = prefix_more variable_bound P q n L.fine z h (L.says n h ∙ fresh) }
  where
    inside : n < length marks
    inside = omega (arith, L.size)

    says : (v : ℕ) → v ≤ variable_bound → Dec (v ≡ n) → is_in v (listed (P ++ (entry n q ∷ []))) ≡ ltb 0 (get_or (set marks n 1) v 0)
    says v k (yes e) =
        rw (listed_snoc v P n q, e, get_or-set_same marks n 1 0 inside, eq-eqb n n refl) (or-true (is_in n (listed P)))
    says v k (no e) =
        rw (listed_snoc v P n q, get_or-set_other marks n v 1 0 e, ne_eqb v n e) (or-false (is_in v (listed P)) ∙ L.says v k)

    small : (v : ℕ) → Dec (v ≡ n) → get_or (set marks n 1) v 0 ≤ 1
    small v (yes e) = rw (e, get_or-set_same marks n 1 0 inside) (omega arith)
    small v (no e) = rw (get_or-set_other marks n v 1 0 e) (L.small v)

-- What a number other than 0 does to the state and to the tables, by its answer.
module _ {n v : ℕ} {q : Quantifier} {used : ℕ} {prefix : List ℤ} {marks : List ℕ} {prefix' : List ℤ} {marks' : List ℕ} {answer : Result SetStep Reason} (filled : Bool) (small : v ≤ variable_bound) (room : entry_words used ≤ length prefix) (L : Listed marks (entries_in prefix used)) (z : 0 < n) (post : ListingPost n v q used prefix marks prefix' marks' answer) where
  -- It is judged by its mark.
  abbrev judged : Option Reason
  judged = variable_reason v n (ltb 0 (get_or marks n 0)) (entry_fits (length prefix) used)

  -- The number k as the code has it, at most one more than the largest word; above V both are refused so.
  set_judged : (k place c clauseRoom : ℕ) → min k too_large ≡ n → set_token (length prefix) clauseRoom place v c q filled (entries_in prefix used) (natural k) ≡ unless (stopped place) judged (in_set v c q true (entries_in prefix used ++ (entry k q ∷ [])))
  unfolding variable_reason
  set_judged zero place c clauseRoom e = absurd (omega arith)
  set_judged (suc k) place c clauseRoom e = go (leb (suc k) v) refl
    where
      go : (b : Bool) → leb (suc k) v ≡ b → set_token (length prefix) clauseRoom place v c q filled (entries_in prefix used) (natural (suc k)) ≡ unless (stopped place) judged (in_set v c q true (entries_in prefix used ++ (entry (suc k) q ∷ [])))
      go true f =
          let s : suc k ≡ n = omega (arith, leb-true (suc k) v f, small) in
          rw (entries_length prefix used room, ← s, L.says (suc k) (omega (arith, leb-true (suc k) v f, small)))
      go false f = rw (f, lt-leb n v (omega (arith, leb-false (suc k) v f, small)))

  pub variable_post : (m : Number) → shown m ≡ Natural n → SetTokenPost m v q filled used prefix marks prefix' marks' answer
  variable_post m sh = let k = shown_natural m n sh in rw k.1 (go k.0 k.2 judged refl post.answers)
    where
      go : (k : ℕ) → min k too_large ≡ n → (o : Option Reason) → judged ≡ o → answer ≡ listing (used + 1) o → SetTokenPost (natural k) v q filled used prefix marks prefix' marks' answer
      go k s none e a =
          let f = variable_fine v n (ltb 0 (get_or marks n 0)) (entry_fits (length prefix) used) e in
          let is : k ≡ n = omega (arith, f.in_range, small) in
          let stored = rw a at post.stores in
          let pushed : entries_in prefix' (used + 1) ≡ entries_in prefix used ++ (entry n q ∷ []) = rw (stored.0, add-one) (put_entries prefix used n q 0 f.room (omega (arith, f.in_range, small))) in
          rw a (record {
            states = λ p c rc. rw pushed (set_judged k p c rc s ∙ rw (e, is));
            stores = (
              omega arith,
              rw add-one (put_within (length prefix) used f.room),
              rw (pushed, stored.1) (listed_more marks (entries_in prefix used) q n (omega (arith, f.in_range, small)) z f.fresh L),
            );
          })
      go k s (some r) e a = rw a (record { states = λ p c rc. set_judged k p c rc s ∙ rw e; stores = tt })

-- A set's closing 0, and what is no number without minus.
pub closing_post : (n v : ℕ) (q : Quantifier) (filled : Bool) (used : ℕ) (prefix : List ℤ) (marks : List ℕ) → n ≤ 0 → (m : Number) → shown m ≡ Natural n → SetTokenPost m v q filled used prefix marks prefix marks (set_closing filled)
closing_post n v q filled used prefix marks z m sh = let k = shown_natural m n sh in rw k.1 (go k.0 filled k.2)
  where
    go : (k : ℕ) (filled : Bool) → min k too_large ≡ n → SetTokenPost (natural k) v q filled used prefix marks prefix marks (set_closing filled)
    go zero true e = record { states = λ p c rc. refl; stores = (refl, refl) }
    go zero false e = record { states = λ p c rc. refl; stores = tt }
    go (suc k) filled e = absurd (omega arith)

pub negative_post : (n v : ℕ) (q : Quantifier) (filled : Bool) (used : ℕ) (prefix : List ℤ) (marks : List ℕ) (prefix' : List ℤ) (marks' : List ℕ) (m : Number) → shown m ≡ Negative n → SetTokenPost m v q filled used prefix marks prefix' marks' (Err BadToken)
negative_post n v q filled used prefix marks prefix' marks' m sh = rw (shown_negative m n sh).1 (record { states = λ p c rc. refl; stores = tt })

pub no_number_post : (v : ℕ) (q : Quantifier) (filled : Bool) (used : ℕ) (prefix : List ℤ) (marks : List ℕ) (prefix' : List ℤ) (marks' : List ℕ) (m : Number) → shown m ≡ NoNumber → SetTokenPost m v q filled used prefix marks prefix' marks' (Err BadToken)
no_number_post v q filled used prefix marks prefix' marks' m sh = rw (shown_no_number m sh) (record { states = λ p c rc. refl; stores = tt })

-- In a set, at the place `at`: `used` words were used as it began, n are now.
pub record SetSoFar (text : List ℕ) (start v : ℕ) (q : Quantifier) (used : ℕ) (prefix₀ prefix : List ℤ) (marks : List ℕ) (at n : ℕ) : Type 0 where
  pub room : entry_words n ≤ length prefix
  pub more : used ≤ n
  pub same : length prefix ≡ length prefix₀
  pub listed : Listed marks (entries_in prefix n)
  pub on : start ≤ at
  pub reads : (c clauseRoom : ℕ) → reading_from (length prefix₀) clauseRoom text (in_set v c q false (entries_in prefix₀ used)) start ≡ reading_from (length prefix₀) clauseRoom text (in_set v c q (ltb used n) (entries_in prefix n)) at

pub set_begins : (text : List ℕ) (start v : ℕ) (q : Quantifier) (used : ℕ) (prefix : List ℤ) (marks : List ℕ) → entry_words used ≤ length prefix → Listed marks (entries_in prefix used) → SetSoFar text start v q used prefix prefix marks start used
set_begins text start v q used prefix marks h L =
    record { room = h; more = omega arith; same = refl; listed = L; on = omega arith; reads = λ c rc. rw (le-ltb used used (omega arith)) }

module _ {text : List ℕ} {start v : ℕ} {q : Quantifier} {used : ℕ} {prefix₀ prefix : List ℤ} {marks : List ℕ} {at n : ℕ} (I : SetSoFar text start v q used prefix₀ prefix marks at n) where
  pub set_ends : tokens_at text at ≡ [] → (prefix' : List ℤ) (marks' : List ℕ) → SetPost text start v q used prefix₀ prefix' marks' (Err (at_end text Unfinished))
  unfolding ending
  set_ends e prefix' marks' = λ c rc. I.reads c rc ∙ from_end (length prefix₀) rc text _ at e

  module _ {shows : Shown} {p k : Position} (f : Finds text at shows p k) where
    -- The token at hand goes to the set.
    set_step : (c rc : ℕ) → reading_from (length prefix₀) rc text (in_set v c q false (entries_in prefix₀ used)) start ≡ reading_from (length prefix₀) rc text (set_token (length prefix₀) rc p.place v c q (ltb used n) (entries_in prefix n) (number_of f.bytes)) k.place
    unfolding step
    set_step c rc = I.reads c rc ∙ from_token (length prefix₀) rc text _ f

    pub set_closes : {prefix' : List ℤ} {marks' : List ℕ} → SetTokenPost (number_of f.bytes) v q (ltb used n) n prefix marks prefix' marks' (Ok Closed) → SetPost text start v q used prefix₀ prefix' marks' (Ok (record { entries = n; next = k }))
    set_closes post =
        rw (post.stores.0, post.stores.1) (λ c rc. set_step c rc ∙ rw (← I.same, post.states p.place c rc), I.listed, I.room, omega (arith, f.after, I.on), f.next_in)

    pub set_refuses : {r : Reason} {prefix' : List ℤ} {marks' : List ℕ} → SetTokenPost (number_of f.bytes) v q (ltb used n) n prefix marks prefix' marks' (Err r) → SetPost text start v q used prefix₀ prefix' marks' (Err (refused_at p r))
    set_refuses {r} post = λ c rc. set_step c rc ∙ rw (← I.same, post.states p.place c rc) (from_refused (length prefix) rc text f.place_in r k.place)

    pub set_lists : {more : ℕ} {prefix' : List ℤ} {marks' : List ℕ} → length prefix' ≡ length prefix → SetTokenPost (number_of f.bytes) v q (ltb used n) n prefix marks prefix' marks' (Ok (Lists more)) → SetSoFar text start v q used prefix₀ prefix' marks' k.place more
    set_lists {more} l post =
        record {
          room = omega (arith, l, post.stores.1);
          more = omega (arith, I.more, post.stores.0);
          same = l ∙ I.same;
          listed = post.stores.2;
          on = omega (arith, f.after, I.on);
          reads = λ c rc. set_step c rc ∙ rw (← I.same, post.states p.place c rc, lt-ltb used more (omega (arith, I.more, post.stores.0)));
        }

-- Between sets, at the place `at`: `used` words are used.
pub record SetsSoFar (text : List ℕ) (start v : ℕ) (prefix₀ prefix : List ℤ) (marks : List ℕ) (at used : ℕ) : Type 0 where
  pub room : entry_words used ≤ length prefix
  pub same : length prefix ≡ length prefix₀
  pub listed : Listed marks (entries_in prefix used)
  pub reads : (c clauseRoom : ℕ) → reading_from (length prefix₀) clauseRoom text (between_sets v c []) start ≡ reading_from (length prefix₀) clauseRoom text (between_sets v c (entries_in prefix used)) at

none_used : {n : ℕ} → entry_words 0 ≤ n
unfolding entry_words
none_used = omega arith

pub sets_begin : (text : List ℕ) (start v : ℕ) (prefix : List ℤ) (marks : List ℕ) → Listed marks [] → SetsSoFar text start v prefix prefix marks start 0
sets_begin text start v prefix marks L =
    record { room = none_used; same = refl; listed = rw entries_none L; reads = λ c rc. rw entries_none }

module _ {text : List ℕ} {start v : ℕ} {prefix₀ prefix : List ℤ} {marks : List ℕ} {at : Position} {used : ℕ} (within : PositionIn text at) (I : SetsSoFar text start v prefix₀ prefix marks at.place used) where
  -- The sets are over where the same is read from the clauses on.
  over : ((c rc : ℕ) → reading_from (length prefix₀) rc text (between_sets v c (entries_in prefix used)) at.place ≡ reading_from (length prefix₀) rc text (clauses v c (entries_in prefix used) []) at.place) → SetsPost text start v prefix₀ prefix marks (Ok (record { entries = used; next = at }))
  over e = (λ c rc. I.reads c rc ∙ e c rc, I.listed, I.room, within)

  pub sets_end : tokens_at text at.place ≡ [] → SetsPost text start v prefix₀ prefix marks (Ok (record { entries = used; next = at }))
  unfolding ending open_from zeros
  sets_end e = over (λ c rc. from_end (length prefix₀) rc text (between_sets v c (entries_in prefix used)) at.place e ∙ sym (from_end (length prefix₀) rc text (clauses v c (entries_in prefix used) []) at.place e))

  module _ {shows : Shown} {p k : Position} (f : Finds text at.place shows p k) where
    -- A token that is no quantifier's letter.
    pub sets_over : (same f.bytes e_text || same f.bytes a_text) ≡ false → SetsPost text start v prefix₀ prefix marks (Ok (record { entries = used; next = at }))
    unfolding step
    sets_over h =
        let both = or_no (same f.bytes e_text) (same f.bytes a_text) h in
        over (λ c rc. from_token (length prefix₀) rc text (between_sets v c (entries_in prefix used)) f ∙ rw (both.0, both.1) (sym (from_token (length prefix₀) rc text (clauses v c (entries_in prefix used) []) f)))

    module _ (h : (same f.bytes e_text || same f.bytes a_text) ≡ true) where
      -- The letter opens a set.
      opens_set : (c rc : ℕ) → reading_from (length prefix₀) rc text (between_sets v c []) start ≡ reading_from (length prefix₀) rc text (in_set v c (quantifier_of (same f.bytes e_text)) false (entries_in prefix used)) k.place
      unfolding step
      opens_set c rc = I.reads c rc ∙ from_token (length prefix₀) rc text (between_sets v c (entries_in prefix used)) f ∙ rw (go (same f.bytes e_text) (same f.bytes a_text) h)
        where
          go : (e a : Bool) → (e || a) ≡ true → opens e a v c (entries_in prefix used) (clauses_token (length prefix₀) rc p.place v c (entries_in prefix used) [] (number_of f.bytes)) ≡ in_set v c (quantifier_of e) false (entries_in prefix used)
          go true a h = refl
          go false true h = refl
          go false false h = let z : ◌≡◌ {A = ℕ} 0 1 = cc in absurd (omega arith)

      pub sets_refuse : {r : Refusal} → SetPost text k.place v (quantifier_of (same f.bytes e_text)) used prefix prefix marks (Err r) → (prefix' : List ℤ) (marks' : List ℕ) → SetsPost text start v prefix₀ prefix' marks' (Err r)
      sets_refuse post prefix' marks' = λ c rc. opens_set c rc ∙ rw (← I.same) (post c rc)

      pub sets_on : (n : ℕ) (after : Position) (prefix' : List ℤ) (marks' : List ℕ) → length prefix' ≡ length prefix → SetPost text k.place v (quantifier_of (same f.bytes e_text)) used prefix prefix' marks' (Ok (record { entries = n; next = after })) → SetsSoFar text start v prefix₀ prefix' marks' after.place n
      sets_on n after prefix' marks' l post =
          record { room = post.2; same = l ∙ I.same; listed = post.1; reads = λ c rc. opens_set c rc ∙ rw (← I.same) (post.0 c rc) }
