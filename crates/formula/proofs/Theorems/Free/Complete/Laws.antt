-- Laws of the completion as the code does it: the next variable, entries put in front of those that were moved on, blocks numbered last.
-- Assumes nothing.
use Rattle.std.specs.Prelude.{ℕ, zero, suc, ◌+◌, ◌≤◌, ◌<◌, ◌≡◌, refl, Bool, true, false, List, [], ◌∷◌, ◌++◌, ℤ, length, get_or, take, drop}
use Rattle.std.proofs.Math.Path.{ap}
use Rattle.std.proofs.Common.{sym, ◌∙◌, append-nil, arith, length-append, length-drop, get_or-drop, add-one, one-add}
use Rattle.std.proofs.lemmas.List.{map-append, length-map}
use Rattle.std.specs.List.{count_by}
use Rattle.std.proofs.lemmas.List.Sums.{count_by_more_yes, count_by_more_no}
use Rattle.std.proofs.Math.Seq.{length-take-le}
use Rattle.qbf.specs.Formula.{existential, entry}
use Rattle.formula.specs.Bounds.{variable_bound}
use Rattle.formula.specs.Prefix.{prefix_of, prefix_words, entry_words, entries_in, entry_fits, put_entry, Moved, entry_count, Entries}
use Rattle.formula.specs.Prefix.Laws.{words_rise, words_sum, put_entries, entry_room, put_same, put_before, entries_none, entries_sum, entries_length}
use Rattle.formula.specs.Free.{passing, existentials}
use Rattle.formula.specs.Free.Complete.{is_free_mark, free_marked, FreePut, completed_in}
use Rattle.formula.proofs.Theorems.Free.Laws.{passing_grows}
use Rattle.formula.specs.Text.Distinct.{PrefixFine}
use Rattle.formula.proofs.Theorems.Text.Distinct.{fine_ranged, fine_few}

-- One variable more, free or not.
module _ (marks : List ℕ) (v : ℕ) where
  pub free_yes : is_free_mark (get_or marks (suc v) 0) ≡ true → free_marked marks (suc v) ≡ free_marked marks v ++ (suc v ∷ [])
  unfolding passing
  free_yes e = rw e

  pub free_no : is_free_mark (get_or marks (suc v) 0) ≡ false → free_marked marks (suc v) ≡ free_marked marks v
  unfolding passing
  free_no e = rw (e, append-nil)

  added_yes : is_free_mark (get_or marks (suc v) 0) ≡ true → existentials (free_marked marks (suc v)) ≡ existentials (free_marked marks v) ++ (entry (suc v) existential ∷ [])
  added_yes e = ap existentials (free_yes e) ∙ map-append (λ (n : ℕ). entry n existential) (free_marked marks v) (suc v ∷ [])

  count_yes : is_free_mark (get_or marks (suc v) 0) ≡ true → length (free_marked marks (suc v)) ≡ suc (length (free_marked marks v))
  count_yes e = ap {B = ℕ} (λ (ns : List ℕ). length ns) (free_yes e) ∙ length-append (free_marked marks v) (suc v ∷ []) ∙ omega arith

-- How many of the marks from that of 1 to that of v are of free variables.
pub marked_free : (marks : List ℕ) (v : ℕ) → v < length marks → count_by is_free_mark (take v (drop 1 marks)) ≡ length (free_marked marks v)
unfolding passing
marked_free marks zero h = refl
marked_free marks (suc v) h = go (marked_free marks v (omega arith)) (is_free_mark (get_or marks (suc v) 0)) refl
  where
    here : get_or (drop 1 marks) v 0 ≡ get_or marks (suc v) 0
    here = get_or-drop 1 marks v 0 ∙ ap (λ k. get_or marks k 0) (one-add v)

    long : v < length (drop 1 marks)
    long = omega (arith, length-drop 1 marks)

    go :
        count_by is_free_mark (take v (drop 1 marks)) ≡ length (free_marked marks v) → (t : Bool) → is_free_mark (get_or marks (suc v) 0) ≡ t
        → count_by is_free_mark (take (suc v) (drop 1 marks)) ≡ length (free_marked marks (suc v))
    go before true e =
        omega (arith, rw (add-one v) at (count_by_more_yes is_free_mark (drop 1 marks) v 0 long (rw here e)), before, count_yes marks v e)
    go before false e =
        omega (arith, rw (add-one v) at (count_by_more_no is_free_mark (drop 1 marks) v 0 long (rw here e)), before, ap {B = ℕ} (λ (ns : List ℕ). length ns) (free_no marks v e))

-- Entries of the free variables up to v put to the table's start; what is behind those of all stays.
pub record PutSoFar (marks : List ℕ) (variables : ℕ) (table₀ table : List ℤ) (at v : ℕ) : Type 0 where
  pub within : v ≤ variables
  pub same : length table ≡ length table₀
  pub place : at ≡ length (free_marked marks v)
  pub put : entries_in table at ≡ existentials (free_marked marks v)
  pub behind : drop (entry_words (length (free_marked marks variables))) table ≡ drop (entry_words (length (free_marked marks variables))) table₀

pub put_begins : (marks : List ℕ) (variables : ℕ) (table : List ℤ) → PutSoFar marks variables table table 0 0
unfolding passing
put_begins marks variables table = record { within = omega arith; same = refl; place = refl; put = entries_none table; behind = refl }

-- The variable n is next.
module _ {marks : List ℕ} {variables : ℕ} {table₀ table : List ℤ} {at v n : ℕ} (next : n ≡ suc v) (room : entry_words (length (free_marked marks variables)) ≤ length table₀) (h : n ≤ variables) (I : PutSoFar marks variables table₀ table at v) where
  pub put_skips : is_free_mark (get_or marks n 0) ≡ false → PutSoFar marks variables table₀ table at n
  put_skips e =
      let f = free_no marks v (rw next at e) in
      rw next (record { within = omega arith; same = I.same; place = rw f I.place; put = rw f I.put; behind = I.behind })

  module _ (e : is_free_mark (get_or marks n 0) ≡ true) where
    free : is_free_mark (get_or marks (suc v) 0) ≡ true
    free = rw next at e

    longer : entry_words (suc at) ≤ entry_words (length (free_marked marks variables))
    longer =
        words_rise (suc at) (length (free_marked marks variables))
        (omega (arith, I.place, count_yes marks v free, passing_grows (λ k. is_free_mark (get_or marks k 0)) (suc v) variables (omega arith)))

    pub put_fits : entry_fits (length table) at ≡ true
    put_fits = entry_room (length table) at (omega (arith, longer, room, I.same))

    pub put_adds : n ≤ variable_bound → PutSoFar marks variables table₀ (put_entry table at (entry n existential) 0) (suc at) n
    put_adds b =
        rw next
        (record {
          within = omega arith;
          same = put_same table at (entry (suc v) existential) 0 ∙ I.same;
          place = ap suc I.place ∙ sym (count_yes marks v free);
          put = put_entries table at (suc v) existential 0 put_fits (rw next at b) ∙ rw I.put (sym (added_yes marks v free));
          behind = put_before table at (entry (suc v) existential) 0 (entry_words (length (free_marked marks variables))) longer ∙ I.behind;
        })

pub put_ends : {marks : List ℕ} {variables : ℕ} {table₀ table : List ℤ} {at v : ℕ} → variables ≤ v → PutSoFar marks variables table₀ table at v → FreePut marks variables table₀ table
put_ends {marks} {variables} {table₀} {table} {at} {v} h I =
    let all : v ≡ variables = omega (arith, h, I.within) in
    record { put = rw (← all, ← I.place) I.put; behind = I.behind }

-- No more entries than the bound.
pub completed_total :
    (marks : List ℕ) (v used : ℕ) (prefix : List ℤ) → entry_words used ≤ length prefix → PrefixFine variable_bound (completed_in marks v used prefix)
    → length (free_marked marks v) + used ≤ variable_bound
completed_total marks v used prefix h F =
    omega (arith, fine_few variable_bound (completed_in marks v used prefix) F, length-append (existentials (free_marked marks v)) (entries_in prefix used), length-map (free_marked marks v) (λ (n : ℕ). entry n existential), entries_length prefix used h)

-- Moved on, then put in front: the entries of the completed prefix stand, in range and within the bound.
module _
    (marks : List ℕ) (v used : ℕ) (prefix moved put : List ℤ) (room : entry_words (length (free_marked marks v) + used) ≤ length put)
    (m : Moved (entry_words used) (entry_words (length (free_marked marks v))) prefix moved) (p : FreePut marks v moved put) where
  pub completed_entries : entries_in put (length (free_marked marks v) + used) ≡ completed_in marks v used prefix
  unfolding entries_in
  completed_entries =
      entries_sum put (length (free_marked marks v)) used (omega (arith, words_sum (length (free_marked marks v)) used, room))
      ∙ rw (p.put, p.behind, m)

  module _ (F : PrefixFine variable_bound (completed_in marks v used prefix)) where
    abbrev part : List ℤ
    part = take (entry_words (length (free_marked marks v) + used)) put

    pub completed_ranged : Entries part
    unfolding entries_in
    completed_ranged = record { ranged = rw completed_entries (fine_ranged variable_bound (completed_in marks v used prefix) (omega arith) F) }

    pub completed_few : entry_count part ≤ variable_bound
    unfolding entries_in
    completed_few = rw completed_entries (fine_few variable_bound (completed_in marks v used prefix) F)

    pub completed_whole : length part ≡ entry_words (entry_count part)
    unfolding entries_in
    completed_whole =
        length-take-le (entry_words (length (free_marked marks v) + used)) put room
        ∙ ap entry_words (sym (entries_length put (length (free_marked marks v) + used) room))

    -- The words of the part, once its blocks are numbered.
    pub completed_numbered : (numbered : List ℤ) → numbered ≡ prefix_words (prefix_of part) → numbered ≡ prefix_words (completed_in marks v used prefix)
    unfolding entries_in
    completed_numbered numbered e = e ∙ ap prefix_words completed_entries
