-- Laws of filling and clearing the tables: no marks at first, the stages one after the other, the completed prefix, zeros past the used part.
-- Assumes nothing.
use Rattle.std.specs.Prelude.{Some, None, Err}
use Rattle.std.specs.Prelude.{ℕ, zero, suc, ◌+◌, ◌-◌, ◌≤◌, ◌≡◌, refl, true, false, List, [], ◌∷◌, ◌++◌, length, get_or, take, replicate, leb, ℤ, pos}
use Rattle.std.proofs.Common.{ap, ◌∙◌, le_of_suc-le-suc, not-suc-le-zero, arith, le-leb, length-append, length-take-le}
use Rattle.std.proofs.lemmas.Bool.{lt-leb}
use Rattle.std.proofs.lemmas.List.{length-replicate, length-map}
use Rattle.formula.specs.Bounds.{variable_bound, text_bound}
use Rattle.formula.specs.Clear.{clear_from}
use Rattle.qbf.specs.Formula.{existential, entry}
use Rattle.formula.specs.Free.{is_free, existentials, completed}
use Rattle.formula.specs.Free.Complete.{is_free_mark, free_marked, completed_in, CompletionPost}
use Rattle.formula.proofs.Theorems.Free.Laws.{passing_same}
use Rattle.formula.specs.Prefix.{prefix_words, entry_words, entries_in}
use Rattle.formula.specs.Prefix.Laws.{words_length, entries_length}
use Rattle.formula.specs.Refusal.{refusal, in_text}
use Rattle.formula.specs.Tables.{is_in}
use Rattle.scanner.specs.Token.{first_token}
use Rattle.formula.specs.Text.{Reading, padded, refused, wantsP, completing, reading, reading_from, ReadPost, filled}
use Rattle.formula.specs.Text.Distinct.{PrefixFine}
use Rattle.formula.proofs.Theorems.Text.Distinct.{prefix_empty, completed_fine}
use Rattle.formula.specs.Text.Sets.{Listed}
use Rattle.formula.specs.Text.Clauses.{MarksFree}
use Rattle.formula.specs.Text.Fill.{FillPost}
use Rattle.formula.specs.declared.refusal.Reason.TheVariants.{Oversized as TooLong, NoRoom as Lacks}
use Rattle.formula.specs.declared.refusal.Refusal.{Refusal}

unmarked : (n v : ℕ) → get_or {A = ℕ} (replicate n 0) v 0 ≡ 0
unmarked zero v = refl
unmarked (suc n) zero = refl
unmarked (suc n) (suc v) = unmarked n v

-- Without a mark no variable is listed.
pub listed_none : Listed (replicate (suc variable_bound) 0) []
unfolding is_in
listed_none =
    record {
      size = length-replicate {A = ℕ} (suc variable_bound) 0;
      nought = unmarked (suc variable_bound) 0;
      says = λ v h. rw unmarked;
      small = λ v. rw unmarked (omega arith);
      fine = prefix_empty variable_bound;
    }

cleared_rest : (n : ℕ) (table : List ℤ) → n ≤ length table → clear_from (pos 0) n table ≡ take n table ++ replicate (length table - n) (pos 0)
unfolding clear_from
cleared_rest zero table h = let d : length table - 0 ≡ length table = omega arith in rw d
cleared_rest (suc n) [] h = absurd (not-suc-le-zero h)
cleared_rest (suc n) (x ∷ table) h =
    let d : suc (length table) - suc n ≡ length table - n = omega arith in
    rw d (ap {B = List ℤ} (λ r. x ∷ r) (cleared_rest n table (le_of_suc-le-suc h)))

-- A table that is cleared past its used part.
pub clear_padded : (room n : ℕ) (table : List ℤ) → n ≤ length table → length table ≡ room → clear_from (pos 0) n table ≡ padded room (take n table)
clear_padded room n table h e = rw (length-take-le n table h, ← e) (cleared_rest n table h)

-- The filled tables, cleared past the used part, are what reading promises.
pub read_filled : (text : List ℕ) (prefix clauses prefix' clauses' : List ℤ) (p n c : ℕ) → length prefix' ≡ length prefix → length clauses' ≡ length clauses → FillPost (reading text (length prefix) (length clauses)) prefix' clauses' (filled p n c) → ReadPost text prefix clauses (clear_from (pos 0) p prefix') (clear_from (pos 0) n clauses') (filled p n c)
read_filled text prefix clauses prefix' clauses' p n c e f h =
    record {
      answers = rw (h.0, length-take-le p prefix' h.1, length-take-le n clauses' h.2);
      fills_prefix = rw h.0 (clear_padded (length prefix) p prefix' h.1 e);
      fills_clauses = rw h.0 (clear_padded (length clauses) n clauses' h.2 f);
    }

pub read_refused : (text : List ℕ) (prefix clauses prefix' clauses' : List ℤ) (r : Refusal) → length prefix' ≡ length prefix → length clauses' ≡ length clauses → FillPost (reading text (length prefix) (length clauses)) prefix' clauses' (Err r) → ReadPost text prefix clauses (clear_from (pos 0) 0 prefix') (clear_from (pos 0) 0 clauses') (Err r)
read_refused text prefix clauses prefix' clauses' r e f h =
    record {
      answers = rw h;
      fills_prefix = rw h (clear_padded (length prefix) 0 prefix' (omega arith) e);
      fills_clauses = rw h (clear_padded (length clauses) 0 clauses' (omega arith) f);
    }

-- A text that is not too long is read from its first token on.
pub reading_from_lem : (text : List ℕ) (prefixRoom clauseRoom : ℕ) → leb (length text) text_bound ≡ true → reading text prefixRoom clauseRoom ≡ reading_from prefixRoom clauseRoom text wantsP (first_token text)
unfolding reading
reading_from_lem text prefixRoom clauseRoom e = rw e

pub reading_long : (text : List ℕ) (prefixRoom clauseRoom : ℕ) → leb (length text) text_bound ≡ false → reading text prefixRoom clauseRoom ≡ refused (refusal TooLong 0)
unfolding reading
reading_long text prefixRoom clauseRoom e = rw e

-- The completed prefix, by the marks: the free variables' entries ahead of the listed ones.
pub completed_marked :
    (v used : ℕ) (prefix words : List ℤ) (marks : List ℕ) → v ≤ variable_bound → MarksFree marks (entries_in prefix used) words
    → completed v (entries_in prefix used) words ≡ completed_in marks v used prefix
completed_marked v used prefix words marks b F =
    rw (passing_same (is_free (entries_in prefix used) words) (λ n. is_free_mark (get_or marks n 0)) v (λ n l h. F.frees n l (omega (arith, b))))

pub completed_fits :
    (v used : ℕ) (prefix words : List ℤ) (marks : List ℕ) → v ≤ variable_bound → MarksFree marks (entries_in prefix used) words
    → PrefixFine variable_bound (entries_in prefix used) → PrefixFine variable_bound (completed_in marks v used prefix)
completed_fits v used prefix words marks b F fine = rw (← completed_marked v used prefix words marks b F) (completed_fine variable_bound v (entries_in prefix used) words b fine)

-- What `complete` answers decides what is read.
module _ (prefixRoom : ℕ) (text : List ℕ) (v c used n : ℕ) (prefix prefix' clauses' : List ℤ) (marks : List ℕ) (b : v ≤ variable_bound) (h : entry_words used ≤ length prefix) (room : length prefix ≡ prefixRoom) (k : n ≤ length clauses') (F : MarksFree marks (entries_in prefix used) (take n clauses')) where
  abbrev completed_reading : Reading
  completed_reading = completing prefixRoom text (completed v (entries_in prefix used) (take n clauses')) (take n clauses') c

  total_length : length (prefix_words (completed_in marks v used prefix)) ≡ entry_words (length (free_marked marks v) + used)
  total_length =
      words_length (completed_in marks v used prefix)
      ∙ ap entry_words (length-append (existentials (free_marked marks v)) (entries_in prefix used) ∙ rw (length-map (free_marked marks v) (λ (m : ℕ). entry m existential), entries_length prefix used h))

  pub fill_completed : (total : ℕ) → length prefix' ≡ length prefix → CompletionPost marks v used prefix prefix' (Some total) → FillPost completed_reading prefix' clauses' (filled total n c)
  fill_completed total l post =
      let fits : leb (length (prefix_words (completed_in marks v used prefix))) prefixRoom ≡ true = le-leb _ prefixRoom (rw (total_length, ← post.0) (omega (arith, post.1, l, room))) in
      (rw (completed_marked v used prefix (take n clauses') marks b F, fits, post.2), post.1, k)

  pub fill_crowded : CompletionPost marks v used prefix prefix' None → completed_reading ≡ refused (in_text text (length text) Lacks)
  fill_crowded post =
      let short : leb (length (prefix_words (completed_in marks v used prefix))) prefixRoom ≡ false = lt-leb _ prefixRoom (rw total_length (omega (arith, post, room))) in
      rw (completed_marked v used prefix (take n clauses') marks b F, short)
