-- Every refusal of the tables: its number is at most 9, so that none is a step's, and it stands in no text. Assumes nothing.
use Rattle.std.specs.Prelude.{ℕ, ◌+◌, ◌%◌, ◌≤◌, ◌≡◌, refl, Bool, true, false, not, ◌||◌, List, [], ◌∷◌, ltb, eqb, length, ℤ}
use Rattle.std.proofs.Common.{subst, arith}
use Rattle.std.proofs.Math.Option.{Option, none, some}
use Rattle.formula.specs.Word.{word_of, ordinal}
use Rattle.formula.specs.Refusal.{refusal, require, number}
use Rattle.formula.specs.Prefix.{next_block}
use Rattle.formula.specs.Tables.{is_in, quantifier_word, block_word, prefix_refusal, literal_word, clause_word, clauses_end, clauses_refusal, listed_in, sized, first_refusal, words_refusal, tables_refusal}
use Rattle.formula.specs.declared.word.Word.{Word}
use Rattle.formula.specs.declared.word.Word.TheVariants.{Zero, TooLarge, Positive, Negative}
use Rattle.formula.specs.declared.refusal.Reason.{Reason}
use Rattle.formula.specs.declared.refusal.Reason.TheVariants.{Oversized, OutOfRange, BoundTwice, Unbound, Clash, Unfinished}
use Rattle.formula.specs.declared.refusal.Refusal.{Refusal}

pub record OfTables (r : Refusal) : Type 0 where
  pub early : number r.reason ≤ 9
  pub no_line : r.line ≡ 0
  pub no_column : r.column ≡ 0

-- A refusal that there may be; a test that refuses.
abbrev May : Option Refusal → Type 0
May none = Unit {0}
May (some r) = OfTables r

refuses : (r : Reason) (p : ℕ) → number r ≤ 9 → OfTables (refusal r p)
refuses r p small = record { early = small; no_line = refl; no_column = refl }

require_may : (b : Bool) (r : Reason) (p : ℕ) (later : Option Refusal) → number r ≤ 9 → May later → May (require b (some (refusal r p)) later)
require_may true r p later small h = h
require_may false r p later small h = refuses r p small

prefix_may : (at : ℕ) (seen : List ℕ) (last b : ℕ) (ws : List ℤ) → May (prefix_refusal at seen last b ws)
unfolding prefix_refusal
prefix_may at seen last b [] = tt
prefix_may at seen last b (v ∷ []) = tt
prefix_may at seen last b (v ∷ q ∷ []) = tt
prefix_may at seen last b (v ∷ q ∷ block ∷ ws) =
    let due = next_block last b (ordinal q) in
    let later = prefix_refusal (at + 3) (ordinal v ∷ seen) (ordinal q) due ws in
    let blocks = block_word (at + 2) (ordinal block) due later in
    let quantifiers = quantifier_word (at + 1) (ordinal q) blocks in
    require_may (ltb 0 (ordinal v)) OutOfRange at (require (not (is_in (ordinal v) seen)) (some (refusal BoundTwice at)) quantifiers) (omega arith)
    (require_may (not (is_in (ordinal v) seen)) BoundTwice at quantifiers (omega arith)
    (require_may (eqb (ordinal q) 1 || eqb (ordinal q) 2) OutOfRange (at + 1) blocks (omega arith)
    (require_may (eqb (ordinal block) due) BoundTwice (at + 2) later (omega arith)
    (prefix_may (at + 3) (ordinal v ∷ seen) (ordinal q) due ws))))

literal_may : (at : ℕ) (bound clash : Bool) (later : Option Refusal) → May later → May (literal_word at bound clash later)
literal_may at bound clash later h =
    require_may bound Unbound at (require (not clash) (some (refusal Clash at)) later) (omega arith) (require_may (not clash) Clash at later (omega arith) h)

clause_word_may : (known : ℕ → Bool) (at : ℕ) (seen : List ℕ) (w : Word) (next : List ℕ → Option Refusal) → ((s : List ℕ) → May (next s)) → May (clause_word known at seen w next)
clause_word_may known at seen Zero next h = h []
clause_word_may known at seen TooLarge next h = refuses OutOfRange at (omega arith)
clause_word_may known at seen (Positive v) next h = literal_may at (known v.0) (is_in v.0 seen) (next (v.0 ∷ seen)) (h (v.0 ∷ seen))
clause_word_may known at seen (Negative v) next h = literal_may at (known v.0) (is_in v.0 seen) (next (v.0 ∷ seen)) (h (v.0 ∷ seen))

clauses_end_may : (at : ℕ) (seen : List ℕ) → May (clauses_end at seen)
clauses_end_may at [] = tt
clauses_end_may at (v ∷ seen) = refuses Unfinished at (omega arith)

clauses_may : (known : ℕ → Bool) (at : ℕ) (seen : List ℕ) (ws : List ℤ) → May (clauses_refusal known at seen ws)
unfolding clauses_refusal
clauses_may known at seen [] = clauses_end_may at seen
clauses_may known at seen (w ∷ ws) =
    clause_word_may known at seen (word_of w) (λ s. clauses_refusal known (at + 1) s ws) (λ s. clauses_may known (at + 1) s ws)

first_may : (o later : Option Refusal) → May o → May later → May (first_refusal o later)
first_may none later h k = k
first_may (some r) later h k = h

pub tables_refused : (prefix clauses : List ℤ) (r : Refusal) → tables_refusal prefix clauses ≡ some r → OfTables r
unfolding tables_refusal words_refusal
tables_refused prefix clauses r e =
    let entries = prefix_refusal 0 [] 0 0 prefix in
    let words = clauses_refusal (listed_in prefix) 0 [] clauses in
    subst May e
    (require_may (sized prefix clauses) Oversized 0 (words_refusal prefix clauses) (omega arith)
    (require_may (eqb (length prefix % 3) 0) Unfinished (length prefix) (first_refusal entries words) (omega arith)
    (first_may entries words (prefix_may 0 [] 0 0 prefix) (clauses_may (listed_in prefix) 0 [] clauses))))
