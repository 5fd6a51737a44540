-- Readings of 01's and 02's (P6) order of refusals on tables, by computation: each word is judged from the left by its own rules in order.
use Rattle.std.specs.Prelude.{Err}
use Rattle.std.specs.Prelude.{ℕ, ◌≡◌, refl, List, [], ◌∷◌, ℤ, pos, negsuc}
use Rattle.formula.specs.Word.{word_of, ordinal}
use Rattle.formula.specs.Refusal.{refusal}
use Rattle.formula.specs.Prefix.{prefix_of}
use Rattle.formula.specs.Prefix.Examples.{e, a}
use Rattle.formula.specs.Tables.{is_in, zeros, prefix_refusal, clauses_refusal, words_refusal, tables_refusal, tables_answer, admits}
use Rattle.formula.specs.declared.refusal.Reason.{Reason}
use Rattle.formula.specs.declared.refusal.Reason.TheVariants.{OutOfRange, BoundTwice, Unbound, Clash, Unfinished}

-- The tables are refused, for a reason, at a place.
abbrev pub RefusedAt : List ℤ → List ℤ → Reason → ℕ → Type 0
RefusedAt prefix clauses reason place = tables_answer prefix clauses ≡ Err (refusal reason place)

-- Existential 1, then 1 again, then 0: the second entry is judged before the third.
pub bound_twice_before_range : RefusedAt (e 1 1 (e 1 1 (e 0 1 []))) [] BoundTwice 3
unfolding tables_refusal words_refusal prefix_refusal prefix_of clauses_refusal is_in zeros word_of ordinal
bound_twice_before_range = refl

-- A variable with either quantifier is listed twice; 0, a negative word and one above 1,024 are out of range, the lowest word among them.
pub bound_twice_opposed : RefusedAt (e 1 1 (a 1 2 [])) [] BoundTwice 3
unfolding tables_refusal words_refusal prefix_refusal prefix_of clauses_refusal is_in zeros word_of ordinal
bound_twice_opposed = refl

pub prefix_zero : RefusedAt (e 0 1 []) [] OutOfRange 0
unfolding tables_refusal words_refusal prefix_refusal prefix_of clauses_refusal is_in zeros word_of ordinal
prefix_zero = refl

pub prefix_negative : RefusedAt (negsuc 0 ∷ pos 2 ∷ pos 1 ∷ []) [] OutOfRange 0
unfolding tables_refusal words_refusal prefix_refusal prefix_of clauses_refusal is_in zeros word_of ordinal
prefix_negative = refl

pub prefix_lowest : RefusedAt (e 1024 1 (negsuc 2147483647 ∷ pos 1 ∷ pos 1 ∷ [])) [] OutOfRange 3
unfolding tables_refusal words_refusal prefix_refusal prefix_of clauses_refusal is_in zeros word_of ordinal
prefix_lowest = refl

-- The quantifier is 1 or 2, and is judged behind the variable and ahead of the block, each at its own word.
pub quantifier_range : RefusedAt (pos 1 ∷ pos 3 ∷ pos 7 ∷ []) [] OutOfRange 1
unfolding tables_refusal words_refusal prefix_refusal prefix_of clauses_refusal is_in zeros word_of ordinal
quantifier_range = refl

pub variable_before_quantifier : RefusedAt (e 1 1 (pos 1 ∷ pos 3 ∷ pos 1 ∷ [])) [] BoundTwice 3
unfolding tables_refusal words_refusal prefix_refusal prefix_of clauses_refusal is_in zeros word_of ordinal
variable_before_quantifier = refl

-- Blocks: 1 at first, the same while the quantifier stays, one more where it changes.
pub first_block : RefusedAt (e 1 0 []) [] BoundTwice 2
unfolding tables_refusal words_refusal prefix_refusal prefix_of clauses_refusal is_in zeros word_of ordinal
first_block = refl

pub block_not_raised : RefusedAt (e 1 1 (a 2 1 [])) [] BoundTwice 5
unfolding tables_refusal words_refusal prefix_refusal prefix_of clauses_refusal is_in zeros word_of ordinal
block_not_raised = refl

pub block_raised_early : RefusedAt (e 1 1 (e 2 2 [])) [] BoundTwice 5
unfolding tables_refusal words_refusal prefix_refusal prefix_of clauses_refusal is_in zeros word_of ordinal
block_raised_early = refl

pub block_negative : RefusedAt (pos 1 ∷ pos 1 ∷ negsuc 0 ∷ []) [] BoundTwice 2
unfolding tables_refusal words_refusal prefix_refusal prefix_of clauses_refusal is_in zeros word_of ordinal
block_negative = refl

-- A prefix that is not in threes is unfinished at its length, ahead of its entries.
pub not_in_threes : RefusedAt (pos 0 ∷ []) [] Unfinished 1
unfolding tables_refusal words_refusal prefix_refusal prefix_of clauses_refusal is_in zeros word_of ordinal
not_in_threes = refl

pub not_in_threes_later : RefusedAt (e 1 1 (e 0 1 (pos 2 ∷ []))) [] Unfinished 7
unfolding tables_refusal words_refusal prefix_refusal prefix_of clauses_refusal is_in zeros word_of ordinal
not_in_threes_later = refl

-- Clause words 1 1 2000 0 over the prefix 1: the repeat is met before the word that is out of range.
pub clash_before_range : RefusedAt (e 1 1 []) (pos 1 ∷ pos 1 ∷ pos 2000 ∷ pos 0 ∷ []) Clash 1
unfolding tables_refusal words_refusal prefix_refusal prefix_of clauses_refusal is_in zeros word_of ordinal
clash_before_range = refl

-- The first literal that opposes or repeats an earlier one, not the one it opposes: of 1 2 −2 −1 the third.
pub clash_at_the_later : RefusedAt (e 1 1 (e 2 1 [])) (pos 1 ∷ pos 2 ∷ negsuc 1 ∷ negsuc 0 ∷ pos 0 ∷ []) Clash 2
unfolding tables_refusal words_refusal prefix_refusal prefix_of clauses_refusal is_in zeros word_of ordinal
clash_at_the_later = refl

-- A clause word beyond 1,024 is out of range, not unbound; one within is unbound.
pub range_before_unbound : RefusedAt (e 1 1 []) (pos 1 ∷ negsuc 1024 ∷ pos 0 ∷ []) OutOfRange 1
unfolding tables_refusal words_refusal prefix_refusal prefix_of clauses_refusal is_in zeros word_of ordinal
range_before_unbound = refl

pub unbound_within : RefusedAt (e 1 1 []) (pos 1 ∷ negsuc 1023 ∷ pos 0 ∷ []) Unbound 1
unfolding tables_refusal words_refusal prefix_refusal prefix_of clauses_refusal is_in zeros word_of ordinal
unbound_within = refl

-- A last clause that no 0 closes is unfinished at the table's length.
pub unfinished_at_the_length : RefusedAt (e 1 1 []) (pos 0 ∷ pos 1 ∷ []) Unfinished 2
unfolding tables_refusal words_refusal prefix_refusal prefix_of clauses_refusal is_in zeros word_of ordinal
unfinished_at_the_length = refl

-- One variable may stand in every clause; nothing at all passes, with no variables and no clauses.
pub clauses_apart : tables_answer (a 1 1 []) (pos 1 ∷ pos 0 ∷ negsuc 0 ∷ pos 0 ∷ pos 0 ∷ []) ≡ admits 1 3
unfolding tables_refusal words_refusal prefix_refusal prefix_of clauses_refusal is_in zeros word_of ordinal
clauses_apart = refl

pub nothing_passes : tables_answer [] [] ≡ admits 0 0
unfolding tables_refusal words_refusal prefix_refusal prefix_of clauses_refusal is_in zeros word_of ordinal
nothing_passes = refl
