-- `close_clause` refuses by its tests in order, or writes the 0. Assumes nothing.
use mathlib.Core.Path.{refl}
use borrow.Author.Tests.{lt-ltb, le-ltb}
use Rattle.formula.specs.Text.{closing_reason}
use Rattle.formula.proofs.clauses.close_clause.Goals as goal

pub returns-then-used-ge-MATRIX_WORDS : goal.returns-then-used-ge-MATRIX_WORDS
unfolding closing_reason
returns-then-used-ge-MATRIX_WORDS c = record { answers = simp (le-ltb _ _ c.if-used-ge-MATRIX_WORDS.true); stores = tt }

pub returns-then-clauses-used : goal.returns-then-clauses-used
unfolding closing_reason
returns-then-clauses-used c = record { answers = simp (lt-ltb _ _ c.if-used-ge-MATRIX_WORDS.false, le-ltb _ _ c.if-clauses-used.true); stores = tt }

pub returns : goal.returns
unfolding closing_reason
returns c = record { answers = simp (lt-ltb _ _ c.if-used-ge-MATRIX_WORDS.false, lt-ltb _ _ c.if-clauses-used.false); stores = refl }
