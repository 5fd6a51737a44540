-- `list_variable` refuses by its tests in order, or puts the entry and the mark. Assumes nothing.
use Prim.Native.Nat.{suc, ◌+◌, ◌^◌, ◌≤◌, ◌<◌}
use mathlib.Core.Path.{refl, sym, ◌∙◌}
use native.Mathlib.Omega.{arith}
use borrow.Author.Rules.{rules}
use borrow.Author.Tests.{lt-ltb, le-ltb, le-leb, lt-leb}
use Rattle.formula.specs.Bounds.{variable_bound, in_range}
use Rattle.formula.specs.Bounds.Laws.{variable_made, variable_refused, above_range}
use lib.ListN.{length}
use Rattle.formula.specs.Prefix.{entry_words}
use Rattle.formula.specs.Prefix.Laws.{put_within}
use Rattle.formula.specs.Text.{variable_reason}
use Rattle.formula.proofs.sets.list_variable.Tie as tie
use Rattle.formula.proofs.sets.list_variable.Lts as lts
use Rattle.formula.proofs.sets.list_variable.Reads as reads
use Rattle.formula.proofs.sets.list_variable.Goals as goal

pub returns-then-variables-n : goal.returns-then-variables-n
unfolding variable_reason
returns-then-variables-n c = record { answers = simp (lt-leb _ _ c.if-variables-n.true); stores = tt }

pub returns-then-marks-n-gt0 : goal.returns-then-marks-n-gt0
unfolding variable_reason
returns-then-marks-n-gt0 c = record { answers = simp (le-leb _ _ c.if-variables-n.false, lt-ltb _ _ c.if-marks-n-gt0.true); stores = tt }

pub returns-then-entry_fits : goal.returns-then-entry_fits
unfolding variable_reason
returns-then-entry_fits c =
    let made = variable_made (in_range c.args.n variable_bound) c.args.n c.in-Some.variable (sym c.new.ensures ∙ c.in-Some.is) in
    let fits = sym c.entry_fits.ensures ∙ c.if-entry_fits.true in
    record {
      answers = simp (le-leb _ _ c.if-variables-n.false, le-ltb _ _ c.if-marks-n-gt0.false, fits);
      stores = (rw made.1 c.put_entry.ensures, refl);
    }

pub returns-in_default : goal.returns-in_default
unfolding variable_reason
returns-in_default c =
    let args = c.args in
    let outside = variable_refused (in_range args.n variable_bound) args.n (sym c.new.ensures ∙ c.in_default.is) in
    let above : args.variables < args.n = omega (arith, above_range args.n variable_bound c.requires.0 outside) in
    record { answers = simp (lt-leb _ _ above); stores = tt }

pub returns : goal.returns
unfolding variable_reason
returns c =
    let full = sym c.entry_fits.ensures ∙ c.if-entry_fits.false in
    record { answers = simp (le-leb _ _ c.if-variables-n.false, le-ltb _ _ c.if-marks-n-gt0.false, full); stores = tt }

-- one entry more is counted
counted : (c : lts.After-prefix tie.the-claims reads.Pre reads.Post tie.handed_clauses) → entry_words (suc c.args.entries) ≤ length c.args.prefix.now
counted c =
    let s = c.before.before.before.before.before.before.before.before.before.before in
    put_within (length s.args.prefix.now) s.args.entries (sym c.entry_fits.ensures ∙ c.if-entry_fits.true)

add_listed : (c : lts.After-prefix tie.the-claims reads.Pre reads.Post tie.handed_clauses) → c.args.entries + 1 < 2 ^ 64
unfolding entry_words
add_listed c = let h = counted c in search rules

pub overflow_add-result : goal.overflow_add-result
overflow_add-result c = let h = add_listed c in search rules
