-- `find_clash`: no literal before the outer place clashes, and none before the inner place has the variable of the one looked
-- at; left by the label, that one is found. Assumes nothing.
use Rattle.std.proofs.Common.{◌≡◌, ◌+◌, false, [], length, get_or, drop, pos, nat_abs}
use Rattle.formula.specs.Tables.{is_in}
use Rattle.formula.specs.Tables.Scan.{variables_before, clash_free}
use Rattle.formula.proofs.tables.find_clash.Given as goal

abbrev pub invariant-loop-earlier : goal.invariant-loop-earlier
invariant-loop-earlier l = (is_in (nat_abs (get_or l.clause l.i (pos 0))) (variables_before l.clause l.earlier-index) ≡ false) × (l.clash ≡ length l.clause)

abbrev pub invariant-search : goal.invariant-search
invariant-search l = (clash_free [] l.clause ≡ l.i + clash_free (variables_before l.clause l.i) (drop l.i l.clause)) × (l.clash ≡ length l.clause)
