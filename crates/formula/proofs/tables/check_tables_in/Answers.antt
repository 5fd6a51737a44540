-- `check_tables_in`: sizes first, then the words, with the marks that are used of those lent. Assumes nothing.
use Rattle.std.specs.Prelude.{◌≡◌, true, false, length, leb}
use Rattle.std.proofs.Common.{sym, ◌∙◌}
use Rattle.std.proofs.lemmas.Result.{err_from_is_err_and}
use Rattle.formula.specs.Bounds.{prefix_bound, matrix_bound, count_bound}
use Rattle.formula.specs.Bounds.Laws.{within_bound, above_bound}
use Rattle.formula.specs.Tables.{zeros, sized}
use Rattle.formula.proofs.Scan.{sizes_refused, words_refused, words_admitted}
use Rattle.formula.proofs.tables.check_tables_in.Goals as goal

pub returns-in_default : goal.returns-in_default
returns-in_default c =
    let a = c.args in
    let e : leb (length a.prefix.now) prefix_bound ≡ false = above_bound _ (sym c.new.ensures ∙ c.in_default.is) in
    rw c.new-oversized.ensures (sym (sizes_refused a.prefix.now a.clauses.now (rw e)))

pub returns-in_default-new : goal.returns-in_default-new
returns-in_default-new c =
    let a = c.args in
    let p : leb (length a.prefix.now) prefix_bound ≡ true = (within_bound _ _ (sym c.new.ensures ∙ c.in-Some.is)).0 in
    let e : leb (length a.clauses.now) matrix_bound ≡ false = above_bound _ (sym c.new-2.ensures ∙ c.in_default-new.is) in
    rw c.new-oversized.ensures (sym (sizes_refused a.prefix.now a.clauses.now (rw (p, e))))

pub returns-in_default-new-2 : goal.returns-in_default-new-2
returns-in_default-new-2 c =
    let a = c.args in
    let p : leb (length a.prefix.now) prefix_bound ≡ true = (within_bound _ _ (sym c.new.ensures ∙ c.in-Some.is)).0 in
    let m : leb (length a.clauses.now) matrix_bound ≡ true = (within_bound _ _ (sym c.new-2.ensures ∙ c.in-Some-new.is)).0 in
    let e = above_bound _ (sym c.new-3.ensures ∙ c.in_default-new-2.is) in
    let many : leb (zeros a.clauses.now) count_bound ≡ false = rw c.count_zeros.ensures at e in
    rw c.new-oversized.ensures (sym (sizes_refused a.prefix.now a.clauses.now (rw (p, m, many))))

pub returns-in_err-check_words : goal.returns-in_err-check_words
returns-in_err-check_words c =
    let a = c.args in
    let p : leb (length a.prefix.now) prefix_bound ≡ true = (within_bound _ _ (sym c.new.ensures ∙ c.in-Some.is)).0 in
    let m : leb (length a.clauses.now) matrix_bound ≡ true = (within_bound _ _ (sym c.new-2.ensures ∙ c.in-Some-new.is)).0 in
    let n = rw c.count_zeros.ensures at (within_bound c.count_zeros.result c.in-Some-new-2.count (sym c.new-3.ensures ∙ c.in-Some-new-2.is)) in
    let sizes : sized a.prefix.now a.clauses.now ≡ true = rw (p, m, n.0) in
    let x = err_from_is_err_and c.from_residual.result c.from_residual.ensures.1 in
    rw (x.1, x.2) (sym (words_refused a.prefix.now a.clauses.now sizes _ (sym c.check_words.ensures ∙ c.in_err-check_words.was)))

pub returns : goal.returns
returns c =
    let a = c.args in
    let p : leb (length a.prefix.now) prefix_bound ≡ true = (within_bound _ _ (sym c.new.ensures ∙ c.in-Some.is)).0 in
    let m : leb (length a.clauses.now) matrix_bound ≡ true = (within_bound _ _ (sym c.new-2.ensures ∙ c.in-Some-new.is)).0 in
    let n = rw c.count_zeros.ensures at (within_bound c.count_zeros.result c.in-Some-new-2.count (sym c.new-3.ensures ∙ c.in-Some-new-2.is)) in
    let sizes : sized a.prefix.now a.clauses.now ≡ true = rw (p, m, n.0) in
    rw (c.entry_count.ensures, ← n.1) (sym (words_admitted a.prefix.now a.clauses.now sizes (sym c.check_words.ensures ∙ c.in_ok-check_words.was)))
