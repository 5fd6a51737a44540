-- `check_words`: the prefix is not in threes, or refuses, or the clauses answer with the marks of the prefix. Assumes nothing.
use Rattle.std.specs.Prelude.{◌≡◌, ◌%◌, [], length, eqb, true}
use Rattle.std.proofs.Common.{sym, ◌∙◌, eq-eqb, ne_eqb}
use Rattle.std.proofs.lemmas.Result.{err_from_is_err_and}
use Rattle.formula.specs.Clear.Laws.{clear_all}
use Rattle.formula.specs.Tables.{prefix_refusal, clauses_refusal, listed_in, words_refusal}
use Rattle.formula.proofs.Scan.{listing_none, first_refuses, first_passes}
use Rattle.formula.proofs.tables.check_words.Goals as goal

pub check_prefix-requires : goal.check_prefix-requires
check_prefix-requires c = rw (c.clear_tail.ensures, clear_all) (listing_none (length c.args.marks.now) c.requires)

pub returns-then-prefix-ne0 : goal.returns-then-prefix-ne0
unfolding words_refusal
returns-then-prefix-ne0 c =
    let a = c.args in
    rw (ne_eqb (length a.prefix.now % 3) 0 c.if-prefix-ne0.true, c.new.ensures)

pub returns-in_err-check_prefix : goal.returns-in_err-check_prefix
unfolding words_refusal
returns-in_err-check_prefix c =
    let a = c.args in
    let threes : eqb (length a.prefix.now % 3) 0 ≡ true = eq-eqb _ 0 c.if-prefix-ne0.false in
    let x = err_from_is_err_and c.from_residual.result c.from_residual.ensures.1 in
    rw (x.1, x.2, threes)
    (sym
    (first_refuses
    (prefix_refusal 0 [] 0 0 a.prefix.now)
    (clauses_refusal (listed_in a.prefix.now) 0 [] a.clauses.now)
    _
    (sym c.check_prefix.ensures.value ∙ c.in_err-check_prefix.was)))

pub returns : goal.returns
unfolding words_refusal
returns c =
    let a = c.args in
    let threes : eqb (length a.prefix.now % 3) 0 ≡ true = eq-eqb _ 0 c.if-prefix-ne0.false in
    rw threes
    (c.check_clauses.ensures
    ∙ sym
    (first_passes
    (prefix_refusal 0 [] 0 0 a.prefix.now)
    (clauses_refusal (listed_in a.prefix.now) 0 [] a.clauses.now)
    (sym c.check_prefix.ensures.value ∙ c.in_ok-check_prefix.was)))
