-- Source document 001's prefix (01, "Programs"), 1 −2 3 4 in old words, against its table of records, by computation: the same entries, and each
-- told by the other; then its proof by way of the old prefix. `e v b` and `a v b` are records of an existential and of a universal.
use Rattle.checker.specs.Verdict.{Verdict, accept}
use Rattle.std.specs.Prelude.{◌≡◌, refl, List, [], ◌∷◌, ℤ, pos, negsuc}
use Rattle.std.proofs.Common.{sym, ◌∙◌}
use Rattle.qbf.specs.Formula.{existential, universal, entry}
use Rattle.formula.specs.Word.{word_of, ordinal}
use Rattle.formula.specs.Prefix.{prefix_of, words_from, prefix_words}
use Rattle.formula.specs.Prefix.Examples.{e, a}
use Rattle.formula.specs.Tables.{is_in, zeros, prefix_refusal, clauses_refusal, words_refusal, tables_refusal, Admitted}
use Rattle.inference.specs.Rules.{plain_rules}
use Rattle.checker.specs.Verdict.{scope_verdict}
use Rattle.inference.specs.Scope.{scope_in}
use Rattle.checker.specs.Verdict.Examples.{example_prefix, example_clauses, example_steps, positions}
use Rattle.signed.specs.Signed.{signed_prefix, signed_words, signed_formula}
use Rattle.signed.proofs.Theorems.Signed.Laws.{verdict_same}

abbrev pub example_old : List ℤ
example_old = pos 1 ∷ negsuc 1 ∷ pos 3 ∷ pos 4 ∷ []

pub example_entries : signed_prefix example_old ≡ entry 1 existential ∷ entry 2 universal ∷ entry 3 existential ∷ entry 4 existential ∷ []
unfolding signed_prefix
example_entries = refl

pub example_same : prefix_of (e 1 1 (a 2 2 (e 3 3 (e 4 3 [])))) ≡ signed_prefix example_old
unfolding prefix_of ordinal word_of signed_prefix
example_same = refl

pub example_told : (prefix_words (signed_prefix example_old) ≡ e 1 1 (a 2 2 (e 3 3 (e 4 3 [])))) × (signed_words (prefix_of (e 1 1 (a 2 2 (e 3 3 (e 4 3 []))))) ≡ example_old)
unfolding prefix_of ordinal word_of words_from signed_prefix
example_told = (refl, refl)

-- 001's tables are admitted, and its proof's verdict is that of the old prefix: accepted, empty clause 9, 5 steps.
example_admitted : Admitted example_prefix example_clauses
unfolding tables_refusal words_refusal prefix_refusal prefix_of clauses_refusal is_in zeros word_of ordinal
example_admitted = record { passes = refl }

pub example_verdict : scope_verdict plain_rules (scope_in (signed_formula example_old example_clauses)) example_clauses (example_steps (pos 4)) 8200 9 ≡ accept (record { 0 = 9 }) 5
example_verdict = sym (verdict_same example_prefix example_clauses example_old example_admitted example_same plain_rules (example_steps (pos 4)) 8200 9) ∙ positions.0
