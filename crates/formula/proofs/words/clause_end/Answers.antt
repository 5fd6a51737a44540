-- `clause_end` goes on past literals and stops at what is none. Assumes nothing.
use Rattle.std.proofs.Common.{sym, ◌∙◌, arith, add-one}
use Rattle.formula.specs.Words.Laws.{word_within, close_past_word, close_at_none}
use Rattle.formula.proofs.words.clause_end.Goals as goal

pub overflow_add-at : goal.overflow_add-at
overflow_add-at c =
    let h = word_within c.args.words.now c.loop-at.at _ (sym c.clause_word.ensures ∙ c.in-Word.is) in
    record { fits = omega arith }

pub loop-at-smaller : goal.loop-at-smaller
loop-at-smaller c = omega (arith, word_within c.args.words.now c.loop-at.at _ (sym c.clause_word.ensures ∙ c.in-Word.is))

pub loop-at-preserved : goal.loop-at-preserved
loop-at-preserved c =
    rw add-one
    (sym (close_past_word c.loop-at.at c.args.words.now c.loop-at.at _ (sym c.clause_word.ensures ∙ c.in-Word.is)) ∙ c.loop-at.invariant)

pub returns : goal.returns
returns c = sym (close_at_none c.loop-at.at c.args.words.now c.loop-at.at (λ l e. c.in_default.not-Word l (c.clause_word.ensures ∙ e))) ∙ c.loop-at.invariant
