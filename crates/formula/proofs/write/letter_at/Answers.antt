-- `letter_at` answers by the entry that it is shown. Assumes nothing.
use mathlib.Core.Path.{ap, sym, ◌∙◌}
use Rattle.qbf.specs.Formula.{Entry}
use Rattle.formula.specs.Prefix.{entry_at}
use Rattle.formula.specs.Prefix.Laws.{shown_existential, shown_universal}
use Rattle.formula.specs.Write.{letter_of}
use Rattle.formula.proofs.write.letter_at.Goals as goal

pub returns-in-Existential : goal.returns-in-Existential
unfolding letter_of
returns-in-Existential c =
    let a = c.args in
    let e = shown_existential (entry_at a.prefix.words.now a.place) c.in-Existential.field-0 (sym c.entry_at.ensures ∙ c.in-Existential.is) in
    sym (ap (λ (x : Entry). letter_of x.quantifier) e)

pub returns-in-Universal : goal.returns-in-Universal
unfolding letter_of
returns-in-Universal c =
    let a = c.args in
    let e = shown_universal (entry_at a.prefix.words.now a.place) c.in-Universal.field-0 (sym c.entry_at.ensures ∙ c.in-Universal.is) in
    sym (ap (λ (x : Entry). letter_of x.quantifier) e)
