-- `write_word` stores the text of its word, by the cases of the word. Assumes nothing.
use Rattle.std.proofs.Common.{◌≡◌, [], ◌∷◌, ◌++◌, w32, to_z, of_z, rules, sym, ◌∙◌}
use Rattle.formula.specs.Decimal.{decimal}
use Rattle.formula.specs.Store.Laws.{stores_append, below_first, below_rest}
use Rattle.formula.specs.Word.Laws.{not_too_large}
use Rattle.formula.specs.Write.Laws.{text_zero, text_positive, text_negative}
use Rattle.formula.proofs.write.write_word.Goals as goal

pub write_bytes-requires : goal.write_bytes-requires
write_bytes-requires c =
    let e : to_z w32 (of_z w32 c.args.word) ≡ c.args.word = search rules in
    rw (text_zero c.args.word (rw e at (sym c.of.ensures ∙ c.in-Zero.is))) at c.requires.place_fits

pub write_spaced-requires : goal.write_spaced-requires
write_spaced-requires c =
    let e : to_z w32 (of_z w32 c.args.word) ≡ c.args.word = search rules in
    rw (text_positive c.args.word c.in-Positive.v (rw e at (sym c.of.ensures ∙ c.in-Positive.is))) at c.requires.place_fits

pub put-next-requires : goal.put-next-requires
put-next-requires c =
    let e : to_z w32 (of_z w32 c.args.word) ≡ c.args.word = search rules in
    below_first _ (45 ∷ []) (decimal c.in-Negative.v.0 ++ (32 ∷ []))
    (rw (text_negative c.args.word c.in-Negative.v (rw e at (sym c.of.ensures ∙ c.in-Negative.is))) at c.requires.place_fits)

pub write_spaced-requires-in-Negative : goal.write_spaced-requires-in-Negative
write_spaced-requires-in-Negative c =
    let e : to_z w32 (of_z w32 c.args.word) ≡ c.args.word = search rules in
    below_rest (decimal c.in-Negative.v.0 ++ (32 ∷ []))
    (rw (text_negative c.args.word c.in-Negative.v (rw e at (sym c.of.ensures ∙ c.in-Negative.is))) at c.requires.place_fits)
    c.put-next.ensures

pub returns-in-Zero : goal.returns-in-Zero
returns-in-Zero c =
    let e : to_z w32 (of_z w32 c.args.word) ≡ c.args.word = search rules in
    rw (text_zero c.args.word (rw e at (sym c.of.ensures ∙ c.in-Zero.is))) c.write_bytes.ensures

pub returns-in-TooLarge : goal.returns-in-TooLarge
returns-in-TooLarge c =
    let e : to_z w32 (of_z w32 c.args.word) ≡ c.args.word = search rules in
    not_too_large c.args.word c.requires.in_range (rw e at (sym c.of.ensures ∙ c.in-TooLarge.is))

pub returns-in-Positive : goal.returns-in-Positive
returns-in-Positive c =
    let e : to_z w32 (of_z w32 c.args.word) ≡ c.args.word = search rules in
    rw (text_positive c.args.word c.in-Positive.v (rw e at (sym c.of.ensures ∙ c.in-Positive.is))) c.write_spaced.ensures

pub returns-in-Negative : goal.returns-in-Negative
returns-in-Negative c =
    let e : to_z w32 (of_z w32 c.args.word) ≡ c.args.word = search rules in
    rw (text_negative c.args.word c.in-Negative.v (rw e at (sym c.of.ensures ∙ c.in-Negative.is)))
    (stores_append c.put-next.ensures c.write_spaced-in-Negative.ensures)
