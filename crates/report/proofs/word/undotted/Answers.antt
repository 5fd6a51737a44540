-- `undotted` counts the bytes before the first dot: as many as the word has. Assumes nothing.
use Prim.Native.Nat.{ℕ, suc}
use mathlib.Core.Path.{◌≡◌, refl, ap, ◌∙◌}
use mathlib.Core.Bool.{Bool, true, false, not}
use mathlib.Core.List.{List, [], ◌∷◌}
use Rattle.std.specs.Prelude.{◌==◌}
use Rattle.std.specs.List.{take_while}
use Rattle.std.proofs.Common.{cond, rules, tests}
use Rattle.std.proofs.lemmas.Iterator.{YieldsList-from_slice}
use Rattle.std.proofs.lemmas.Iterator.Consumers.{count_from_yields_List}
use Rattle.std.proofs.lemmas.Iterator.Search.{YieldsList-from_take_while}
use Rattle.std.proofs.lemmas.List.Sums.{take_while-cons}
use lib.ListN.{length}
use Rattle.report.specs.Word.{word_in, before_dot}
use Rattle.report.proofs.word.undotted.Goals as goal

word_length : (bs : List ℕ) → length (take_while (λ b. not (b == 46)) bs) ≡ length (word_in bs)
unfolding word_in
word_length [] = refl
word_length (b ∷ bs) = rw take_while-cons (go (b == 46) (word_length bs))
  where
    go : (t : Bool) → length (take_while (λ b. not (b == 46)) bs) ≡ length (word_in bs)
        → length (cond (not t) (b ∷ take_while (λ b. not (b == 46)) bs) []) ≡ length (before_dot t b (word_in bs))
    go true later = refl
    go false later = ap suc later

pub returns : goal.returns
returns c =
    let dotless : ℕ → Bool = λ b. not (b == 46) in
    count_from_yields_List c.take_while.result _ c.count.ensures.ran
    (YieldsList-from_take_while _ dotless (YieldsList-from_slice c.args.bytes.now cc) c.take_while.ensures.closure c.take_while.ensures.done (λ x b q k. search (rules, tests)))
    ∙ word_length c.args.bytes.now
