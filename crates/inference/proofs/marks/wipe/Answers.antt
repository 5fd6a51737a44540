-- `wipe` looks for a mark, then clears all. Assumes nothing.
use Prim.Native.Nat.{ℕ}
use mathlib.Core.Path.{◌≡◌, ap, ◌∙◌}
use borrow.Author.Rules.{rules}
use lib.ListN.{length, replicate}
use Rattle.formula.specs.Clear.{clear_from}
use Rattle.inference.specs.Marks.{marks_in, any_marked}
use Rattle.inference.specs.Marks.Laws.{marks_cleared}
use Rattle.inference.proofs.marks.wipe.Goals as goal

pub returns : goal.returns
unfolding marks_in any_marked clear_from
returns c =
    let whole : length c.args.marks.now ≡ 256 = search rules in
    let e : c.clear_tail.new.buffer ≡ replicate 256 0 = c.clear_tail.ensures ∙ ap (λ (n : ℕ). replicate n 0) whole in
    record { told = c.any_marked-found.ensures; left = ap marks_in e ∙ marks_cleared }
