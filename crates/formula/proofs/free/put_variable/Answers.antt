-- `put_variable` makes the variable, which is in range, and puts its entry. Assumes nothing.
use borrow.Author.Rules.{rules}
use lib.ListN.{length}
use Rattle.formula.specs.Prefix.{entry_words}
use Rattle.formula.specs.Prefix.Laws.{put_within}
use Rattle.formula.proofs.free.put_variable.Goals as goal

pub overflow_add-result : goal.overflow_add-result
unfolding entry_words
overflow_add-result c =
    let s = c in
    let h = put_within (length s.args.prefix.now) s.args.entries s.requires.2 in
    search rules
