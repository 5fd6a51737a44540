-- `words_into`: no more words are put than the table has room for. Assumes nothing.
use Rattle.std.specs.Prelude.{◌≡◌, ◌≤◌, length}
use Rattle.caselist.proofs.words.words_into.Given as goal

abbrev pub invariant-loop-token : goal.invariant-loop-token
invariant-loop-token l = (l.n ≤ length l.table) × (length l.table ≡ length l.initial.table)
