-- `copy_row`: the bytes written so far stand before what the row's buffer still holds. Assumes nothing.
use mathlib.Core.Path.{◌≡◌}
use mathlib.Core.List.{◌++◌}
use lib.ListN.{length, drop}
use Rattle.dependency.specs.Scratch.{row_in}
use Rattle.dependency.specs.Answer.{asked_bytes}
use Rattle.dependency.proofs.answer.copy_row.Given as goal

abbrev pub invariant-loop-i : goal.invariant-loop-i
invariant-loop-i l = (l.row ≡ asked_bytes (row_in l.made) l.i ++ drop l.i l.initial.row) × (length l.row ≡ length l.initial.row)
