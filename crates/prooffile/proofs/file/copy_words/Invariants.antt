-- `copy_words`: the words copied so far and those of the bytes that are left make all the words. Assumes nothing.
use Prim.Native.Nat.{◌*◌}
use mathlib.Core.Path.{◌≡◌}
use mathlib.Core.List.{◌++◌}
use lib.ListN.{length, take, drop}
use Rattle.prooffile.specs.File.{words_of}
use Rattle.prooffile.proofs.file.copy_words.Given as goal

abbrev pub invariant-loop-i : goal.invariant-loop-i
invariant-loop-i l = (length l.steps ≡ length l.initial.steps) × (drop l.n l.steps ≡ drop l.n l.initial.steps) × (words_of l.bytes ≡ take l.i l.steps ++ words_of (drop (4 * l.i) l.bytes))
