-- `any_marked`: what was found, or what is marked from here on, is what is marked at all. Assumes nothing.
use mathlib.Core.Path.{◌≡◌}
use mathlib.Core.Bool.{◌||◌}
use lib.ListN.{drop}
use Rattle.bits.specs.Flags.{flags}
use Rattle.inference.specs.Marks.{any_marked}
use Rattle.inference.proofs.marks.any_marked.Given as goal

abbrev pub invariant-loop-byte : goal.invariant-loop-byte
invariant-loop-byte l = (l.found || any_marked (flags (drop l.byte-index l.bytes))) ≡ any_marked (flags l.bytes)
