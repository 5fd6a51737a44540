-- `write_bytes` stores the bytes one by one: what is left to store is what the loop has not passed. Assumes nothing.
use Rattle.std.proofs.Common.{drop}
use Rattle.formula.specs.Store.{Remains}
use Rattle.formula.proofs.decimal.write_bytes.Given as goal

abbrev pub invariant-loop-byte : goal.invariant-loop-byte
invariant-loop-byte l = Remains l.initial.text l.at l.bytes l.text l.next (drop l.byte-index l.bytes)
