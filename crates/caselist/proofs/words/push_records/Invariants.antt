-- `push_records`: the records of the variables below v stand behind the words that were there. Assumes nothing.
use Rattle.std.proofs.Common.{◌≡◌, ◌⊎◌, ◌++◌, ◌-◌, ◌≤ℤ◌, pos, nat_abs}
use Rattle.caselist.specs.Tokens.{records}
use Rattle.caselist.proofs.words.push_records.Given as goal

abbrev pub invariant-loop-v : goal.invariant-loop-v
invariant-loop-v l = (pos 1 ≤ℤ l.v) × ((l.v ≡ pos 1) ⊎ (l.v ≤ℤ l.last)) × (l.words.items ≡ l.initial.words.items ++ records (nat_abs l.v - 1) l.in_turn)
