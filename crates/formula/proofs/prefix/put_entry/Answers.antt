-- `put_entry` stores the three words of the entry. Assumes nothing.
use Prim.Native.Nat.{◌+◌, ◌*◌, ◌<◌}
use mathlib.Core.Path.{◌≡◌}
use mathlib.Core.Bool.{true}
use native.Mathlib.Omega.{arith}
use borrow.Author.Rules.{rules}
use lib.ListN.{length, length-set}
use lib.IntN.{pos}
use mir.Syntax.{w32}
use mir.Val.{to_z, of_z}
use Rattle.qbf.specs.Formula.{Quantifier, existential, universal}
use Rattle.formula.specs.Prefix.{quantifier_number, quantifier_of, entry_words, put_entry}
use Rattle.formula.specs.Prefix.Laws.{put_within}
use Rattle.formula.proofs.SignedWord.{number_word, signed_back}
use Rattle.formula.proofs.prefix.put_entry.Tie as tie
use Rattle.formula.proofs.prefix.put_entry.Lts as lts
use Rattle.formula.proofs.prefix.put_entry.Reads as reads
use Rattle.formula.proofs.prefix.put_entry.Goals as goal

-- the record is one of the table
below : (c : lts.Start tie.the-claims reads.Pre reads.Post tie.handed_clauses) → 3 * c.args.entries + 2 < length c.args.prefix.now
unfolding entry_words
below c = omega (arith, put_within (length c.args.prefix.now) c.args.entries c.requires.has_room)

-- the quantifier's word, read back from its bits
number_back : (q : Quantifier) → to_z w32 (of_z w32 (pos (quantifier_number q))) ≡ pos (quantifier_number q)
number_back existential = signed_back true 1 (omega arith)
number_back universal = signed_back true 2 (omega arith)

pub overflow_mul-at : goal.overflow_mul-at
overflow_mul-at c = let h = below c in search rules

pub offset_bounds-prefix-at : goal.offset_bounds-prefix-at
offset_bounds-prefix-at c = let h = below c.before in search rules

pub bounds-prefix-at : goal.bounds-prefix-at
bounds-prefix-at c = omega (arith, below c.before)

pub overflow_add-prefix : goal.overflow_add-prefix
overflow_add-prefix c = let h = below c.before.before in search rules

pub offset_bounds-prefix-at-2 : goal.offset_bounds-prefix-at-2
offset_bounds-prefix-at-2 c = let h = below c.before.before in search rules

pub bounds-prefix-at-2 : goal.bounds-prefix-at-2
bounds-prefix-at-2 c = rw length-set (omega (arith, below c.before.before))

pub overflow_add-at : goal.overflow_add-at
overflow_add-at c = let h = below c.before.before in search rules

pub offset_bounds-prefix-at-3 : goal.offset_bounds-prefix-at-3
offset_bounds-prefix-at-3 c = let h = below c.before.before in search rules

pub bounds-prefix-at-3 : goal.bounds-prefix-at-3
bounds-prefix-at-3 c = simp length-set (omega (arith, below c.before.before))

pub returns : goal.returns
unfolding put_entry entry_words
returns c =
    let a = c.args in
    rw (c.quantifier_word.ensures, number_back (quantifier_of a.existential), number_word a.variable.0 c.requires.in_bound.0, number_word a.block c.requires.in_bound.1)
