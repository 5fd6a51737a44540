-- `blocker_at` takes the variable of the entry and the third word of its record. Assumes nothing.
use Prim.Native.Nat.{◌+◌, ◌*◌, ◌<◌}
use mathlib.Core.Path.{◌≡◌, sym, ◌∙◌}
use native.Mathlib.Omega.{arith}
use borrow.Author.Rules.{rules}
use lib.ListN.{length, get_or}
use lib.IntN.{pos, nat_abs}
use mir.Syntax.{w32}
use mir.Val.{to_z, of_z, SFits}
use Rattle.formula.specs.Prefix.{prefix_of, with_blocks}
use Rattle.formula.specs.Refusal.{no_blocker}
use Rattle.formula.specs.Prefix.Laws.{entry_count_lem, entry_block, block_variable}
use Rattle.formula.proofs.prefix.Prefix.blocker_at.Tie as tie
use Rattle.formula.proofs.prefix.Prefix.blocker_at.Lts as lts
use Rattle.formula.proofs.prefix.Prefix.blocker_at.Reads as reads
use Rattle.formula.proofs.prefix.Prefix.blocker_at.Goals as goal

-- the record is one of the table
below : (c : lts.Start tie.the-claims reads.Pre reads.Post tie.handed_clauses) → 3 * c.args.place + 2 < length c.args.self.words.now
below c = omega (arith, entry_count_lem c.args.self.words.now, c.requires.place_in)

pub overflow_mul-result : goal.overflow_mul-result
overflow_mul-result c = let h = below c.before in search rules

pub overflow_add-result : goal.overflow_add-result
overflow_add-result c = let h = below c.before in search rules

pub offset_bounds-self-place : goal.offset_bounds-self-place
offset_bounds-self-place c = let h = below c.before in search rules

pub bounds-self-place : goal.bounds-self-place
bounds-self-place c = omega (arith, below c.before)

-- the third word, read back from its bits
third : (c : lts.After-t9 tie.the-claims reads.Pre reads.Post tie.handed_clauses) → to_z w32 (of_z w32 (get_or c.args.self.words.now (3 * c.args.place + 2) (pos 0))) ≡ pos (get_or (with_blocks (prefix_of c.args.self.words.now)) c.args.place no_blocker).block
third c =
    let a = c.args in
    let w = get_or a.self.words.now (3 * a.place + 2) (pos 0) in
    let e : to_z w32 (of_z w32 w) ≡ w = search rules in
    e ∙ entry_block a.self.words.now c.requires.table a.place c.requires.place_in

pub overflow_cast-result : goal.overflow_cast-result
overflow_cast-result c =
    let a = c.args in
    let w = get_or a.self.words.now (3 * a.place + 2) (pos 0) in
    let fits : SFits w32 w = search rules in
    let small = rw (entry_block a.self.words.now c.requires.table a.place c.requires.place_in) at fits in
    rw (third c) (tt, record { fits = omega (arith, small.sfits) })

pub returns : goal.returns
returns c =
    let a = c.args in
    let own = c.variable_at.ensures ∙ sym (block_variable 0 0 (prefix_of a.self.words.now) a.place c.requires.place_in) in
    λ i. record { variable = record { 0 = own i }; block = nat_abs (third c i) }
