-- `open_entry` stores by the entry's quantifier. Assumes nothing.
use Prim.Native.Nat.{◌≤◌}
use mathlib.Core.Path.{◌≡◌, refl, sym, ◌∙◌}
use native.Mathlib.Omega.{arith}
use borrow.Author.Rules.{rules}
use lib.ListN.{length}
use Rattle.qbf.specs.Formula.{entry, existential}
use Rattle.formula.specs.Prefix.{entry_at}
use Rattle.formula.specs.Prefix.Laws.{shown_existential, shown_universal, entry_at_ranged}
use Rattle.bits.specs.Flags.{flags}
use Rattle.dependency.specs.Search.{open_entry}
use Rattle.dependency.specs.Bits.{marks_in}
use Rattle.dependency.specs.Bits.Laws.{open_pair, open_none}
use Rattle.dependency.specs.Bits.Words.{length_own}
use Rattle.dependency.proofs.search.open_entry.Tie as tie
use Rattle.dependency.proofs.search.open_entry.Lts as lts
use Rattle.dependency.proofs.search.open_entry.Reads as reads
use Rattle.dependency.proofs.search.open_entry.Goals as goal

-- the entry at the place is an existential, whose variable is in range
opened :
    (c : lts.Past-After-known_told tie.the-claims reads.Pre reads.Post tie.handed_clauses)
    → entry_at c.args.prefix.words.now c.args.place ≡ entry c.in-Existential.v.0 existential
opened c = shown_existential _ _ (sym c.entry_at.ensures ∙ c.in-Existential.is)

ranged : (c : lts.Past-After-known_told tie.the-claims reads.Pre reads.Post tie.handed_clauses) → (1 ≤ c.in-Existential.v.0) × (c.in-Existential.v.0 ≤ 1024)
ranged c = rw (opened c) at (entry_at_ranged c.args.prefix.words.now c.args.prefix.entries c.args.place c.requires.place_in)

pub overflow_add-n : goal.overflow_add-n
overflow_add-n c = let r = (ranged c.before).1 in omega arith

pub put-requires : goal.put-requires
put-requires c =
    let r = (ranged c.before).1 in
    let size : length c.args.marks.now ≡ 640 = search rules in
    omega arith

pub returns-in-Existential : goal.returns-in-Existential
unfolding open_entry marks_in
returns-in-Existential c =
    let v = c.in-Existential.v.0 in
    let r = ranged c.before.before in
    let none = c.requires.no_entries in
    let fs = flags c.args.marks.now in
    let size = length_own c.args.marks.now (search rules) in
    let e = c.put.ensures in
    rw (opened c.before.before)
    (record {
      marks = λ t. rw e (open_pair t fs size v r.0 r.1 (none t));
      none = λ t i h. rw e (open_none t fs size v r.0 r.1 (none t) t i h (none t i h));
    })

pub returns-in-Universal : goal.returns-in-Universal
unfolding open_entry
returns-in-Universal c =
    rw (shown_universal (entry_at c.args.prefix.words.now c.args.place) _ (sym c.entry_at.ensures ∙ c.in-Universal.is))
    (record { marks = λ t. refl; none = c.requires.no_entries })
