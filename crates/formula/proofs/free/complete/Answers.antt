-- `complete` counts the free variables, moves the listed ones on, puts the free ones in front and numbers the blocks. Assumes nothing.
use Prim.Native.Nat.{ℕ, ◌+◌, ◌^◌, ◌≤◌, ◌<◌}
use mathlib.Core.Path.{◌≡◌, ap, sym, ◌∙◌}
use native.Mathlib.Omega.{arith}
use borrow.Author.Rules.{rules}
use lib.ListN.{length, take, drop, length-append}
use lib.Seq.{length-take-le, take_at}
use Rattle.formula.specs.Bounds.{variable_bound}
use Rattle.formula.specs.Prefix.{entry_words, Moved, entry_count, Entries}
use Rattle.formula.specs.Prefix.Laws.{entry_count_lem, words_sum, words_rise}
use Rattle.formula.specs.Free.Complete.{free_marked}
use Rattle.formula.proofs.Theorems.Free.Complete.Laws.{completed_total, completed_ranged, completed_few, completed_whole, completed_numbered}
use Rattle.formula.proofs.free.complete.Tie as tie
use Rattle.formula.proofs.free.complete.Lts as lts
use Rattle.formula.proofs.free.complete.Reads as reads
use Rattle.formula.proofs.free.complete.Goals as goal

-- how many entries there are then
few : (c : lts.After-count_free tie.the-claims reads.Pre reads.Post tie.handed_clauses) → c.count_free-added.result + c.args.entries ≤ 1024
few c =
    let s = c.before in
    rw c.count_free-added.ensures (completed_total s.args.marks.now s.args.variables s.args.entries s.args.prefix.now s.requires.within.0 s.requires.prefix_fine)

pub overflow_add-total : goal.overflow_add-total
overflow_add-total c = let h = few c in search rules

-- where the free ones are counted, seen from where there is room
abbrev counted : (c : lts.Else1 tie.the-claims reads.Pre reads.Post tie.handed_clauses) → lts.After-count_free tie.the-claims reads.Pre reads.Post tie.handed_clauses
counted c = c.before.before

-- they have room
room : (c : lts.Else1 tie.the-claims reads.Pre reads.Post tie.handed_clauses) → entry_words ((counted c).count_free-added.result + (counted c).args.entries) ≤ length (counted c).args.prefix.now
unfolding entry_words
room c = let h = c.if-entry_count-total.false in omega (arith, c.entry_count.ensures, entry_count_lem (counted c).args.prefix.now)

pub returns-then-entry_count-total : goal.returns-then-entry_count-total
unfolding entry_words
returns-then-entry_count-total c =
    rw (← c.count_free-added.ensures) (let h = c.if-entry_count-total.true in omega (arith, c.entry_count.ensures, entry_count_lem c.args.prefix.now))

-- a number of entries that are not more has words
small : (c : lts.After-count_free tie.the-claims reads.Pre reads.Post tie.handed_clauses) (n : ℕ) → n ≤ c.count_free-added.result + c.args.entries → entry_words n < 2 ^ 64
unfolding entry_words
small c n h = omega (arith, few c)

pub entry_words-requires-2 : goal.entry_words-requires-2
entry_words-requires-2 c = let k = counted c.before.before in small k k.count_free-added.result (omega arith)

pub move_words-requires : goal.move_words-requires
move_words-requires c =
    let k = counted c.before.before.before in
    omega (arith, c.entry_words-2.ensures, c.entry_words.ensures, words_sum k.count_free-added.result k.args.entries, room c.before.before.before)

pub put_free-requires : goal.put_free-requires
put_free-requires c =
    let k = counted c.before.before.before.before.before.before in
    let s = k.before in (
      s.requires.within.1,
      rw (← k.count_free-added.ensures)
          (omega (arith, words_rise k.count_free-added.result (k.count_free-added.result + s.args.entries) (omega arith), room c.before.before.before.before.before.before, c.prefix-1.given)),
    )

pub entry_words-words-requires : goal.entry_words-words-requires
entry_words-words-requires c =
    let k = counted c.before.before.before.before.before.before.before.before in
    small k (k.count_free-added.result + k.args.entries) (omega arith)

-- the table once the free variables stand in front, and the part of it that is used
put_length : (c : lts.After-entry_words3 tie.the-claims reads.Pre reads.Post tie.handed_clauses) → let k = counted c.before.before.before.before.before.before.before.before.before in entry_words (k.count_free-added.result + k.args.entries) ≤ length c.put_free.new.prefix
put_length c = omega (arith, room c.before.before.before.before.before.before.before.before.before, c.prefix-2-1.given, c.prefix-1.given)

pub slice_bounds-number_blocks-end : goal.slice_bounds-number_blocks-end
slice_bounds-number_blocks-end c = rw c.entry_words-words.ensures (put_length c)

module _ (c : lts.After-entry_words3 tie.the-claims reads.Pre reads.Post tie.handed_clauses) where
  abbrev k : lts.After-count_free tie.the-claims reads.Pre reads.Post tie.handed_clauses
  k = counted c.before.before.before.before.before.before.before.before.before

  abbrev s : lts.Start tie.the-claims reads.Pre reads.Post tie.handed_clauses
  s = k.before

  moved : Moved (entry_words s.args.entries) (entry_words (length (free_marked s.args.marks.now s.args.variables))) s.args.prefix.now c.move_words.new.prefix
  moved = rw (← k.count_free-added.ensures, ← c.entry_words-2.ensures, ← c.entry_words.ensures) c.move_words.ensures

  words : c.entry_words-words.result ≡ entry_words (length (free_marked s.args.marks.now s.args.variables) + s.args.entries)
  words = c.entry_words-words.ensures ∙ ap (λ n. entry_words (n + s.args.entries)) k.count_free-added.ensures

  fits : entry_words (length (free_marked s.args.marks.now s.args.variables) + s.args.entries) ≤ length c.put_free.new.prefix
  fits = rw (← k.count_free-added.ensures) (put_length c)

  part_ranged : Entries (take c.entry_words-words.result c.put_free.new.prefix)
  part_ranged = rw words (completed_ranged s.args.marks.now s.args.variables s.args.entries s.args.prefix.now c.move_words.new.prefix c.put_free.new.prefix fits moved c.put_free.ensures s.requires.prefix_fine)

  part_few : entry_count (take c.entry_words-words.result c.put_free.new.prefix) ≤ variable_bound
  part_few = rw words (completed_few s.args.marks.now s.args.variables s.args.entries s.args.prefix.now c.move_words.new.prefix c.put_free.new.prefix fits moved c.put_free.ensures s.requires.prefix_fine)

  part_whole : length (take c.entry_words-words.result c.put_free.new.prefix) ≡ entry_words (entry_count (take c.entry_words-words.result c.put_free.new.prefix))
  part_whole = rw words (completed_whole s.args.marks.now s.args.variables s.args.entries s.args.prefix.now c.move_words.new.prefix c.put_free.new.prefix fits moved c.put_free.ensures s.requires.prefix_fine)

  part_length : length (take c.entry_words-words.result c.put_free.new.prefix) ≡ c.entry_words-words.result
  part_length = length-take-le c.entry_words-words.result c.put_free.new.prefix (slice_bounds-number_blocks-end c)

pub slice_bounds-number_blocks-end-2 : goal.slice_bounds-number_blocks-end-2
slice_bounds-number_blocks-end-2 c = sym (part_length c.before)

pub number_blocks-requires : goal.number_blocks-requires
number_blocks-requires c = record { entries = part_ranged c.before; entries_in_bound = part_few c.before; whole_entries = part_whole c.before }

pub returns : goal.returns
returns c =
    let e = c.before.before.before in
    let numbered = c.number_blocks.new.prefix in
    let put = e.put_free.new.prefix in
    let same : length numbered ≡ length (take e.entry_words-words.result put) = search rules in
    let long : length numbered ≡ e.entry_words-words.result = same ∙ part_length e in (
      words e,
      rw length-append (omega (arith, long)),
      take_at numbered (drop e.entry_words-words.result put) e.entry_words-words.result long
          ∙ completed_numbered (s e).args.marks.now (s e).args.variables (s e).args.entries (s e).args.prefix.now e.move_words.new.prefix put (fits e) (moved e) e.put_free.ensures (s e).requires.prefix_fine numbered (rw (← words e) c.number_blocks.ensures),
    )
