-- `write_header` stores the header's five parts in order. Assumes nothing.
use native.Mathlib.Omega.{arith}
use Rattle.formula.specs.Store.Laws.{stores_append}
use Rattle.formula.specs.Write.{header_text}
use Rattle.formula.specs.Write.Laws.{length_header}
use Rattle.formula.proofs.write.write_header.Goals as goal

pub write_number-at-requires : goal.write_number-at-requires
write_number-at-requires c =
    let s = c in
    omega (arith, length_header s.args.top s.args.count, s.requires, c.write_bytes-at.ensures.reached)

pub put-at-requires : goal.put-at-requires
put-at-requires c =
    let number = c in
    let bytes = number.before.before.before.before in
    let s = bytes.before.before.before.before in
    omega (arith, length_header s.args.top s.args.count, s.requires, bytes.write_bytes-at.ensures.reached, number.write_number-at.ensures.reached)

pub write_number-at-requires-2 : goal.write_number-at-requires-2
write_number-at-requires-2 c =
    let space = c in
    let number = space.before.before.before.before in
    let bytes = number.before.before.before.before in
    let s = bytes.before.before.before.before in
    omega (
      arith,
      length_header s.args.top s.args.count,
      s.requires,
      bytes.write_bytes-at.ensures.reached,
      number.write_number-at.ensures.reached,
      space.put-at.ensures.reached,
    )

pub put-requires : goal.put-requires
put-requires c =
    let count = c in
    let space = count.before.before.before.before in
    let number = space.before.before.before.before in
    let bytes = number.before.before.before.before in
    let s = bytes.before.before.before.before in
    omega (
      arith,
      length_header s.args.top s.args.count,
      s.requires,
      bytes.write_bytes-at.ensures.reached,
      number.write_number-at.ensures.reached,
      space.put-at.ensures.reached,
      count.write_number-at-2.ensures.reached,
    )

pub returns : goal.returns
unfolding header_text
returns c =
    let feed = c in
    let count = feed.before.before.before.before in
    let space = count.before.before.before.before in
    let number = space.before.before.before.before in
    let bytes = number.before.before.before.before in
    stores_append bytes.write_bytes-at.ensures
    (stores_append number.write_number-at.ensures
    (stores_append space.put-at.ensures (stores_append count.write_number-at-2.ensures feed.put.ensures)))
