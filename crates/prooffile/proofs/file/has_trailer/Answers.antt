-- `has_trailer` tests length, mark and distance in turn. Assumes nothing.
use Prim.Native.Nat.{◌%◌}
use mathlib.Core.Path.{sym, ap, ◌∙◌}
use borrow.Author.Rules.{rules}
use lib.Dec.{leb}
use Rattle.prooffile.specs.File.{trailer_start}
use Rattle.prooffile.specs.File.Laws.{trailer_short, trailer_unmarked, trailer_uneven, trailer_within}
use Rattle.prooffile.proofs.file.has_trailer.Goals as goal

pub returns-then-file-lt-TRAILER : goal.returns-then-file-lt-TRAILER
returns-then-file-lt-TRAILER c = sym (trailer_short c.args.file.now (search rules))

pub returns-then-distance-ne0 : goal.returns-then-distance-ne0
returns-then-distance-ne0 c =
    let b = c in
    sym
    (trailer_uneven b.args.file.now (search rules) (sym b.mark_at.ensures ∙ c.if-mark_at.true)
    (λ e. c.if-distance-ne0.true (ap (λ d. d % 4) c.number_at-distance.ensures ∙ e)))

pub returns-else-distance-ne0 : goal.returns-else-distance-ne0
returns-else-distance-ne0 c =
    let b = c in
    let f = b.args.file.now in
    ap (λ d. leb d (trailer_start f)) c.number_at-distance.ensures
    ∙ sym
    (trailer_within f (search rules) (sym b.mark_at.ensures ∙ c.if-mark_at.true)
    (ap (λ d. d % 4) (sym c.number_at-distance.ensures) ∙ c.if-distance-ne0.false))

pub returns-else-mark_at : goal.returns-else-mark_at
returns-else-mark_at c =
    let b = c in
    sym (trailer_unmarked b.args.file.now (search rules) (sym b.mark_at.ensures ∙ c.if-mark_at.false))
