-- What a turn of `read_open` leaves, by the laws of a reading: the buffer is as long as before. Assumes nothing.
use Rattle.std.proofs.Common.{◌-◌, length, sym}
use borrow.Rule.Slice.PartMut.{same_len_mid}
use lib.Seq.{length-take-le}
use Rattle.files.specs.Reading.Laws.{on_next, whole_next}
use Rattle.files.proofs.read_open.Goals as goal

pub loop-next-smaller : goal.loop-next-smaller
loop-next-smaller g c =
    let e = let l = c.loop-next in same_len_mid l.at (length l.buffer - l.at) l.buffer c.read_once-got.new.buffer c.read_once-got.auto.buffer in
    rw e (on_next _ _ _ _ _ _ (rw e at c.after_read.ensures) c.loop-next.invariant.0 _ _ c.in-On.is).1

pub loop-next-preserved : goal.loop-next-preserved
loop-next-preserved g c =
    let e = let l = c.loop-next in same_len_mid l.at (length l.buffer - l.at) l.buffer c.read_once-got.new.buffer c.read_once-got.auto.buffer in
    rw e ((on_next _ _ _ _ _ _ (rw e at c.after_read.ensures) c.loop-next.invariant.0 _ _ c.in-On.is).0, c.loop-next.invariant.1)

pub returns-in-Whole : goal.returns-in-Whole
returns-in-Whole g c =
    let e = let l = c.loop-next in same_len_mid l.at (length l.buffer - l.at) l.buffer c.read_once-got.new.buffer c.read_once-got.auto.buffer in
    let h = whole_next _ _ _ _ _ _ (rw e at c.after_read.ensures) c.loop-next.invariant.0 _ c.in-Whole.is in
    (rw e h, sym (length-take-le _ _ (rw e h)))
