-- `read_open` counts within the buffer and ends: each turn leaves less to read or fewer tries. Assumes nothing.
use Rattle.std.proofs.Common.{◌≡◌, ◌+◌, ◌-◌, ◌≤◌, length}
use Rattle.files.proofs.read_open.Given as goal

abbrev pub invariant-loop-next : goal.invariant-loop-next
invariant-loop-next g l = (l.at ≤ length l.buffer) × (length l.buffer ≡ length l.fn.buffer)

abbrev pub decreases-loop-next : goal.decreases-loop-next
decreases-loop-next g l = length l.buffer - l.at + l.tries
