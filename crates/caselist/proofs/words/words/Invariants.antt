-- `words`: what stands is what the tokens so far write. Assumes nothing.
use Rattle.caselist.proofs.Fields.{WritesSoFar}
use Rattle.caselist.proofs.words.words.Given as goal

abbrev pub invariant-loop-token : goal.invariant-loop-token
invariant-loop-token l = WritesSoFar l.field l.words.items l.token-iterator
