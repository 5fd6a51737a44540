-- `words`: a turn pushes the words of one token more; where none is left, the field is written. Assumes nothing.
use Rattle.caselist.proofs.Fields.{so_far-token, so_far-end}
use Rattle.caselist.proofs.words.words.Goals as goal

pub loop-token-preserved : goal.loop-token-preserved
loop-token-preserved c =
    so_far-token _ _ _ c.loop-token.token-iterator c.next.new.self c.in-Some.token c.loop-token.invariant c.in-Some.ensures.steps c.in_ok-push_token.ensures

pub returns : goal.returns
returns c = so_far-end _ _ c.loop-token.token-iterator c.next.new.self c.loop-token.invariant c.in-None.ensures.steps
