-- `next_token` passes blanks, then takes the token that begins there. Assumes nothing.
use Rattle.scanner.proofs.Theorems.Token.Laws.{nothing_behind}
use Rattle.scanner.proofs.token.next_token.Goals as goal

pub returns-else-found-text : goal.returns-else-found-text
returns-else-found-text c =
    let s = c.before.before.skip_blanks-found in
    let text = c.before.before.before.before.args.text.now in
    rw s.ensures.same_tokens (nothing_behind text s.result s.ensures.stands c.if-found-text.false)
