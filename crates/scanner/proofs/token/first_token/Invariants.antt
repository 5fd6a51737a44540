-- `first_token` passes byte after byte up to the first token. Assumes nothing.
use Rattle.std.proofs.Common.{◌≡◌, drop}
use Rattle.scanner.specs.Position.Cursor.{PositionIn}
use Rattle.scanner.specs.Token.{first_token, lead_from}
use Rattle.scanner.proofs.token.first_token.Given as goal

abbrev pub invariant-loop-b : goal.invariant-loop-b
invariant-loop-b l = (first_token l.text ≡ lead_from l.at.place l.lead (drop l.at.place l.text)) × PositionIn l.text l.at × (l.at.place ≡ l.b-index)
