-- `header_field` answers by the next token and its value. Assumes nothing.
use mathlib.Core.Path.{sym, ◌∙◌}
use Rattle.scanner.proofs.Theorems.Token.Laws.{Finds, no_token, token_found}
use Rattle.formula.specs.Text.Header.{field_found}
use Rattle.formula.specs.Text.Header.Laws.{field_found_lem}
use Rattle.formula.proofs.header.header_field.Tie as tie
use Rattle.formula.proofs.header.header_field.Lts as lts
use Rattle.formula.proofs.header.header_field.Reads as reads
use Rattle.formula.proofs.header.header_field.Goals as goal

-- the token that was found
found : (c : lts.Past-After-known_told2 tie.the-claims reads.Pre reads.Post) → let k = c.before.before.before in Finds k.args.text.now k.args.at.place c.in-Found.token c.in-Found.place c.in-Found.next
found c = let k = c.before.before.before in token_found k.args.text.now k.args.at.place k.requires.0.inside (sym c.next_token.ensures ∙ c.in-Found.is)

pub returns-in-End : goal.returns-in-End
unfolding field_found
returns-in-End c =
    let k = c.before.before.before.before.before in
    let none = no_token k.args.text.now k.args.at.place (sym c.next_token.ensures ∙ c.in-End.is) in
    rw (c.in_text.ensures, none.0, none.1)

pub returns-in-Some : goal.returns-in-Some
returns-in-Some c =
    let v = c.before.before in
    let f = found v.before in
    rw (f.slice, sym v.field_value.ensures ∙ c.in-Some.is) at (field_found_lem f v.args.wanted)

pub returns-in-None : goal.returns-in-None
returns-in-None c =
    let v = c.before.before.before in
    let f = found v.before in
    rw c.in_text-in-None.ensures (rw (f.slice, sym v.field_value.ensures ∙ c.in-None.is) at (field_found_lem f v.args.wanted))

pub field_value-requires : goal.field_value-requires
field_value-requires c = ((found c.before).from_place, (found c.before).next_in.inside)
