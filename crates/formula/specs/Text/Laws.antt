-- Laws of reading: what is known where a token is not refused, and how a token takes the state on. Assumes nothing.
use Rattle.std.specs.Prelude.{ℕ, ◌≤◌, ◌<◌, ◌≡◌, Bool, true, false, not, ◌&&◌, ltb, leb}
use Rattle.std.proofs.Math.Path.{refl}
use Rattle.std.proofs.Common.{ap, sym, ◌∙◌, ltb-true, leb-true}
use Rattle.std.proofs.Math.Option.{none}
use mathlib.Core.List.{List, [], ◌∷◌}
use Rattle.std.proofs.lemmas.Bool.{not-true}
use Rattle.qbf.specs.Connectives.{and_both}
use Rattle.formula.specs.Refusal.Laws.{require_none}
use Rattle.formula.specs.Bounds.{matrix_bound}
use Rattle.scanner.specs.Position.Cursor.{PositionIn}
use Rattle.formula.specs.Refusal.{in_text, refused_at}
use Rattle.scanner.specs.Token.{Token, tokens_at}
use Rattle.scanner.proofs.Theorems.Token.Laws.{Finds}
use Rattle.formula.specs.Text.{refused, State, stopped, variable_reason, literal_reason, closing_reason, step, run, ending, reading_from}
use Rattle.scanner.specs.declared.position.Position.{Position}
use Rattle.formula.specs.declared.refusal.Reason.{Reason}
use Rattle.scanner.specs.declared.token.Token.{Token as Shown}

-- A variable that is listed.
pub record VariableFine (v n : ℕ) (known fits : Bool) : Type 0 where
  pub in_range : n ≤ v
  pub fresh : known ≡ false
  pub room : fits ≡ true

pub variable_fine : (v n : ℕ) (known fits : Bool) → variable_reason v n known fits ≡ none → VariableFine v n known fits
unfolding variable_reason
variable_fine v n known fits e =
    let a = require_none (leb n v) _ _ e in
    let b = require_none (not known) _ _ a.1 in
    let d = require_none fits _ none b.1 in
    record { in_range = leb-true n v a.0; fresh = not-true known b.0; room = d.0 }

-- A literal that is written.
pub record LiteralFine (v n : ℕ) (clash : Bool) (used room : ℕ) : Type 0 where
  pub least : 1 ≤ n
  pub in_range : n ≤ v
  pub short : used < matrix_bound
  pub apart : clash ≡ false
  pub fits : used < room

pub literal_fine : (v n : ℕ) (clash : Bool) (used room : ℕ) → literal_reason v n clash used room ≡ none → LiteralFine v n clash used room
unfolding literal_reason
literal_fine v n clash used room e =
    let a = require_none (ltb 0 n && leb n v) _ _ e in
    let range = and_both (ltb 0 n) (leb n v) a.0 in
    let b = require_none (ltb used matrix_bound) _ _ a.1 in
    let f = require_none (not clash) _ _ b.1 in
    let g = require_none (ltb used room) _ none f.1 in
    record {
      least = ltb-true 0 n range.0;
      in_range = leb-true n v range.1;
      short = ltb-true used matrix_bound b.0;
      apart = not-true clash f.0;
      fits = ltb-true used room g.0;
    }

-- A closing 0 that is written.
pub record ClosingFine (used room : ℕ) : Type 0 where
  pub short : used < matrix_bound
  pub fits : used < room

pub closing_fine : (used room : ℕ) → closing_reason used room ≡ none → ClosingFine used room
unfolding closing_reason
closing_fine used room e =
    let a = require_none (ltb used matrix_bound) _ _ e in
    let b = require_none (ltb used room) _ none a.1 in
    record { short = ltb-true used matrix_bound a.0; fits = ltb-true used room b.0 }

-- The text ends; a token; a refusal stays.
module _ (prefixRoom clauseRoom : ℕ) (text : List ℕ) where
  pub from_end : (s : State) (at : ℕ) → tokens_at text at ≡ [] → reading_from prefixRoom clauseRoom text s at ≡ ending prefixRoom text s
  unfolding run
  from_end s at e = rw e

  pub from_token :
      (s : State) {at : ℕ} {shows : Shown} {p n : Position} (f : Finds text at shows p n)
      → reading_from prefixRoom clauseRoom text s at ≡ reading_from prefixRoom clauseRoom text (step prefixRoom clauseRoom s (record { bytes = f.bytes; place = p.place })) n.place
  unfolding run
  from_token s f = rw f.first

  run_stopped : (p : ℕ) (r : Reason) (ts : List Token) → run prefixRoom clauseRoom (stopped p r) ts ≡ stopped p r
  unfolding run step
  run_stopped p r [] = refl
  run_stopped p r (t ∷ ts) = run_stopped p r ts

  pub from_stopped : (p : ℕ) (r : Reason) (at : ℕ) → reading_from prefixRoom clauseRoom text (stopped p r) at ≡ refused (in_text text p r)
  unfolding ending
  from_stopped p r at = rw run_stopped

  pub from_refused : {p : Position} → PositionIn text p → (r : Reason) (at : ℕ) → reading_from prefixRoom clauseRoom text (stopped p.place r) at ≡ refused (refused_at p r)
  from_refused {p} i r at = from_stopped p.place r at ∙ ap (λ (q : Position). refused (refused_at q r)) (sym i.stands)
