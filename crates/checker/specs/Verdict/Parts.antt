-- The check of a proof from its parts: what was lent, cleared, and the conclusion. Assumes nothing.
use Rattle.checker.specs.Verdict.{accept}
use Rattle.std.specs.Prelude.{ℕ, ◌-◌, ◌≡◌, refl, List, length, replicate, Option, Some}
use Rattle.formula.specs.Clear.{clear_from}
use Rattle.formula.specs.declared.literal.ClauseNumber.{ClauseNumber}
use Rattle.inference.specs.Empty.{number_found}
use Rattle.checker.specs.Verdict.{concluded}

pub cleared_whole : (l : List ℕ) → clear_from 0 0 l ≡ replicate (length l) 0
unfolding clear_from
cleared_whole l = refl

-- The conclusion from the first empty clause's number.
pub concluded_at : (inputs numbered : ℕ) (empty : Option ClauseNumber) (n : ClauseNumber) → empty ≡ Some n → accept n (numbered - inputs) ≡ concluded inputs numbered (number_found empty)
concluded_at inputs numbered empty n e = rw e
