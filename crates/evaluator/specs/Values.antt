-- The values of a game held in bytes, one for each variable's number: 1 is true, anything else false, and so is a number
-- that the bytes do not reach. Laws are in Values/Laws.antt.
pub mod Laws
use Rattle.std.specs.Prelude.{ℕ, List, eqb, get_or}
use Rattle.qbf.specs.Play.{Values}

unfoldable pub values_of : List ℕ → Values
values_of vs v = eqb (get_or vs v 0) 1
