-- What the function that fills both tables promises. Laws are in proofs/Theorems/Text/Fill/Laws.antt.
use Rattle.formula.specs.declared.refusal.Refusal.{Refusal}
use Rattle.formula.specs.declared.read.Filled.{Filled}
use Rattle.std.specs.Prelude.{◌≤◌, ◌≡◌, List, ℤ, length, take, Result, Ok, Err}
use Rattle.formula.specs.Text.{Reading, read, refused}

-- The tables filled with what is read, whatever stands past the used part.
abbrev pub FillPost : (reading : Reading) (prefix' clauses' : List ℤ) → Result Filled Refusal → Type 0
FillPost reading prefix' clauses' (Ok f) =
    (reading ≡ read (take f.prefix_used prefix') (take f.clauses_used clauses') f.clauses) × (f.prefix_used ≤ length prefix') × (f.clauses_used ≤ length clauses')
FillPost reading prefix' clauses' (Err r) = reading ≡ refused r
