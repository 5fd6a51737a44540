-- Buffers of the right lengths are the programs' room; what is printed fits; and of a formula that is refused the line is the
-- same whatever the proof. Assumes nothing.
use Rattle.std.specs.Prelude.{is_ok, Ok, Err, Result}
use Rattle.formula.specs.declared.refusal.Refusal.{Refusal}
use Rattle.formula.specs.declared.read.Filled.{Filled}
use Rattle.std.specs.Prelude.{ℕ, ◌≤◌, ◌≡◌, refl, true, false, List, length, leb, ℤ}
use Rattle.std.proofs.Common.{◌∙◌, ap, arith, le-leb}
use Rattle.formula.specs.Text.{Reading, read, refused}
use Rattle.report.specs.Line.{settled, used, held}
use Rattle.report.specs.Check.{Room, proof_line, check_line, LineChecked}
use Rattle.report.specs.Dependents.{dependency_text, LinesPrinted}
use Rattle.report.specs.Settle.{tables_read, FormulaSettled}
use Rattle.report.specs.Program.{program_room, Whole, ProgramLine, ProgramText, is_read, formula_read}

-- A text that is no longer than the buffer is printed whole.
pub printed_whole : (text : List ℕ) (room answer : ℕ) (after : List ℕ) → answer ≡ used text room → after ≡ held text room → length text ≤ room → Whole text room answer after
printed_whole text room answer after a p h = record { answers = rw fits at a; prints = rw fits at p }
  where
    fits : leb (length text) room ≡ true
    fits = le-leb (length text) room h

-- What `check_line` promises, lent the programs' room.
module _ {formula proof line line' : List ℕ} {answer : ℕ} {prefix' clauses' steps' : List ℤ} {scratch' offsets' : List ℕ} where
  line_in_room : LineChecked program_room formula proof line line' answer prefix' clauses' steps' scratch' offsets' → ProgramLine formula proof line line' answer
  line_in_room c =
      record {
        answers = c.answers;
        prints = c.prints;
        whole = λ h. printed_whole _ _ _ _ c.answers c.prints (omega (arith, c.short));
        accepted_lost = c.accepted_lost;
      }

  pub line_printed :
      {room : Room} → room ≡ program_room → LineChecked room formula proof line line' answer prefix' clauses' steps' scratch' offsets'
      → ProgramLine formula proof line line' answer
  line_printed e c = line_in_room (rw e at c)

-- What `dependency_lines` promises, lent as much of the programs' room as it uses: no steps and no clause offsets.
text_in_room :
    (room : Room) (formula : List ℕ) → room.file ≡ program_room.file → room.prefix ≡ program_room.prefix → room.clauses ≡ program_room.clauses → room.scratch ≡ program_room.scratch
    → dependency_text room formula ≡ dependency_text program_room formula
unfolding dependency_text
text_in_room room formula f p c s = rw (f, p, c, s)

pub text_printed :
    {room : Room} {formula text text' : List ℕ} {answer : ℕ} {prefix' clauses' : List ℤ} {scratch' : List ℕ}
    → room.file ≡ program_room.file → room.prefix ≡ program_room.prefix → room.clauses ≡ program_room.clauses → room.scratch ≡ program_room.scratch
    → LinesPrinted room formula text text' answer prefix' clauses' scratch' → ProgramText formula text text' answer
text_printed {room} {formula} f p c s printed =
    let same = text_in_room room formula f p c s in
    let answers = rw same at printed.answers in
    let prints = rw same at printed.prints in
    let short = rw same at printed.short in
    record {
      answers = answers;
      prints = prints;
      whole = λ h. printed_whole _ _ _ _ answers prints (omega (arith, short));
    }

-- What `settle_formula` answered says whether the formula is read.
pub settled_found :
    {formula : List ℕ} {prefixRoom clauseRoom : ℕ} {prefix clauses : List ℤ} {answer found : Result Filled Refusal} → prefixRoom ≡ program_room.prefix → clauseRoom ≡ program_room.clauses
    → FormulaSettled program_room.file formula prefixRoom clauseRoom prefix clauses answer → answer ≡ found
    → formula_read program_room formula ≡ is_read (tables_read found prefix clauses)
unfolding formula_read
settled_found p c s e = rw (← p, ← c, ← e) (ap is_read s.settles)

pub settled_tells :
    {formula : List ℕ} {prefixRoom clauseRoom : ℕ} {prefix clauses : List ℤ} {answer : Result Filled Refusal} → prefixRoom ≡ program_room.prefix → clauseRoom ≡ program_room.clauses
    → FormulaSettled program_room.file formula prefixRoom clauseRoom prefix clauses answer → formula_read program_room formula ≡ is_ok answer
settled_tells {formula} {prefixRoom} {clauseRoom} {prefix} {clauses} {answer} p c s = settled_found p c s refl ∙ told answer
  where
    told : (a : Result Filled Refusal) → is_read (tables_read a prefix clauses) ≡ is_ok a
    told (Ok f) = refl
    told (Err r) = refl

-- 01, "Programs": "the formula settled before the proof file is looked at".
pub refused_whatever_proof : (room : Room) (formula proof other : List ℕ) → formula_read room formula ≡ false → check_line room formula proof ≡ check_line room formula other
unfolding check_line formula_read
refused_whatever_proof room formula proof other = go (settled room.file formula room.prefix room.clauses)
  where
    go : (s : Reading) → is_read s ≡ false → proof_line room proof s ≡ proof_line room other s
    go (read prefix clauses count) e = let z : ◌≡◌ {A = ℕ} 0 1 = cc in absurd (omega arith)
    go (refused r) e = refl
