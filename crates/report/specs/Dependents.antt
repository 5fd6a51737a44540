-- The lines of the second program (01, "Programs") from the bytes of its file: for each universal in prefix order its number, a
-- colon, and its dependents in prefix order, a space before each; or the refused line. Bytes: 58 the colon. As the line is written it
-- stands in Dependents/Listing.antt.
pub mod Listing
pub mod Laws
pub mod Length
use Rattle.std.specs.Prelude.{ℕ, ◌≤◌, ◌≡◌, Bool, true, false, List, [], ◌∷◌, ◌++◌, length, replicate, leb, ℤ, pos}
use Rattle.qbf.specs.Formula.{Quantifier, existential, universal, Entry, Prefix, Formula}
use Rattle.qbf.specs.Dependency.{depends}
use Rattle.formula.specs.Decimal.{decimal}
use Rattle.formula.specs.Decode.{formula_of}
use Rattle.formula.specs.Prefix.{prefix_of}
use Rattle.formula.specs.Refusal.{refusal, require}
use Rattle.formula.specs.declared.refusal.Reason.TheVariants.{NoRoom}
use Rattle.formula.specs.Text.{Reading, read, refused}
use Rattle.dependency.specs.Scratch.{scratch_bound}
use Rattle.report.specs.Line.{refused_line, settled, used, held}
use Rattle.report.specs.Check.{Room}

-- A dependent is printed with a space before it; a variable that is none is left out.
unfoldable pub if_dependent : Bool → ℕ → List ℕ
if_dependent true e = 32 ∷ decimal e
if_dependent false e = []

unfoldable pub dependents : Formula → ℕ → Prefix → List ℕ
dependents F u [] = []
dependents F u (x ∷ P) = if_dependent (depends F u x.variable) x.variable ++ dependents F u P

unfoldable pub universal_line : Formula → Prefix → ℕ → List ℕ
universal_line F P u = decimal u ++ (58 ∷ (dependents F u P ++ (10 ∷ [])))

-- An existential has no line of its own.
abbrev pub if_universal : Quantifier → List ℕ → List ℕ
if_universal existential line = []
if_universal universal line = line

unfoldable pub entry_line : Formula → Prefix → Entry → List ℕ
entry_line F P x = if_universal x.quantifier (universal_line F P x.variable)

-- The lines of the universals among some entries, `whole` being the whole prefix.
unfoldable pub universal_lines : Formula → (whole : Prefix) → Prefix → List ℕ
universal_lines F whole [] = []
universal_lines F whole (x ∷ P) = entry_line F whole x ++ universal_lines F whole P

-- What tables that were read give: 3 for scratch of fewer bytes than a row asks for.
unfoldable pub tables_text : (scratch : ℕ) (prefix clauses : List ℤ) → List ℕ
tables_text scratch prefix clauses =
    require (leb scratch_bound scratch) (refused_line (refusal NoRoom 0)) (universal_lines (formula_of prefix clauses) (prefix_of prefix) (prefix_of prefix))

-- The formula is settled; then its tables are gone through.
abbrev pub lines_of : (scratch : ℕ) → Reading → List ℕ
lines_of scratch (read prefix clauses count) = tables_text scratch prefix clauses
lines_of scratch (refused r) = refused_line r

-- No steps are read: of the room that is lent, `steps` and `offsets` are not used.
unfoldable pub dependency_text : Room → (formula : List ℕ) → List ℕ
dependency_text room formula = lines_of room.scratch (settled room.file formula room.prefix room.clauses)

-- What a buffer for the text has room for: no text is longer. Of 1,024 variables u are universal and e existential: u lines of
-- at most four digits, a colon and LF, and at most u × e dependents of a space and four digits; 6 × 1,024 + 5 × 512 × 512 bytes.
abbrev pub text_room : ℕ
text_room = 1316864

-- What `dependency_lines` promises; `text_room` bytes hold every text. Its tables and scratch end as zeros.
pub record LinesPrinted (room : Room) (formula text text' : List ℕ) (answer : ℕ) (prefix' clauses' : List ℤ) (scratch' : List ℕ) : Type 0 where
  pub answers : answer ≡ used (dependency_text room formula) (length text)
  pub prints : text' ≡ held (dependency_text room formula) (length text)
  pub short : length (dependency_text room formula) ≤ text_room
  pub prefix_cleared : prefix' ≡ replicate room.prefix (pos 0)
  pub clauses_cleared : clauses' ≡ replicate room.clauses (pos 0)
  pub scratch_cleared : scratch' ≡ replicate room.scratch 0
