-- What the programs print of it (02, P1): a formula that is refused gives the line of a refusal placed in its text; where it is read, the line is
-- an accepted one or that of a refusal without line and column. Assumes nothing.
use Rattle.std.specs.Prelude.{Err, Ok}
use Rattle.checker.specs.Verdict.{Verdict, accept}
use Rattle.std.specs.Prelude.{ℕ, ◌≡◌, Bool, ◌⊎◌, List, leb, ℤ, length}
use Rattle.std.proofs.Math.Path.{refl, subst}
use Rattle.std.proofs.Common.{◌∙◌, inl, inr}
use Rattle.std.proofs.Math.Bool.{true, false}
use Rattle.formula.specs.Decode.{formula_of}
use Rattle.formula.specs.Prefix.{prefix_of, entry_count}
use Rattle.formula.specs.Refusal.{refusal, require}
use Rattle.formula.specs.Text.{read, refused, reading}
use Rattle.formula.specs.declared.refusal.Reason.TheVariants.{Oversized, NoRoom}
use Rattle.formula.specs.declared.refusal.Refusal.{Refusal}
use Rattle.prooffile.specs.File.{ProofReading, proof_reading}
use Rattle.prooffile.specs.File.{read as readSteps, refused as refusedFile}
use Rattle.inference.specs.Rules.{plain_rules}
use Rattle.checker.specs.Verdict.{verdict_of}
use Rattle.report.specs.Line.{accepted_line, refused_line, settled}
use Rattle.report.specs.Check.{Room, settled_proof, steps_line, check_line}
use Rattle.report.specs.Check.Laws.{refused_line_lem, read_line}
use Rattle.dependency.specs.Scratch.{scratch_bound}
use Rattle.report.specs.Dependents.{universal_lines, tables_text, dependency_text}
use Rattle.report.specs.Dependents.Laws.{text_refused, text_read}
use Rattle.places.specs.InText.{PlacedIn, ReadPlaced, oversized_placed, refused_placed}
use Rattle.places.specs.Elsewhere.{Unplaced, FileIn, file_unplaced, verdict_unplaced}

module _ (room : Room) (formula : List ℕ) (r : Refusal) (e : settled room.file formula room.prefix room.clauses ≡ refused r) where
  settled_placed : PlacedIn formula r
  unfolding settled
  settled_placed = go (leb (length formula) room.file) e
    where
      go : (b : Bool) → require b (refused (refusal Oversized 0)) (reading formula room.prefix room.clauses) ≡ refused r → PlacedIn formula r
      go true f = refused_placed formula room.prefix room.clauses r f
      go false f = subst (ReadPlaced formula) f (oversized_placed formula)

  -- The first program's line, whatever the proof file, and the second program's text.
  pub check_formula_refused : (proof : List ℕ) → (check_line room formula proof ≡ refused_line r) × PlacedIn formula r
  check_formula_refused proof = (refused_line_lem room formula proof r e, settled_placed)

  pub dependency_formula_refused : (dependency_text room formula ≡ refused_line r) × PlacedIn formula r
  dependency_formula_refused = (text_refused room formula r e, settled_placed)

-- The line of a formula that is read: accepted, or refused without line and column.
pub data ProofLine (line : List ℕ) : Type 0 where
  accepts : (variables clauses steps empty : ℕ) → line ≡ accepted_line variables clauses steps empty → ProofLine line
  refuses : (r : Refusal) → Unplaced r → line ≡ refused_line r → ProofLine line

module _ (room : Room) (formula proof : List ℕ) (prefix clauses : List ℤ) (count : ℕ) where
  abbrev steps : ProofReading
  steps = settled_proof room.file proof count room.steps

  settled_proof_unplaced : (r : Refusal) → steps ≡ refusedFile r → Unplaced r
  unfolding settled_proof
  settled_proof_unplaced r = go (leb (length proof) room.file)
    where
      go : (b : Bool) → require b (refusedFile (refusal Oversized 0)) (proof_reading proof count room.steps) ≡ refusedFile r → Unplaced r
      go true f = file_unplaced proof count room.steps r f
      go false f = subst FileIn f (record { no_line = refl; no_column = refl })

  pub check_proof_line : settled room.file formula room.prefix room.clauses ≡ read prefix clauses count → ProofLine (check_line room formula proof)
  unfolding steps_line
  check_proof_line e = go steps refl
    where
      whole : check_line room formula proof ≡ steps_line room.scratch room.offsets prefix clauses count steps
      whole = read_line room formula proof prefix clauses count e

      judged :
          (words : List ℤ) → steps ≡ readSteps words → (v : Verdict) → verdict_of plain_rules prefix clauses words room.scratch room.offsets ≡ v
          → ProofLine (check_line room formula proof)
      judged words f (Ok a) q = accepts (entry_count prefix) count a.steps a.empty.0 (whole ∙ rw (f, q))
      judged words f (Err r) q = refuses r (verdict_unplaced plain_rules prefix clauses words room.scratch room.offsets r q) (whole ∙ rw (f, q))

      go : (s : ProofReading) → steps ≡ s → ProofLine (check_line room formula proof)
      go (readSteps words) f = judged words f (verdict_of plain_rules prefix clauses words room.scratch room.offsets) refl
      go (refusedFile r) f = refuses r (settled_proof_unplaced r f) (whole ∙ rw f)

-- The second program's text for a formula that is read: 3 for scratch, which has no line and no column, or the universals' lines.
pub dependency_read_text :
    (room : Room) (formula : List ℕ) (prefix clauses : List ℤ) (count : ℕ) → settled room.file formula room.prefix room.clauses ≡ read prefix clauses count
    → (dependency_text room formula ≡ refused_line (refusal NoRoom 0)) ⊎ (dependency_text room formula ≡ universal_lines (formula_of prefix clauses) (prefix_of prefix) (prefix_of prefix))
unfolding tables_text
dependency_read_text room formula prefix clauses count e = go (leb scratch_bound room.scratch) (text_read room formula prefix clauses count e)
  where
    lines : List ℕ
    lines = universal_lines (formula_of prefix clauses) (prefix_of prefix) (prefix_of prefix)

    go : (b : Bool) → dependency_text room formula ≡ require b (refused_line (refusal NoRoom 0)) lines → (dependency_text room formula ≡ refused_line (refusal NoRoom 0)) ⊎ (dependency_text room formula ≡ lines)
    go true f = inr f
    go false f = inl f
