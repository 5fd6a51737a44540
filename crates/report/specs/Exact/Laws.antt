-- Wish 2 from bytes to bytes: within bounds and room the line is an `accepted` line exactly when the files refute, and its four
-- numbers are theirs; then for the room of 01's programs, where nothing is supposed but that the files are bytes. Assumes nothing.
use Rattle.checker.specs.Verdict.{accept}
use Prim.Native.Nat.{ℕ, suc, ◌+◌, ◌*◌, ◌-◌, ◌≤◌}
use Rattle.std.specs.Prelude.{◌≡◌, refl, ◌↔◌, ◌⊎◌, List, length, take, get_or}
use Rattle.std.proofs.Common.{ap, ◌∙◌, inl, inr, arith, le-leb}
use Rattle.formula.specs.Decode.{clauses_of}
use Rattle.formula.specs.Prefix.{entry_count}
use Rattle.formula.specs.Tables.{zeros}
use Rattle.formula.proofs.Theorems.Tables.Laws.{admitted_closed, admitted_count}
use Rattle.formula.specs.Text.{read}
use Rattle.formula.proofs.Theorems.Text.Admits.{read_admitted}
use Rattle.formula.specs.declared.refusal.Refusal.{Refusal}
use Rattle.dependency.specs.Scratch.{scratch_bound}
use Rattle.prooffile.specs.File.{trailer_start, distance, proof_reading}
use Rattle.prooffile.specs.File.{read as readSteps}
use Rattle.prooffile.specs.File.Passed.{Bytes}
use Rattle.prooffile.specs.File.Laws.{read_fits}
use Rattle.prooffile.specs.File.Layout.Laws.{file_of_length, layout_read, read_layout}
use Rattle.inference.specs.Lawful.{numbered_clauses}
use Rattle.checker.specs.Refutation.{FirstEmpty}
use Rattle.checker.specs.Refutation.Ending.{ends_some, unended_first, accepting_refutation}
use Rattle.checker.specs.Refutation.FirstEmptyClause.{empty_first}
use Rattle.checker.specs.Refutation.Laws.{words_within}
use Rattle.inference.specs.Rules.{plain_rules}
use Rattle.checker.specs.Verdict.{verdict_of}
use Rattle.checker.specs.Verdict.Accuracy.{accepted_refutation, refutation_accepted}
use Rattle.report.specs.Line.{accepted_line, refused_line, file_bound, settled}
use Rattle.report.specs.Check.{Room, settled_proof, steps_line, check_line}
use Rattle.report.specs.Check.Laws.{read_line, made_from}
use Rattle.report.specs.Program.{program_room}
use Rattle.report.specs.Exact.{AcceptedLine, Refuting, FilesWithin}

-- A `refused` line is no `accepted` line: they differ in the first byte.
refused_not_accepted : (r : Refusal) → AcceptedLine (refused_line r) → ⊥
unfolding refused_line accepted_line
refused_not_accepted r a = let e = ap (λ (text : List ℕ). get_or text 0 0) a.is in omega (arith, e)

-- An `accepted` line: the files are no longer than the largest taken, and refute.
accepted_refuting :
    (room : Room) (formula proof : List ℕ) → Bytes proof → AcceptedLine (check_line room formula proof)
    → (length formula ≤ room.file) × (length proof ≤ room.file) × Refuting room formula proof
accepted_refuting room formula proof bytes a =
    let m = made_from room formula proof AcceptedLine refused_not_accepted a in (
      m.formula_fits,
      m.proof_fits,
      record {
        prefix = m.prefix;
        clauses = m.clauses;
        count = m.count;
        reads = m.formula_read_lem;
        note = take (trailer_start proof - distance proof) proof;
        words = m.words;
        signed = read_fits proof m.count room.steps m.words bytes m.proof_read;
        laid_out = read_layout proof m.count room.steps m.words bytes m.proof_read;
        refutation =
            accepting_refutation m.prefix m.clauses m.words room.scratch room.offsets m.empty m.steps
            (accepted_refutation plain_rules m.prefix m.clauses m.words room.scratch room.offsets m.empty m.steps m.accepted);
      },
    )

module _ (room : Room) (formula proof : List ℕ) (within : FilesWithin room formula proof) where
  -- The numbers: V how many entries the prefix has, C how many input clauses there are, the steps, and the first empty clause's.
  pub accepted_line_numbers :
      (r : Refuting room formula proof) (place : ℕ) → FirstEmpty (numbered_clauses (clauses_of r.clauses) r.refutation.steps) place
      → check_line room formula proof ≡ accepted_line (entry_count r.prefix) r.count (length r.refutation.steps) (suc place)
  unfolding settled settled_proof steps_line
  accepted_line_numbers r place f =
      let fits = within.steps_fit r.prefix r.clauses r.count r.reads r.note r.words r.laid_out in
      let text : settled room.file formula room.prefix room.clauses ≡ read r.prefix r.clauses r.count =
      rw (le-leb (length formula) room.file within.formula_fits, r.reads) in
      let steps : proof_reading proof r.count room.steps ≡ readSteps r.words =
      rw r.laid_out (layout_read r.note r.words r.count fits.1.sized room.steps fits.0 r.signed) in
      let file : settled_proof room.file proof r.count room.steps ≡ readSteps r.words =
      rw (le-leb (length proof) room.file within.proof_fits, steps) in
      let verdict : verdict_of plain_rules r.prefix r.clauses r.words room.scratch room.offsets ≡ accept (record { 0 = suc place }) (length r.refutation.steps) =
      refutation_accepted plain_rules r.prefix r.clauses r.words room.scratch room.offsets (suc place) (length r.refutation.steps)
      (record {
        admitted = (read_admitted formula room.prefix room.clauses r.prefix r.clauses r.count r.reads).admitted;
        sized = fits.1.sized;
        scratch_fits = fits.1.scratch_fits;
        steps = r.refutation.steps;
        written = r.refutation.written;
        lawful = r.refutation.lawful;
        family = r.refutation.family;
        of_family = r.refutation.of_family;
        allowed = λ q. r.refutation.unended;
        offsets_fit = fits.1.offsets_fit r.refutation.steps r.refutation.written;
        place = place;
        place_numbered = refl;
        first_empty_lem = f;
        counted = refl;
      }) in
      read_line room formula proof r.prefix r.clauses r.count text ∙ rw (file, verdict)

  -- Of a refutation with steps the printed empty clause is C + steps (02, P10).
  pub accepted_line_last :
      (r : Refuting room formula proof) → 1 ≤ length r.refutation.steps
      → check_line room formula proof ≡ accepted_line (entry_count r.prefix) r.count (length r.refutation.steps) (r.count + length r.refutation.steps)
  accepted_line_last r h =
      let known = clauses_of r.clauses in
      let steps = r.refutation.steps in
      let f = empty_first (numbered_clauses known steps) (ends_some steps known r.refutation.ends_empty) in
      let a = read_admitted formula room.prefix room.clauses r.prefix r.clauses r.count r.reads in
      let closed = admitted_closed r.prefix r.clauses a.admitted in
      accepted_line_numbers r f.0 f.1
      ∙ ap (accepted_line (entry_count r.prefix) r.count (length steps)) (last f.0 a.counted closed (unended_first steps known f.0 r.refutation.unended f.1))
    where
      last :
          (place : ℕ) → r.count ≡ zeros r.clauses → length (clauses_of r.clauses) ≡ zeros r.clauses
          → ((length r.refutation.steps ≡ 0) × FirstEmpty (clauses_of r.clauses) place) ⊎ ((1 ≤ length r.refutation.steps) × (suc place ≡ length (clauses_of r.clauses) + length r.refutation.steps))
          → suc place ≡ r.count + length r.refutation.steps
      last place a b (inl t) = let z = t.0 in absurd (omega arith)
      last place a b (inr t) = let z = t.1 in omega arith

  -- Wish 2, from the bytes of the files.
  pub accepted_line_exactly : Bytes proof → AcceptedLine (check_line room formula proof) ↔ Refuting room formula proof
  accepted_line_exactly bytes = (
    λ a. (accepted_refuting room formula proof bytes a).2,
    λ r. let f = empty_first (numbered_clauses (clauses_of r.clauses) r.refutation.steps) (ends_some r.refutation.steps (clauses_of r.clauses) r.refutation.ends_empty) in
        record { variables = entry_count r.prefix; clauses = r.count; steps = length r.refutation.steps; empty = suc f.0; is = accepted_line_numbers r f.0 f.1 },
  )

-- Files of 65,536 bytes at most are within the room of 01's programs.
pub program_within : (formula proof : List ℕ) → length formula ≤ file_bound → length proof ≤ file_bound → FilesWithin program_room formula proof
program_within formula proof h k =
    record {
      formula_fits = h;
      proof_fits = k;
      steps_fit = λ prefix clauses count e note words laid.
          let a = (read_admitted formula 3072 16384 prefix clauses count e).admitted in
          let n : length proof ≡ length note + 4 * length words + 12 = rw laid (file_of_length note words count) in (
            omega arith,
            words_within clauses words scratch_bound 16384 (omega arith) (omega arith) (omega (arith, admitted_closed prefix clauses a, admitted_count prefix clauses a)),
          );
    }

-- The first program's line is an `accepted` line exactly when neither file is longer than 65,536 bytes and they refute.
pub program_line_exactly :
    (formula proof : List ℕ) → Bytes proof
    → AcceptedLine (check_line program_room formula proof) ↔ ((length formula ≤ file_bound) × (length proof ≤ file_bound) × Refuting program_room formula proof)
program_line_exactly formula proof bytes = (
  accepted_refuting program_room formula proof bytes,
  λ t. (accepted_line_exactly program_room formula proof (program_within formula proof t.0 t.1) bytes).1 t.2,
)
