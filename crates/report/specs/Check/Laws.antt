-- From the stages to the line of the two files; then the headline: where what is printed begins as an `accepted` line, the game
-- of the formula that the text denotes is lost. Assumes nothing.
use Rattle.std.specs.Prelude.{Err, Ok}
use Rattle.checker.specs.Verdict.{Verdict, accept}
use Rattle.std.specs.Prelude.{ℕ, zero, suc, ◌≤◌, ◌≡◌, Bool, true, false, length, take, replicate, get_or, leb, ℤ}
use Rattle.std.proofs.Math.Path.{refl}
use Rattle.std.proofs.Common.{ap, sym, ◌∙◌, subst, arith, leb-true}
use mathlib.Core.List.{List, [], ◌∷◌}
use Rattle.formula.specs.Prefix.{entry_count}
use Rattle.formula.specs.Text.{Reading, read, refused, reading}
use Rattle.formula.specs.Refusal.{refusal, require}
use Rattle.formula.specs.declared.refusal.Refusal.{Refusal}
use Rattle.formula.specs.declared.refusal.Reason.TheVariants.{Oversized}
use Rattle.prooffile.specs.File.{ProofReading, proof_reading}
use Rattle.prooffile.specs.File.{read as readSteps, refused as refusedFile}
use Rattle.inference.specs.Rules.{plain_rules}
use Rattle.checker.specs.Verdict.{verdict_of}
use Rattle.checker.specs.Verdict.Accuracy.{accepted_lost}
use Rattle.report.specs.Line.{accepted_text, refused_line, settled, held, held_for}
use Rattle.report.specs.Check.{Room, verdict_line, settled_proof, steps_line, check_line, DenotesLost}

module _ (room : Room) (formula proof : List ℕ) where
  -- The formula is refused.
  pub refused_line_lem : (r : Refusal) → settled room.file formula room.prefix room.clauses ≡ refused r → check_line room formula proof ≡ refused_line r
  unfolding check_line
  refused_line_lem r e = rw e

  -- The formula is read.
  pub read_line :
      (prefix clauses : List ℤ) (count : ℕ) → settled room.file formula room.prefix room.clauses ≡ read prefix clauses count
      → check_line room formula proof ≡ steps_line room.scratch room.offsets prefix clauses count (settled_proof room.file proof count room.steps)
  unfolding check_line
  read_line prefix clauses count e = rw e

-- A text's first byte.
abbrev first : List ℕ → ℕ
first text = get_or text 0 0

first_taken : (text : List ℕ) → first (take 9 text) ≡ first text
first_taken [] = refl
first_taken (b ∷ text) = refl

first_zeros : (n : ℕ) → first (replicate n 0) ≡ 0
first_zeros zero = refl
first_zeros (suc n) = refl

-- What begins with `r`, or does not fit, is no `accepted` line.
refused_unlike : (r : Refusal) (n : ℕ) → take 9 (held (refused_line r) n) ≡ accepted_text → ◌≡◌ {A = ℕ} 0 1
unfolding refused_line
refused_unlike r n h = go (leb (length (refused_line r)) n) (sym (first_taken (held (refused_line r) n)) ∙ ap first h)
  where
    go : (b : Bool) → first (held_for b (refused_line r) n) ≡ 97 → ◌≡◌ {A = ℕ} 0 1
    go true e = absurd (omega (arith, e))
    go false e = absurd (omega (arith, e, first_zeros n))

-- A file that is settled as read is no longer than the largest taken, and is read so.
settled_read :
    (bound : ℕ) (formula : List ℕ) (p c : ℕ) (prefix clauses : List ℤ) (count : ℕ) → settled bound formula p c ≡ read prefix clauses count
    → (length formula ≤ bound) × (reading formula p c ≡ read prefix clauses count)
unfolding settled
settled_read bound formula p c prefix clauses count = go (leb (length formula) bound) refl (reading formula p c)
  where
    go : (b : Bool) → leb (length formula) bound ≡ b → (r : Reading) → require b (refused (refusal Oversized 0)) r ≡ read prefix clauses count → (length formula ≤ bound) × (r ≡ read prefix clauses count)
    go true l r e = (leb-true (length formula) bound l, e)
    go false l r e = let z : ◌≡◌ {A = ℕ} 0 1 = cc in absurd (omega arith)

settled_proof_read :
    (bound : ℕ) (proof : List ℕ) (count room : ℕ) (words : List ℤ) → settled_proof bound proof count room ≡ readSteps words
    → (length proof ≤ bound) × (proof_reading proof count room ≡ readSteps words)
unfolding settled_proof
settled_proof_read bound proof count room words = go (leb (length proof) bound) refl (proof_reading proof count room)
  where
    go : (b : Bool) → leb (length proof) bound ≡ b → (r : ProofReading) → require b (refusedFile (refusal Oversized 0)) r ≡ readSteps words → (length proof ≤ bound) × (r ≡ readSteps words)
    go true l r e = (leb-true (length proof) bound l, e)
    go false l r e = let z : ◌≡◌ {A = ℕ} 0 1 = cc in absurd (omega arith)

-- What a line that is no `refused` line is made from: both files are read, and the verdict is accepted.
pub record MadeFrom (room : Room) (formula proof : List ℕ) : Type 0 where
  pub prefix : List ℤ
  pub clauses : List ℤ
  pub count : ℕ
  pub words : List ℤ
  pub empty : ℕ
  pub steps : ℕ
  pub formula_fits : length formula ≤ room.file
  pub proof_fits : length proof ≤ room.file
  pub formula_read_lem : reading formula room.prefix room.clauses ≡ read prefix clauses count
  pub proof_read : proof_reading proof count room.steps ≡ readSteps words
  pub accepted : verdict_of plain_rules prefix clauses words room.scratch room.offsets ≡ accept (record { 0 = empty }) steps

module _ (room : Room) (formula proof : List ℕ) (P : List ℕ → Type 0) (unlike : (r : Refusal) → P (refused_line r) → ⊥) where
  pub made_from : P (check_line room formula proof) → MadeFrom room formula proof
  unfolding steps_line
  made_from h = go (settled room.file formula room.prefix room.clauses) refl
    where
      judged :
          (prefix clauses words : List ℤ) (count : ℕ) → settled room.file formula room.prefix room.clauses ≡ read prefix clauses count
          → settled_proof room.file proof count room.steps ≡ readSteps words
          → (v : Verdict) → verdict_of plain_rules prefix clauses words room.scratch room.offsets ≡ v
          → P (verdict_line (entry_count prefix) count v) → MadeFrom room formula proof
      judged prefix clauses words count e f (Ok a) q k =
          let text = settled_read room.file formula room.prefix room.clauses prefix clauses count e in
          let file = settled_proof_read room.file proof count room.steps words f in
          record {
            prefix = prefix;
            clauses = clauses;
            count = count;
            words = words;
            empty = a.empty.0;
            steps = a.steps;
            formula_fits = text.0;
            proof_fits = file.0;
            formula_read_lem = text.1;
            proof_read = file.1;
            accepted = q;
          }
      judged prefix clauses words count e f (Err r) q k = absurd (unlike r k)

      proved :
          (prefix clauses : List ℤ) (count : ℕ) → settled room.file formula room.prefix room.clauses ≡ read prefix clauses count
          → (s : ProofReading) → settled_proof room.file proof count room.steps ≡ s
          → P (steps_line room.scratch room.offsets prefix clauses count s) → MadeFrom room formula proof
      proved prefix clauses count e (readSteps words) f k = judged prefix clauses words count e f (verdict_of plain_rules prefix clauses words room.scratch room.offsets) refl k
      proved prefix clauses count e (refusedFile r) f k = absurd (unlike r k)

      go : (s : Reading) → settled room.file formula room.prefix room.clauses ≡ s → MadeFrom room formula proof
      go (read prefix clauses count) e =
          proved prefix clauses count e (settled_proof room.file proof count room.steps) refl (subst P (read_line room formula proof prefix clauses count e) h)
      go (refused r) e = absurd (unlike r (subst P (refused_line_lem room formula proof r e) h))

-- The headline.
pub accepted_denotes_lost : (room : Room) (formula proof : List ℕ) (n : ℕ) → take 9 (held (check_line room formula proof) n) ≡ accepted_text → DenotesLost room formula
accepted_denotes_lost room formula proof n h =
    let m = made_from room formula proof (λ line. take 9 (held line n) ≡ accepted_text) (λ r e. let z = refused_unlike r n e in omega (arith, z)) h in
    record {
      prefix = m.prefix;
      clauses = m.clauses;
      count = m.count;
      denotes = m.formula_read_lem;
      lost = accepted_lost plain_rules m.prefix m.clauses m.words room.scratch room.offsets m.empty m.steps m.accepted;
    }
