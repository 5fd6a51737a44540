-- Refusals that are not about text (02, P1): those of tables, of writing, of rows, of the evaluator, of a proof file and of a proof have line 0
-- and column 0. Assumes nothing.
use Rattle.std.specs.Prelude.{Result, Ok, Err, ⊤}
use Rattle.formula.specs.declared.tables.Counts.{Counts}
use Rattle.checker.specs.Verdict.{Verdict, accept}
use Prim.Native.Nat.{ℕ, zero, suc}
use Rattle.std.specs.Prelude.{◌≡◌, refl, Bool, ◌&&◌, eqb, ℤ, length}
use Rattle.std.proofs.Math.Bool.{true, false}
use Rattle.std.proofs.Math.Option.{Option, none, some}
use mathlib.Core.List.{List, [], ◌∷◌, ◌++◌}
use Rattle.std.proofs.Math.Dec.{leb}
use Rattle.qbf.specs.Play.{lost}
use Rattle.formula.specs.Bounds.{proof_bound}
use Rattle.formula.specs.Decode.{clauses_of, matrix_of}
use Rattle.formula.specs.Prefix.{prefix_of, entry_count}
use Rattle.formula.specs.Refusal.{passes, refusal, require, unless}
use Rattle.formula.specs.Tables.{zeros, tables_refusal, tables_answer, admits}
use Rattle.formula.proofs.Theorems.Tables.Refusals.{tables_refused}
use Rattle.formula.specs.Write.{written, if_room, writing_refusal, answer_writing}
use Rattle.formula.specs.declared.refusal.Reason.{Reason}
use Rattle.formula.specs.declared.refusal.Reason.TheVariants.{Oversized, NoRoom, NoTrailer, OtherFormula, NotUniversal}
use Rattle.formula.specs.declared.refusal.Refusal.{Refusal}
use Rattle.dependency.specs.Answer.{universal_asked, asked_refusal, room_refusal, row_refusal}
use Rattle.evaluator.specs.Evaluation.{game_bound, verdict, unset, evaluation_of}
use Rattle.prooffile.specs.File.{ProofReading, read, refused, step_count, clause_count, has_trailer, step_bytes, words_of, proof_refusal, proof_reading}
use Rattle.inference.specs.Rules.{Rules}
use Rattle.inference.specs.declared.read.Family.{Family}
use Rattle.inference.specs.Steps.{Scope, Judged, right, wrong, Step, Outcome, ended, family_of, judge_first, turn, less_one, size_of, stated_by, run}
use Rattle.inference.specs.Steps.{refused as stepRefused}
use Rattle.checker.specs.Verdict.{conclusion, concluded, conclude, sized_verdict, verdict_of}
use Rattle.inference.specs.Scope.{scope_of}
use Rattle.inference.specs.Words.{Words}

pub record Unplaced (r : Refusal) : Type 0 where
  pub no_line : r.line ≡ 0
  pub no_column : r.column ≡ 0

unplaced : (r : Reason) (p : ℕ) → Unplaced (refusal r p)
unplaced r p = record { no_line = refl; no_column = refl }

-- A refusal that there may be; tests that refuse, whatever the answer.
abbrev MayUnplaced : Option Refusal → Type 0
MayUnplaced none = Unit {0}
MayUnplaced (some r) = Unplaced r

module _ {A : Type 0} (P : A → Type 0) where
  require_holds : (b : Bool) (refuses later : A) → P refuses → P later → P (require b refuses later)
  require_holds true refuses later h k = k
  require_holds false refuses later h k = h

  unless_holds : (f : Refusal → A) (o : Option Refusal) (done : A) → ((r : Refusal) → Unplaced r → P (f r)) → MayUnplaced o → P done → P (unless f o done)
  unless_holds f (some r) done refuses h k = refuses r h
  unless_holds f none done refuses h k = k

require_may : (b : Bool) (r : Reason) (p : ℕ) (later : Option Refusal) → MayUnplaced later → MayUnplaced (require b (some (refusal r p)) later)
require_may b r p later h = require_holds MayUnplaced b (some (refusal r p)) later (unplaced r p) h

-- Tables.
module _ (prefix words : List ℤ) where
  tables_may : MayUnplaced (tables_refusal prefix words)
  tables_may = go (tables_refusal prefix words) refl
    where
      go : (o : Option Refusal) → tables_refusal prefix words ≡ o → MayUnplaced o
      go none e = tt
      go (some r) e = let t = tables_refused prefix words r e in record { no_line = t.no_line; no_column = t.no_column }

  abbrev TablesIn : Result Counts Refusal → Type 0
  TablesIn (Ok c) = Unit {0}
  TablesIn (Err r) = Unplaced r

  pub tables_unplaced : (r : Refusal) → tables_answer prefix words ≡ Err r → Unplaced r
  tables_unplaced r e =
      rw e at (unless_holds TablesIn Err (tables_refusal prefix words) (admits (entry_count prefix) (zeros words)) (λ s h. h) tables_may tt)

  -- What comes after the tables' own refusals.
  after_tables_may : (later : Option Refusal) → MayUnplaced later → MayUnplaced (unless some (tables_refusal prefix words) later)
  after_tables_may later h = unless_holds MayUnplaced some (tables_refusal prefix words) later (λ r k. k) tables_may h

  -- Writing.
  abbrev WritingIn : Result ℕ Refusal → Type 0
  WritingIn (Ok used) = Unit {0}
  WritingIn (Err r) = Unplaced r

  writing_may : (room : ℕ) → MayUnplaced (writing_refusal prefix words room)
  unfolding writing_refusal
  writing_may room =
      after_tables_may (if_room (leb (length (written prefix words)) room)) (require_may (leb (length (written prefix words)) room) NoRoom 0 none tt)

  pub writing_unplaced : (room used : ℕ) (r : Refusal) → answer_writing (writing_refusal prefix words room) used ≡ Err r → Unplaced r
  writing_unplaced room used r e =
      rw e at (unless_holds WritingIn Err (writing_refusal prefix words room) (Ok used) (λ s h. h) (writing_may room) tt)

  -- Rows.
  abbrev RowIn : Result ⊤ Refusal → Type 0
  RowIn (Ok tt) = Unit {0}
  RowIn (Err r) = Unplaced r

  row_may : (bytes : ℕ) (variable : ℤ) (row scratch : ℕ) → MayUnplaced (row_refusal bytes prefix words variable row scratch)
  unfolding row_refusal
  row_may bytes variable row scratch =
      after_tables_may (asked_refusal bytes (prefix_of prefix) variable row scratch)
      (require_may (universal_asked (prefix_of prefix) variable) NotUniversal 0 (room_refusal bytes row scratch)
      (require_may (leb 1025 row && leb bytes scratch) NoRoom 0 none tt))

  pub row_unplaced : (bytes : ℕ) (variable : ℤ) (row scratch : ℕ) (r : Refusal) → passes (row_refusal bytes prefix words variable row scratch) ≡ Err r → Unplaced r
  row_unplaced bytes variable row scratch r e =
      rw e at (unless_holds RowIn Err (row_refusal bytes prefix words variable row scratch) (Ok tt) (λ s h. h) (row_may bytes variable row scratch) tt)

  -- The evaluator.
  abbrev EvaluationIn : Result Bool Refusal → Type 0
  EvaluationIn (Ok true) = Unit {0}
  EvaluationIn (Ok false) = Unit {0}
  EvaluationIn (Err r) = Unplaced r

  evaluation_in : EvaluationIn (evaluation_of prefix words)
  unfolding evaluation_of
  evaluation_in =
      unless_holds EvaluationIn Err (tables_refusal prefix words) _ (λ s h. h) tables_may
      (require_holds EvaluationIn (leb (entry_count prefix) game_bound) (Err (refusal Oversized 0)) _ (unplaced Oversized 0) (either (lost (prefix_of prefix) unset (matrix_of words))))
    where
      either : (b : Bool) → EvaluationIn (verdict b)
      either true = tt
      either false = tt

  pub evaluation_unplaced : (r : Refusal) → evaluation_of prefix words ≡ Err r → Unplaced r
  evaluation_unplaced r e = rw e at evaluation_in

-- The proof file: what is read is no refusal, or one without line and column.
abbrev pub FileIn : ProofReading → Type 0
FileIn (read words) = Unit {0}
FileIn (refused r) = Unplaced r

file_may : (file : List ℕ) (count room : ℕ) → MayUnplaced (proof_refusal file count room)
unfolding proof_refusal
file_may file count room =
    require_may (has_trailer file) NoTrailer 0 _
    (require_may (leb (step_count file) proof_bound) Oversized 0 _
    (require_may (eqb (clause_count file) count) OtherFormula 0 _
    (require_may (leb (step_count file) room) NoRoom 0 none tt)))

pub file_unplaced : (file : List ℕ) (count room : ℕ) (r : Refusal) → proof_reading file count room ≡ refused r → Unplaced r
unfolding proof_reading
file_unplaced file count room r e =
    rw e at (unless_holds FileIn refused (proof_refusal file count room) (read (words_of (step_bytes file))) (λ s h. h) (file_may file count room) tt)

-- A proof, by whatever rules.
abbrev OutcomeIn : Outcome → Type 0
OutcomeIn (ended known) = Unit {0}
OutcomeIn (stepRefused r) = Unplaced r

abbrev VerdictIn : Verdict → Type 0
VerdictIn (Ok a) = Unit {0}
VerdictIn (Err r) = Unplaced r

module _ (rules : Rules) (f : Family) (S : Scope) (room : ℕ) where
  turn_in : (known : List Words) (j : Judged) (next : Step → Outcome) → ((s : Step) → OutcomeIn (next s)) → OutcomeIn (turn known j next)
  turn_in known (right s) next h = h s
  turn_in known (wrong r) next h = unplaced r (suc (length known))

  run_in : (known : List Words) (skip : ℕ) (ws : Words) → OutcomeIn (run rules f S room known skip ws)
  unfolding run
  run_in known skip [] = tt
  run_in known (suc skip) (w ∷ ws) = run_in known skip ws
  run_in known zero (w ∷ ws) =
      turn_in known (judge_first rules f S room known (w ∷ ws)) (λ s. run rules f S room (known ++ (stated_by s ∷ [])) (less_one (size_of s)) ws)
      (λ s. run_in (known ++ (stated_by s ∷ [])) (less_one (size_of s)) ws)

concluded_in : (inputs numbered : ℕ) (e : Option ℕ) → VerdictIn (concluded inputs numbered e)
concluded_in inputs numbered none = record { no_line = refl; no_column = refl }
concluded_in inputs numbered (some n) = tt

conclude_in : (rules : Rules) (inputs : ℕ) (o : Outcome) → OutcomeIn o → VerdictIn (conclude rules inputs o)
conclude_in rules inputs (ended known) h = concluded_in inputs (length known) (conclusion rules.strict inputs known)
conclude_in rules inputs (stepRefused r) h = h

module _ (rules : Rules) (prefix words steps : List ℤ) (scratch room : ℕ) where
  sized_in : VerdictIn (sized_verdict rules prefix words steps scratch room)
  unfolding sized_verdict
  sized_in =
      require_holds VerdictIn (leb (length steps) proof_bound) (Err (refusal Oversized 0)) _ (unplaced Oversized 0)
      (require_holds VerdictIn (leb rules.scratch scratch) (Err (refusal NoRoom 0)) _ (unplaced NoRoom 0)
      (require_holds VerdictIn (leb (zeros words) room) (Err (refusal NoRoom (suc room))) _ (unplaced NoRoom (suc room))
      (conclude_in rules (zeros words) (run rules (family_of steps) (scope_of prefix words) room (clauses_of words) zero steps) (run_in rules (family_of steps) (scope_of prefix words) room (clauses_of words) zero steps))))

  pub verdict_unplaced : (r : Refusal) → verdict_of rules prefix words steps scratch room ≡ Err r → Unplaced r
  unfolding verdict_of
  verdict_unplaced r e =
      rw e at (unless_holds VerdictIn Err (tables_refusal prefix words) (sized_verdict rules prefix words steps scratch room) (λ s h. h) (tables_may prefix words) sized_in)
