-- 01's example from bytes to bytes ("Programs print `accepted 4 4 5 9`"): source document 001's formula as the writer writes it
-- (written_example of formula has its bytes), and the proof file of its five steps with no note, of 120 bytes.
use Rattle.std.specs.Prelude.{ℕ, zero, suc, ◌≤◌, ◌≡◌, refl, Bool, true, ◌&&◌, List, [], ◌∷◌, leb, length, get_or, ℤ, pos, negsuc, nat_abs}
use Rattle.std.proofs.Common.{ap, ◌∙◌, arith, leb-true, SFits}
use Rattle.std.specs.Int.{w32}
use Rattle.qbf.specs.Connectives.{and_both}
use Rattle.formula.specs.Prefix.{prefix_of}
use Rattle.formula.specs.Tables.{zeros, Admitted}
use Rattle.formula.specs.Write.{written}
use Rattle.formula.specs.Write.Examples.{written_example}
use Rattle.formula.proofs.Theorems.RoundTrip.Laws.{written_read}
use Rattle.prooffile.specs.File.Layout.{file_of}
use Rattle.prooffile.specs.File.Layout.Laws.{file_of_length}
use Rattle.inference.specs.Rules.{plain_rules}
use Rattle.checker.specs.Refutation.Examples.{example_refutation}
use Rattle.checker.specs.Verdict.Accuracy.{accepted_refutation}
use Rattle.checker.specs.Verdict.Examples.{example_prefix, example_clauses, example_steps, positions}
use Rattle.report.specs.Line.{accepted_line}
use Rattle.report.specs.Check.{check_line}
use Rattle.report.specs.Program.{program_room}
use Rattle.report.specs.Exact.{Refuting}
use Rattle.report.specs.Exact.Laws.{accepted_line_numbers, program_within}

abbrev pub example_text : List ℕ
example_text = written example_prefix example_clauses

abbrev pub example_file : List ℕ
example_file = file_of [] (example_steps (pos 4)) 4

-- Words of small magnitude are signed words of 32 bits.
all_small : List ℤ → Bool
all_small [] = true
all_small (w ∷ words) = leb (nat_abs w) 9 && all_small words

small_fits : (w : ℤ) → nat_abs w ≤ 9 → SFits w32 w
small_fits (pos n) h = record { sfits = omega arith }
small_fits (negsuc n) h = record { sfits = omega arith }

all_small_fit : (words : List ℤ) → all_small words ≡ true → (i : ℕ) → SFits w32 (get_or words i (pos 0))
unfolding all_small
all_small_fit [] h i = small_fits (pos 0) (omega arith)
all_small_fit (w ∷ words) h zero = small_fits w (leb-true (nat_abs w) 9 (and_both (leb (nat_abs w) 9) (all_small words) h).0)
all_small_fit (w ∷ words) h (suc i) = all_small_fit words (and_both (leb (nat_abs w) 9) (all_small words) h).1 i

example_admitted : Admitted example_prefix example_clauses
example_admitted = (accepted_refutation plain_rules example_prefix example_clauses (example_steps (pos 4)) 8200 9 9 5 positions.0).admitted

pub example_refuting : Refuting program_room example_text example_file
unfolding all_small zeros
example_refuting =
    record {
      prefix = example_prefix;
      clauses = example_clauses;
      count = 4;
      reads = written_read example_prefix example_clauses 3072 16384 example_admitted (omega arith) (omega arith);
      note = [];
      words = example_steps (pos 4);
      signed = all_small_fit (example_steps (pos 4)) refl;
      laid_out = refl;
      refutation = example_refutation.0;
    }

-- The line is `accepted 4 4 5 9`.
pub example_line : check_line program_room example_text example_file ≡ accepted_line 4 4 5 9
unfolding example_refuting prefix_of
example_line =
    let text : length example_text ≤ 65536 = rw written_example (omega arith) in
    let file : length example_file ≤ 65536 = omega (arith, file_of_length [] (example_steps (pos 4)) 4) in
    accepted_line_numbers program_room example_text example_file (program_within example_text example_file text file) example_refuting 8 example_refutation.2
    ∙ ap (λ (n : ℕ). accepted_line 4 4 n 9) example_refutation.1
