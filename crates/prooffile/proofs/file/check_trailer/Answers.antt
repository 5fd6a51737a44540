-- `check_trailer` answers by the first test that fails. Assumes nothing.
use Rattle.std.specs.Prelude.{Ok, Some, None}
use Prim.Native.Nat.{ℕ, ◌/◌, ◌≤◌, ◌<◌}
use mathlib.Core.Path.{◌≡◌, ap, sym, ◌∙◌}
use mathlib.Core.Bool.{true, false}
use native.Mathlib.Omega.{arith}
use lib.Dec.{leb}
use mathlib.Core.List.{List}
use Rattle.formula.specs.Bounds.{proof_bound, at_most}
use Rattle.formula.specs.Bounds.Laws.{within_bound, above_bound}
use Rattle.formula.specs.declared.bounds.AtMost.{AtMost}
use Rattle.prooffile.specs.File.{has_trailer, distance, clause_count, step_count}
use Rattle.prooffile.specs.File.Laws.{trailer_of, refusal_no_trailer, refusal_oversized, refusal_other_formula, refusal_no_room, refusal_none}
use Rattle.prooffile.proofs.file.check_trailer.Tie as tie
use Rattle.prooffile.proofs.file.check_trailer.Lts as lts
use Rattle.prooffile.proofs.file.check_trailer.Reads as reads
use Rattle.prooffile.proofs.file.check_trailer.Goals as goal

-- What the constructor of a bounded length answers, on the words of a file.
count_within : (file : List ℕ) (n : ℕ) (l : AtMost proof_bound) → n ≡ distance file → at_most proof_bound (n / 4) ≡ Some l → leb (step_count file) proof_bound ≡ true
count_within file n l d e = ap (λ m. leb (m / 4) proof_bound) (sym d) ∙ (within_bound _ l e).0

count_oversized : (file : List ℕ) (n : ℕ) → n ≡ distance file → at_most proof_bound (n / 4) ≡ None → leb (step_count file) proof_bound ≡ false
count_oversized file n d e = ap (λ m. leb (m / 4) proof_bound) (sym d) ∙ above_bound _ e

-- A trailer was found.
trailed : (c : lts.Then1 tie.the-claims reads.Pre reads.Post) → has_trailer c.args.file.now ≡ true
trailed c = sym c.has_trailer.ensures ∙ c.if-has_trailer.true

-- Its words are within the bound.
bounded : (c : lts.Past-After-enum_told tie.the-claims reads.Pre reads.Post) → leb (step_count c.args.file.now) proof_bound ≡ true
bounded c =
    let n = c.before.before in
    count_within n.args.file.now n.number_at.result c.in-Some.field-0 n.number_at.ensures (sym c.new.ensures ∙ c.in-Some.is)

pub overflow_sub-start : goal.overflow_sub-start
overflow_sub-start c =
    (trailer_of c.args.file.now (trailed c.before)).long

pub number_at-requires : goal.number_at-requires
number_at-requires c =
    let t = trailer_of c.args.file.now (trailed c.before) in
    omega arith

pub returns-in_default : goal.returns-in_default
returns-in_default c =
    let n = c.before.before.before.before in
    let s = n.args in
    let b = count_oversized s.file.now n.number_at.result n.number_at.ensures (sym c.new.ensures ∙ c.in_default.is) in
    rw (refusal_oversized s.file.now s.clause_count s.room (trailed n.before) b, c.new-in_default.ensures)

pub number_at-count-requires : goal.number_at-count-requires
number_at-count-requires c =
    let h = c.before.before.before.before in
    let t = trailer_of h.args.file.now (trailed h) in
    omega arith

pub returns-then-count-clause_count : goal.returns-then-count-clause_count
returns-then-count-clause_count c =
    let e = c.before.before.before.before in
    let n = e.before.before in
    let s = n.args in
    let o : clause_count s.file.now ≡ s.clause_count → ⊥ = λ q. c.if-count-clause_count.true (c.number_at-count.ensures ∙ q) in
    rw (refusal_other_formula s.file.now s.clause_count s.room (trailed n.before) (bounded e) o, c.new-then-count-clause_count.ensures)

pub returns-then-room-words : goal.returns-then-room-words
returns-then-room-words c =
    let e = c.before.before.before.before.before in
    let n = e.before.before in
    let s = n.args in
    let q = sym c.number_at-count.ensures ∙ c.if-count-clause_count.false in
    let r : s.room < step_count s.file.now = rw n.number_at.ensures at c.if-room-words.true in
    rw (refusal_no_room s.file.now s.clause_count s.room (trailed n.before) (bounded e) q r, c.new-then-room-words.ensures)

pub returns-else-room-words : goal.returns-else-room-words
returns-else-room-words c =
    let e = c.before.before.before.before in
    let n = e.before.before in
    let s = n.args in
    let q = sym c.number_at-count.ensures ∙ c.if-count-clause_count.false in
    let r : step_count s.file.now ≤ s.room = rw n.number_at.ensures at c.if-room-words.false in
    rw (refusal_none s.file.now s.clause_count s.room (trailed n.before) (bounded e) q r) (ap (λ m. Ok (m / 4)) n.number_at.ensures)

pub returns-else-has_trailer : goal.returns-else-has_trailer
returns-else-has_trailer c =
    let s = c.args in
    rw (refusal_no_trailer s.file.now s.clause_count s.room (sym c.has_trailer.ensures ∙ c.if-has_trailer.false), c.new-else-has_trailer.ensures)
