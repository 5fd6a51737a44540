-- `read_proof` clears all after a refusal; else it copies the words of the steps and clears what is left. Assumes nothing.
use Prim.Native.Nat.{◌-◌, ◌*◌}
use mathlib.Core.Path.{◌≡◌, ap, sym, ◌∙◌}
use mathlib.Core.List.{◌++◌}
use native.Mathlib.Omega.{arith}
use lib.IntN.{pos}
use lib.ListN.{length, take, drop}
use Rattle.formula.specs.Clear.{clear_from}
use Rattle.prooffile.specs.File.{words_of, trailer_start, step_bytes, step_count, proof_refusal}
use Rattle.prooffile.specs.File.Passed.{Counted}
use Rattle.prooffile.specs.File.Laws.{length_answer_refused, step_bytes_length, counted_of, counted_distance, counted_bytes, read_refused, read_whole}
use Rattle.prooffile.proofs.file.read_proof.Tie as tie
use Rattle.prooffile.proofs.file.read_proof.Lts as lts
use Rattle.prooffile.proofs.file.read_proof.Reads as reads
use Rattle.prooffile.proofs.file.read_proof.Goals as goal

-- The trailer passed, and n is the number of words.
counted : (c : lts.Past-After-known_told2 tie.the-claims reads.Pre reads.Post) → Counted c.args.file.now c.args.clause_count (length c.args.steps.now) c.in-Ok.n
counted c =
    let a = c.before in
    let s = a.args in
    counted_of s.file.now s.clause_count (length s.steps.now) c.in-Ok.n (sym a.check_trailer.ensures ∙ c.in-Ok.is)

-- The part that is copied is the bytes of the steps.
part : (c : lts.Past-After-known_told2 tie.the-claims reads.Pre reads.Post) → let s = c.args in take (trailer_start s.file.now - (trailer_start s.file.now - 4 * c.in-Ok.n)) (drop (trailer_start s.file.now - 4 * c.in-Ok.n) s.file.now) ≡ step_bytes s.file.now
part c =
    let s = c.args in
    counted_bytes s.file.now s.clause_count (length s.steps.now) c.in-Ok.n (counted c)

pub overflow_sub-end : goal.overflow_sub-end
overflow_sub-end c = (counted c.before).passed.trailer.long

pub overflow_mul-start : goal.overflow_mul-start
overflow_mul-start c =
    let k = counted c.before in
    omega arith

pub overflow_sub-start : goal.overflow_sub-start
overflow_sub-start c =
    let k = counted c.before in
    omega arith

pub copy_words-requires : goal.copy_words-requires
copy_words-requires c =
    let v = c.before.before.before in
    let a = v.before in
    let s = a.args in
    let k = counted_of s.file.now s.clause_count (length s.steps.now) v.in-Ok.n (sym a.check_trailer.ensures ∙ v.in-Ok.is) in (
      ap length (part v)
          ∙ step_bytes_length s.file.now k.passed.trailer
          ∙ counted_distance s.file.now s.clause_count (length s.steps.now) v.in-Ok.n k,
      omega arith,
    )

pub returns-in-Err : goal.returns-in-Err
returns-in-Err c =
    let v = c.before.before.before.before in
    let a = v.before in
    let s = a.args in
    read_refused s.file.now s.clause_count s.steps.now c.clear_tail.new.buffer v.in-Err.refusal
    (length_answer_refused (proof_refusal s.file.now s.clause_count (length s.steps.now)) (step_count s.file.now) v.in-Err.refusal (sym a.check_trailer.ensures ∙ v.in-Err.is))
    c.clear_tail.ensures

pub returns-in-Ok : goal.returns-in-Ok
returns-in-Ok c =
    let w = c.before.before.before.before.before in
    let v = w.before.before.before in
    let a = v.before in
    let s = a.args in
    let k = counted v in
    read_whole s.file.now s.clause_count s.steps.now c.clear_tail-in-Ok.new.buffer v.in-Ok.n k
    (c.clear_tail-in-Ok.ensures
    ∙ ap (clear_from (pos 0) v.in-Ok.n)
    (w.copy_words.ensures ∙ ap (λ b. words_of b ++ drop v.in-Ok.n s.steps.now) (part v)))
