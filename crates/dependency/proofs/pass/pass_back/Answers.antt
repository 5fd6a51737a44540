-- `pass_back` runs up the clauses from the last: the marks are those of a pass back over the clauses from here on. Assumes nothing.
use Prim.Native.Nat.{ℕ, ◌≤◌, ◌<◌}
use mathlib.Core.Path.{◌≡◌, refl, ap, sym, ◌∙◌}
use mathlib.Core.List.{List, [], ◌∷◌, reverse}
use native.Mathlib.Omega.{arith}
use lib.IntN.{ℤ}
use lib.ListN.{length, drop, drop_of_length-le}
use Rattle.formula.specs.Decode.{clauses_of, clause_at}
use Rattle.formula.specs.Decode.Places.{clauses_at}
use Rattle.dependency.specs.Marks.{clause_entry, reach_clause, pass}
use Rattle.dependency.specs.Marks.Places.{boundary_end}
use Rattle.dependency.specs.Search.Order.{pass_reverse}
use Rattle.dependency.specs.Bits.{marks_in}
use Rattle.dependency.proofs.pass.pass_back.Goals as goal

pub loop-end-init : goal.loop-end-init
unfolding pass clauses_of
loop-end-init c =
    let ws = c.args.clauses.now in
    let same : length ws ≤ length ws = omega arith in
    let none : drop (length ws) ws ≡ [] = drop_of_length-le ws same in
    (λ s. rw none refl, same, boundary_end ws)

pub loop-end-preserved : goal.loop-end-preserved
loop-end-preserved c =
    let started = c in
    let l = started.loop-end in
    let begin = started in
    let ws = begin.args.clauses.now in
    let m₀ = begin.args.marks.now in
    let from = started.clause_start-from.result in
    let r = started.clause_start-from.ensures in
    let C = clause_at ws from in
    let within : from < length ws = omega (arith, r.before, l.invariant.1) in
    let whole : clauses_of (drop from ws) ≡ C ∷ clauses_of (drop l.end ws) = clauses_at ws from within ∙ ap (λ (us : List ℤ). C ∷ clauses_of us) r.ends in (
      λ s.
          c.pass_clause.ensures.marks s
          ∙ ap (λ (k : List ℕ). reach_clause (clause_entry k 0 C) C k) (l.invariant.0 s)
          ∙ sym (pass_reverse C (clauses_of (drop l.end ws)) (marks_in s m₀))
          ∙ ap (λ (Ds : List (List ℤ)). pass (reverse Ds) (marks_in s m₀)) (sym whole),
      omega (arith, within),
      r.boundary,
    )
