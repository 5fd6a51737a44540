-- `pass_clause` leaves a clause without entries, and reaches from the entries of any other. Assumes nothing.
use Prim.Native.Nat.{ℕ}
use mathlib.Core.Path.{ap, sym, ◌∙◌}
use mathlib.Core.Bool.{true}
use Rattle.formula.specs.Decode.{clause_at}
use Rattle.dependency.specs.Marks.{reach_clause}
use Rattle.dependency.specs.Marks.Laws.{reach_clause_none}
use Rattle.dependency.specs.Bits.{marks_in}
use Rattle.dependency.specs.Bits.Words.{seen_both}
use Rattle.dependency.proofs.pass.pass_clause.Goals as goal

pub returns-then-entries : goal.returns-then-entries
returns-then-entries c =
    let found = c in
    let a = found.args in
    let e = found.clause_entry-entries.ensures in
    let r = found.clause_entry-entries.result in
    let none = seen_both r.seen 0 c.if-entries.true in
    record {
      marks = λ s.
          sym
          (ap (λ (n : ℕ). reach_clause n (clause_at a.clauses.now a.from) (marks_in s a.marks.now)) (sym (e.seen s) ∙ none s)
          ∙ reach_clause_none (clause_at a.clauses.now a.from) (marks_in s a.marks.now));
      later = e.later (none true);
      further = e.further;
    }
