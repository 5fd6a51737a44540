-- How a refutation ends: where no step stands after an empty clause, what is empty is the last clause, or without steps an input clause; and what is
-- accepted by the checker's rules is a refutation. Definitions: Refutation.antt. Assumes nothing.
use Rattle.std.specs.Prelude.{ℕ, suc, ◌+◌, ◌≤◌, ◌≡◌, refl, ◌⊎◌, true, length, ℤ}
use Rattle.std.proofs.Common.{sym, ◌∙◌, inl, inr, arith, lt-ltb}
use mathlib.Core.List.Memᴰ
use mathlib.Core.List.{List, [], ◌∷◌, ◌++◌, append-nil, Memᴰ}
use Rattle.std.proofs.Math.Option.{some}
use Rattle.formula.specs.Decode.{clauses_of}
use Rattle.inference.specs.Words.{Words}
use Rattle.inference.specs.Steps.{Step, stated_by}
use Rattle.inference.specs.Lawful.{numbered_clauses, Unended}
use Rattle.inference.specs.Lawful.Laws.{numbered_step, numbered_length}
use Rattle.checker.specs.Refutation.{EndsEmpty, Refutation, FirstEmpty, Accepting}
use Rattle.checker.specs.Refutation.FirstEmptyClause.{first_empty_complete, first_empty_member}
use Rattle.inference.specs.Rules.{plain_rules}
use Rattle.inference.specs.Empty.{first_empty, last_empty}
use Rattle.inference.specs.Empty.Laws.{last_number}
use Rattle.checker.specs.Verdict.{conclusion}
use Rattle.checker.specs.Verdict.Conclusion.{conclusion_first}

-- Where no step stands after an empty clause, the last clause is the one that may be empty.
pub unended_ends : (steps : List Step) (known : List Words) → Unended known steps → Memᴰ [] (numbered_clauses known steps) → EndsEmpty known steps
unended_ends [] known u m = rw (append-nil known) at m
unended_ends (s ∷ []) known u m = go (Memᴰ.append_cases known m)
  where
    one : (◌≡◌ {A = Words} [] (stated_by s)) ⊎ Memᴰ {A = Words} [] [] → stated_by s ≡ []
    one (inl e) = sym e
    one (inr k) = absurd (Memᴰ.not-nil k)

    go : Memᴰ [] known ⊎ Memᴰ [] (stated_by s ∷ []) → stated_by s ≡ []
    go (inl i) = absurd (u.0 i)
    go (inr j) = one (Memᴰ.cases_cons j)
unended_ends (s ∷ t ∷ steps) known u m = unended_ends (t ∷ steps) (known ++ (stated_by s ∷ [])) u.1 (rw (numbered_step known s (t ∷ steps)) m)

pub ends_some : (steps : List Step) (known : List Words) → EndsEmpty known steps → Memᴰ [] (numbered_clauses known steps)
ends_some [] known e = rw (append-nil known) e
ends_some (s ∷ []) known e = Memᴰ.append_right known (Memᴰ.head (sym e))
ends_some (s ∷ t ∷ steps) known e = rw (← numbered_step known s (t ∷ steps)) (ends_some (t ∷ steps) (known ++ (stated_by s ∷ [])) e)

-- The first empty clause of a refutation is its last, or without steps an input clause.
pub unended_first :
    (steps : List Step) (known : List Words) (place : ℕ) → Unended known steps → FirstEmpty (numbered_clauses known steps) place
    → ((length steps ≡ 0) × FirstEmpty known place) ⊎ ((1 ≤ length steps) × (suc place ≡ length known + length steps))
unended_first [] known place u f = inl (refl, rw (append-nil known) at f)
unended_first (s ∷ steps) known place u f =
    let final = numbered_clauses known (s ∷ steps) in
    let size = numbered_length known (s ∷ steps) in
    let first : first_empty 1 final ≡ some (suc place) = first_empty_complete final place f in
    let c : conclusion true (length known) final ≡ first_empty 1 final = conclusion_first true (s ∷ steps) known (λ q. u) in
    let last : last_empty 1 final ≡ some (suc place) = (rw (lt-ltb (length known) (length final) (omega arith)) at c) ∙ first in
    let number = last_number final (suc place) last in
    inr (omega arith, omega arith)

-- What is accepted by the checker's rules is a refutation.
abbrev pub accepting_refutation :
    (prefix clauses words : List ℤ) (scratch offsets empty count : ℕ) → Accepting plain_rules prefix clauses words scratch offsets empty count
    → Refutation prefix clauses words
accepting_refutation prefix clauses words scratch offsets empty count r =
    record {
      steps = r.steps;
      written = r.written;
      lawful = r.lawful;
      family = r.family;
      of_family = r.of_family;
      unended = r.allowed refl;
      ends_empty = unended_ends r.steps (clauses_of clauses) (r.allowed refl) (first_empty_member (numbered_clauses (clauses_of clauses) r.steps) r.place r.first_empty_lem);
    }
