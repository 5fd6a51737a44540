-- `row_with` decides first, then writes the row or clears both buffers. Assumes nothing.
use Rattle.std.specs.Prelude.{◌≡◌, ℕ, true, List, ℤ, length, nat_abs, replicate, Ok}
use Rattle.std.proofs.Common.{refl, ap, sym, ◌∙◌, arith, rules, to_z}
use Rattle.std.proofs.Math.Option.{none}
use mir.Syntax.{w32}
use mir.Val.{of_z}
use Rattle.qbf.specs.Formula.{universal}
use Rattle.formula.specs.declared.literal.Variable.{Variable}
use Rattle.formula.specs.Clear.{clear_from}
use Rattle.formula.specs.Prefix.{prefix_of, quantifies}
use Rattle.formula.proofs.Theorems.Tables.Laws.{admitted_entries}
use Rattle.dependency.specs.Answer.{row_refusal, asked_for}
use Rattle.dependency.specs.Answer.Laws.{Granted, granted, asked_word, asked_variable, asked_none, asked_some}
use Rattle.dependency.proofs.answer.row_with.Goals as goal

-- what holds where nothing is refused: the grants, and what the variable is
record Allowed (bytes : ℕ) (prefix clauses : List ℤ) (variable : ℤ) (row scratch : ℕ) (v : Variable) : Type 0 where
  none_refused : row_refusal bytes prefix clauses variable row scratch ≡ none
  grants : Granted bytes prefix clauses variable row scratch
  numbered : v.0 ≡ nat_abs variable
  asked : quantifies universal (prefix_of prefix) v.0 ≡ true

allowed :
    (bytes : ℕ) (prefix clauses : List ℤ) (variable : ℤ) (row scratch : ℕ) (v : Variable) → asked_for (row_refusal bytes prefix clauses variable row scratch) variable ≡ Ok v
    → Allowed bytes prefix clauses variable row scratch v
allowed bytes prefix clauses variable row scratch v h =
    let n = asked_none _ variable v h in
    let g = granted bytes prefix clauses variable row scratch n.0 in
    let w = asked_word prefix (admitted_entries prefix clauses g.admitted) variable g.asked in
    record { none_refused = n.0; grants = g; numbered = ap (λ (u : Variable). u.0) n.1; asked = rw n.1 (sym (asked_variable (prefix_of prefix) variable (record { 0 = nat_abs variable }) w) ∙ g.asked) }

pub invariant_of-tables : goal.invariant_of-tables
invariant_of-tables c =
    let a = c.args in
    let w : to_z w32 (of_z w32 a.variable) ≡ a.variable = search rules in
    record { admitted = (allowed a.bytes a.prefix.now a.clauses.now a.variable (length a.row.now) (length a.scratch.now) _ (sym (rw w at c.row_answer.ensures) ∙ c.in-Ok.is)).grants.admitted }

pub invariant_of-universal : goal.invariant_of-universal
invariant_of-universal c =
    let a = c.args in
    let w : to_z w32 (of_z w32 a.variable) ≡ a.variable = search rules in
    record { listed = (allowed a.bytes a.prefix.now a.clauses.now a.variable (length a.row.now) (length a.scratch.now) _ (sym (rw w at c.row_answer.ensures) ∙ c.in-Ok.is)).asked }

pub write_row-requires : goal.write_row-requires
write_row-requires c =
    let a = c.args in
    let w : to_z w32 (of_z w32 a.variable) ≡ a.variable = search rules in
    let l = allowed a.bytes a.prefix.now a.clauses.now a.variable (length a.row.now) (length a.scratch.now) _ (sym (rw w at c.row_answer.ensures) ∙ c.in-Ok.is) in
    record { row_enough = l.grants.row_room; scratch_enough = omega (arith, l.grants.scratch_room, c.row_answer.auto.scratch, c.requires) }

pub returns-in-Err : goal.returns-in-Err
unfolding clear_from
returns-in-Err c =
    let a = c.args in
    let w : to_z w32 (of_z w32 a.variable) ≡ a.variable = search rules in
    let r = asked_some _ a.variable _ (sym (rw w at c.row_answer.ensures) ∙ c.in-Err.is) in
    record {
      answered = rw r refl;
      filled = rw r c.clear_tail.ensures;
      cleared = c.clear_tail-in-Err.ensures ∙ ap (λ (n : ℕ). replicate n 0) c.row_answer.auto.scratch;
    }
