-- `dependency_lines` stores the text, clears what was lent and asks for room. Assumes nothing.
use Prim.Native.Nat.{ℕ}
use mathlib.Core.Path.{◌≡◌, ap, ◌∙◌}
use mathlib.Core.List.{[]}
use lib.ListN.{length, replicate}
use lib.IntN.{pos}
use Rattle.formula.specs.Clear.{clear_from}
use Rattle.report.specs.Check.{lent}
use Rattle.report.specs.Dependents.{dependency_text}
use Rattle.report.specs.Printing.Laws.{stored_prints}
use borrow.Author.Rules.{rules}
use Rattle.report.proofs.dependents.dependency_lines.Goals as goal

pub returns : goal.returns
unfolding clear_from
returns c =
    let scratch = c in
    let clauses = scratch.before.before.before in
    let prefix = clauses.before.before.before in
    let wrote = prefix.before.before.before.before.before.before.before.before in
    let a = wrote.args in
    let printed = stored_prints {text = dependency_text (lent a.file_bound a.prefix.now a.clauses.now [] a.scratch.now []) a.formula.now} wrote.write_settled-end.ensures.stores c.finish.ensures in
    let p : length wrote.write_settled-end.new.prefix ≡ length a.prefix.now = search rules in
    let q : length wrote.write_settled-end.new.clauses ≡ length a.clauses.now = search rules in
    let s : length wrote.write_settled-end.new.scratch ≡ length a.scratch.now = search rules in
    record {
      answers = printed.answers;
      prints = printed.prints;
      short = wrote.write_settled-end.ensures.short;
      prefix_cleared = prefix.clear_tail.ensures ∙ ap (λ (n : ℕ). replicate n (pos 0)) p;
      clauses_cleared = clauses.clear_tail-2.ensures ∙ ap (λ (n : ℕ). replicate n (pos 0)) q;
      scratch_cleared = scratch.clear_tail-3.ensures ∙ ap (λ (n : ℕ). replicate n 0) s;
    }
