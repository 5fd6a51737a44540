-- `resolve_fields` asks whether the pivot is existential. Assumes nothing.
use Rattle.std.specs.Prelude.{Option}
use Rattle.formula.specs.declared.literal.Variable.{Variable}
use mathlib.Core.Path.{◌≡◌, ap, sym, ◌∙◌}
use mir.Syntax.{w32}
use mir.Val.{to_z, of_z}
use Rattle.formula.specs.Word.{word_of}
use borrow.Author.Rules.{rules}
use mathlib.Core.List.{List}
use Prim.Native.Nat.{ℕ}
use lib.IntN.{ℤ}
use mir.Val.{SFits}
use mir.Facts.{to_z-of_z}
use Rattle.bits.specs.Flags.{flags}
use Rattle.dependency.specs.Scratch.{later}
use lib.ListN.{take, drop}
use Rattle.inference.specs.Existentials.{existential_of}
use Rattle.inference.specs.Existentials.Laws.{existential_bound}
use Rattle.checker.specs.Step.{existentials_in}
use Rattle.checker.specs.Step.Laws.{refused_clean}
use Rattle.checker.proofs.resolve.resolve_fields.Goals as goal

-- what the pivot's word was found to be
fit_at : (scratch bytes : List ℕ) (word : ℤ) {r : Option Variable} → bytes ≡ take 128 (drop later scratch) → SFits w32 word → r ≡ existential_of (flags bytes) (word_of (to_z w32 (of_z w32 word))) → r ≡ existential_of (existentials_in scratch) (word_of word)
fit_at scratch bytes word part h e = rw part at e ∙ ap (λ (x : ℤ). existential_of (existentials_in scratch) (word_of x)) (to_z-of_z h)

pub resolve_on-requires-clause-pivot_in_range : goal.resolve_on-requires-clause-pivot_in_range
resolve_on-requires-clause-pivot_in_range c =
    let fit = sym c.in-Some.is ∙ fit_at c.args.scratch.now c.unwrap-existentials.result.now c.args.step.pivot (search rules) (search rules) c.existential_of.ensures in
    existential_bound _ _ c.in-Some.pivot fit

pub returns-in_default : goal.returns-in_default
returns-in_default c =
    let fit = sym c.in_default.is ∙ fit_at c.args.scratch.now c.unwrap-existentials.result.now c.args.step.pivot (search rules) (search rules) c.existential_of.ensures in
    rw (← fit) (refused_clean c.args.scratch.now c.requires)

pub returns : goal.returns
returns c =
    let fit = sym c.in-Some.is ∙ fit_at c.args.scratch.now c.unwrap-existentials.result.now c.args.step.pivot (search rules) (search rules) c.existential_of.ensures in
    rw (← fit) c.resolve_on.ensures
