-- `crosses_word`: the opposite's mark, then the variable's flag. Assumes nothing.
use mathlib.Core.Path.{◌≡◌, ap, sym, ◌∙◌}
use native.Mathlib.Omega.{arith}
use Prim.Native.Nat.{ℕ, ◌≤◌}
use mir.Syntax.{w32}
use mir.Val.{to_z, of_z, SFits}
use mir.Facts.{to_z-of_z}
use lib.IntN.{ℤ, nat_abs}
use Rattle.std.proofs.lemmas.Bool.{false≢true}
use Rattle.bits.specs.Flags.{flags}
use Rattle.formula.specs.Word.{word_of, variable_of}
use Rattle.formula.specs.Word.Laws.{variable_magnitude}
use Rattle.inference.specs.Marks.{marks_in}
use Rattle.checker.specs.Merge.{flagged}
use Rattle.checker.specs.Merge.Laws.{crosses_left_out, crosses_one}
use Rattle.inference.proofs.Signed.{bits_same, bits_apart, same_bits}
use Rattle.checker.proofs.merge.crosses_word.Goals as goal
use Rattle.checker.proofs.merge.crosses_word.Goals.{then-except-word, else-except-word}

-- the word's variable
variable_at : (w : ℤ) (n : ℕ) → SFits w32 w → nat_abs w ≤ 1024 → n ≡ variable_of (word_of (to_z w32 (of_z w32 w))) → n ≡ nat_abs w
variable_at w n fits u e = rw (to_z-of_z fits) at e ∙ variable_magnitude w u

pub overflow_sub-variable : goal.overflow_sub-variable
overflow_sub-variable c = omega (arith, variable_at c.args.word _ c.ranges.word c.requires.1 c.variable.ensures, c.requires.0)

pub is_set-requires : goal.is_set-requires
is_set-requires c = omega (arith, variable_at c.args.word _ c.ranges.word c.requires.1 c.variable.ensures, c.requires.0, c.requires.1, c.told-mergeable)

pub returns-then-opposite_marked : goal.returns-then-opposite_marked
returns-then-opposite_marked c =
    let word = c.args.word in
    let fs = flags c.args.mergeable.now in
    let e : to_z w32 (of_z w32 word) ≡ word = to_z-of_z c.ranges.word in
    let f : c.is_set.result ≡ flagged fs (nat_abs word) = c.is_set.ensures ∙ ap (flagged fs) (variable_at word _ c.ranges.word c.requires.1 c.variable.ensures) in
    elim c.if-except-word.branch [
      | then-except-word w ↦
          let apart = bits_apart c.args.except word w.if-except-word.true in
          let met = sym (rw e at w.opposite_marked.ensures) ∙ sym w.value-is ∙ c.if-opposite_marked.true in
          rw f (rw met at (crosses_one (flagged fs) (marks_in c.args.marks.now) c.args.except word apart))
      | else-except-word w ↦
          let same = same_bits c.args.except word c.ranges.except c.ranges.word ∙ bits_same c.args.except word c.ranges.except c.ranges.word w.if-except-word.false in
          absurd (false≢true (sym (rw same at w.value-is) ∙ c.if-opposite_marked.true))
    ]

pub returns-else-opposite_marked : goal.returns-else-opposite_marked
returns-else-opposite_marked c =
    let word = c.args.word in
    let fs = flags c.args.mergeable.now in
    let e : to_z w32 (of_z w32 word) ≡ word = to_z-of_z c.ranges.word in
    c.if-opposite_marked.false ∙
    (elim c.if-except-word.branch [
      | then-except-word w ↦
          let apart = bits_apart c.args.except word w.if-except-word.true in
          let met = sym (rw e at w.opposite_marked.ensures) ∙ sym w.value-is ∙ c.if-opposite_marked.false in
          rw met at (crosses_one (flagged fs) (marks_in c.args.marks.now) c.args.except word apart)
      | else-except-word w ↦ crosses_left_out (flagged fs) (marks_in c.args.marks.now) c.args.except word (bits_same c.args.except word c.ranges.except c.ranges.word w.if-except-word.false)
    ])
