-- `start` stores one flag for each search. Assumes nothing.
use Prim.Native.Nat.{ℕ, ◌+◌, ◌-◌, ◌≤◌, ◌<◌}
use mathlib.Core.Path.{◌≡◌, ap, sym, ◌∙◌}
use mathlib.Core.Bool.{Bool, true, false, false≢true}
use mathlib.Core.List.{List}
use native.Mathlib.Omega.{arith}
use borrow.Author.Rules.{rules}
use lib.ListN.{length, get_or, set}
use Rattle.bits.specs.Flags.{flags}
use Rattle.formula.specs.Word.{slot}
use Rattle.dependency.specs.Bits.{base, marks_in}
use Rattle.dependency.specs.Bits.Words.{entry_within, source_set, source_other}
use Rattle.dependency.proofs.search.start.Goals as goal

-- A variable's two literals stand within the marks.
low : (v : ℕ) → 1 ≤ v → (t : Bool) → 2 ≤ slot v t
low v l true = omega arith
low v l false = omega arith

high : (v : ℕ) → v ≤ 1024 → (t : Bool) → slot v t < 2050
high v h true = omega arith
high v h false = omega arith

flag_within : (v : ℕ) → 1 ≤ v → v ≤ 1024 → (t : Bool) → base t + (slot v t - 2) < 5120
flag_within v l h t = let a = low v l t in let b = high v h t in entry_within t (slot v t - 2) (omega (arith, a, b))

-- What the two stores leave, in a search's marks.
module _
    (v : ℕ)
    (l : 1 ≤ v)
    (h : v ≤ 1024)
    (marks one two : List ℕ)
    (size : length marks ≡ 640)
    (size_one : length one ≡ 640)
    (first : flags one ≡ set (flags marks) (base true + (slot v true - 2)) 1)
    (second : flags two ≡ set (flags one) (base false + (slot v false - 2)) 1)
    (none : (s : Bool) → get_or (marks_in s marks) (slot v s) 0 ≡ 0)
  where
    both : (s : Bool) → marks_in s two ≡ set (marks_in s marks) (slot v s) 3
    both true =
        source_other false one (slot v false) (low v l false) (high v h false) size_one two second true (λ e. false≢true (sym e))
        ∙ source_set true marks (slot v true) (low v l true) (high v h true) size one first (none true)
    both false =
        let kept = source_other true marks (slot v true) (low v l true) (high v h true) size one first false false≢true in
        source_set false one (slot v false) (low v l false) (high v h false) size_one two second (rw kept (none false))
        ∙ ap (λ (m : List ℕ). set m (slot v false) 3) kept

pub returns : goal.returns
returns c =
    let r = c.requires in
    let v = c.args.variable.0 in
    let marks = c.args.marks.now in
    let one = c.put.new.bytes in
    both
    v
    r.in_range.0
    r.in_range.1
    marks
    one
    c.put-2.new.bytes
    (search rules)
    (search rules)
    (c.put.ensures ∙ ap (λ (i : ℕ). set (flags marks) i 1) c.entry_flag.ensures)
    (c.put-2.ensures ∙ ap (λ (i : ℕ). set (flags one) i 1) c.entry_flag-2.ensures)
    r.unmarked
