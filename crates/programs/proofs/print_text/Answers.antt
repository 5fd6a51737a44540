-- `print_text` lends a text of 1,316,864 bytes: its length is a law, since to count them would be too long. Assumes nothing.
use Rattle.std.proofs.Common.{ℕ, ◌≤◌, ◌≡◌, List, length, sym, ◌∙◌, arith}
use lib.ListN.{replicate, length-replicate}
use Rattle.programs.proofs.print_text.Goals as goal

-- A list of a known length is long enough.
enough : (xs : List ℕ) (n : ℕ) → length xs ≡ n → n ≤ length xs
enough xs n e = omega (arith, e)

pub slice_bounds-whole_text-end : goal.slice_bounds-whole_text-end
slice_bounds-whole_text-end g c = sym (length-replicate {0} {A = ℕ} 1316864 0)

pub whole_text-n-requires : goal.whole_text-n-requires
whole_text-n-requires g c = enough (replicate 1316864 0) 1316864 (length-replicate {0} {A = ℕ} 1316864 0)

pub slice_bounds-print_first-end : goal.slice_bounds-print_first-end
slice_bounds-print_first-end g c = sym (c.whole_text-n.auto.text ∙ length-replicate {0} {A = ℕ} 1316864 0)
