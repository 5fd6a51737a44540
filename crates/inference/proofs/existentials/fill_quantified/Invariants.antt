-- `fill_quantified`: filling from the entries that are left gives the same flags. Assumes nothing.
use mathlib.Core.Path.{◌≡◌}
use lib.ListN.{drop}
use Rattle.bits.specs.Flags.{flags}
use Rattle.formula.specs.Prefix.{prefix_of, quantifier_of}
use Rattle.inference.specs.Existentials.{flags_from, quantified_flags}
use Rattle.inference.proofs.existentials.fill_quantified.Given as goal

abbrev pub invariant-loop-i : goal.invariant-loop-i
invariant-loop-i l =
    (flags_from (quantifier_of l.existential) (flags l.flags) (drop l.i (prefix_of l.prefix.words.now)) ≡ quantified_flags (quantifier_of l.existential) (drop l.from (prefix_of l.prefix.words.now)))
