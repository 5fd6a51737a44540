-- A refutation restricted move by move, by computation: the universal answers each choice of the existential.
use Rattle.std.specs.Prelude.{◌≡◌, refl, Bool, true, false, [], ◌∷◌}
use Rattle.std.proofs.Math.Bool.{decide}
use Rattle.std.proofs.Math.Decide.{ℕ_discrete}
use Rattle.qbf.specs.Literal.{literal, Clause, same}
use Rattle.qbf.specs.Formula.{Prefix, entry, universal}
use Rattle.qbf.specs.Derivation.{Derivation, leaf, resolve, reduce}
use Rattle.qbf.specs.Restriction.{in_list?, unset?, concludes_at?, occurs?, tree, holds_at?, premises, restrict_leaf, restrict_resolve, restrict_reduce, restrict, move}

-- ∃1 ∀2: (1 or 2) and (−1 or −2), refuted by reducing 2 in both clauses and resolving on 1.
abbrev clause : Bool → Clause
clause s = literal 1 s ∷ literal 2 s ∷ []

abbrev after_1 : Prefix
after_1 = entry 2 universal ∷ []

abbrev refutation : Derivation
refutation = resolve (premises (reduce (leaf (clause true)) 2) (reduce (leaf (clause false)) 2)) 1

-- With 1 set to 1 the second clause is left, and the universal sets 2 to 1; with 1 set to 0 the first, and 2 to 0.
choice_one : restrict after_1 (literal 1 true) refutation ≡ tree (reduce (leaf (clause false)) 2)
unfolding restrict restrict_resolve restrict_reduce restrict_leaf holds_at? in_list? same ℕ_discrete concludes_at? unset?
choice_one = refl

choice_zero : restrict after_1 (literal 1 false) refutation ≡ tree (reduce (leaf (clause true)) 2)
unfolding restrict restrict_resolve restrict_reduce restrict_leaf holds_at? in_list? same ℕ_discrete concludes_at? unset?
choice_zero = refl

answer_one : move (reduce (leaf (clause false)) 2) 2 ≡ true
unfolding move occurs? in_list? same ℕ_discrete decide
answer_one = refl

answer_zero : move (reduce (leaf (clause true)) 2) 2 ≡ false
unfolding move occurs? in_list? same ℕ_discrete decide
answer_zero = refl
