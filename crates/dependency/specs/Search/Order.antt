-- Both directions of a pass have the same clauses; a pass back, one clause more at its end. Assumes nothing.
use Rattle.std.specs.Prelude.{ℕ, ◌≡◌, refl, ◌⊎◌, Bool, true, false, ℤ}
use Rattle.std.proofs.Common.{ap, sym, ◌∙◌, subst, inl, inr}
use mathlib.Core.List.Memᴰ
use mathlib.Core.List.{List, [], ◌∷◌, ◌++◌, reverse, reverse-cons, reverse-reverse, Memᴰ}
use Rattle.dependency.specs.Marks.{clause_entry, reach_clause, pass}
use Rattle.dependency.specs.Search.{ordered}

member_reverse : (Cs : List (List ℤ)) (C : List ℤ) → Memᴰ C Cs → Memᴰ C (reverse Cs)
member_reverse [] C m = absurd (Memᴰ.not-nil m)
member_reverse (D ∷ Cs) C m = subst (Memᴰ C) (sym (reverse-cons D Cs)) (go (Memᴰ.cases_cons m) (member_reverse Cs C))
  where
    go : (C ≡ D) ⊎ Memᴰ C Cs → (Memᴰ C Cs → Memᴰ C (reverse Cs)) → Memᴰ C (reverse Cs ++ (D ∷ []))
    go (inl e) later = Memᴰ.append_right (reverse Cs) (Memᴰ.head e)
    go (inr k) later = Memᴰ.append_left (D ∷ []) (later k)

pub member_ordered : (back : Bool) (Cs : List (List ℤ)) (C : List ℤ) → Memᴰ C Cs → Memᴰ C (ordered back Cs)
member_ordered false Cs C m = m
member_ordered true Cs C m = member_reverse Cs C m

pub ordered_member : (back : Bool) (Cs : List (List ℤ)) (C : List ℤ) → Memᴰ C (ordered back Cs) → Memᴰ C Cs
ordered_member false Cs C m = m
ordered_member true Cs C m = subst (Memᴰ C) (reverse-reverse Cs) (member_reverse (reverse Cs) C m)

-- A pass over clauses, then over others.
pass_append : (Cs Ds : List (List ℤ)) (m : List ℕ) → pass (Cs ++ Ds) m ≡ pass Ds (pass Cs m)
unfolding pass
pass_append [] Ds m = refl
pass_append (C ∷ Cs) Ds m = pass_append Cs Ds (reach_clause (clause_entry m 0 C) C m)

pub pass_reverse : (C : List ℤ) (Cs : List (List ℤ)) (m : List ℕ) → let m' = pass (reverse Cs) m in pass (reverse (C ∷ Cs)) m ≡ reach_clause (clause_entry m' 0 C) C m'
unfolding pass
pass_reverse C Cs m = ap (λ (Ds : List (List ℤ)). pass Ds m) (reverse-cons C Cs) ∙ pass_append (reverse Cs) (C ∷ []) m
