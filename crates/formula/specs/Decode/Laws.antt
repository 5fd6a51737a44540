-- Laws of decoding: what a word's entry and literal are, the first clause of a list of words and the clauses after it, and
-- which words stand in which clause. Laws that need the check of tables are in proofs/Theorems/Tables/Laws.antt. Assumes nothing.
use Rattle.std.specs.Prelude.{ℕ, zero, suc, ◌≤◌, ◌<◌, ◌≡◌, refl, ◌⊎◌, length, get_or, take, drop, ℤ, pos, negsuc, neg_ℤ, nat_abs}
use Rattle.std.proofs.Common.{ap, sym, ◌∙◌, subst, inl, inr, arith, length-take-le}
use Rattle.std.proofs.lemmas.Bool.{false≢true}
use mathlib.Core.List.Memᴰ
use mathlib.Core.List.{List, [], ◌∷◌, ◌++◌, map, Memᴰ}
use Rattle.std.proofs.Math.Seq.{slice, split_at}
use Rattle.std.proofs.lemmas.List.{drop-append-le}
use Rattle.qbf.specs.Literal.{Literal, neg}
use Rattle.qbf.specs.Formula.{variables}
use Rattle.formula.specs.Decode.{literal_of, put_first, clauses_of, first_clause, later_words, NoZero, clause_of}

-- A word and its magnitude.
pub magnitude_positive : (w : ℤ) → (w ≡ pos 0 → ⊥) → 1 ≤ nat_abs w
magnitude_positive (pos zero) h = absurd (h refl)
magnitude_positive (pos (suc n)) h = omega arith
magnitude_positive (negsuc n) h = omega arith

pub positive_magnitude : (w : ℤ) → 1 ≤ nat_abs w → w ≡ pos 0 → ⊥
positive_magnitude w h e = let z : nat_abs w ≡ 0 = ap nat_abs e in omega arith

pub magnitude_negated : (w : ℤ) → nat_abs (neg_ℤ w) ≡ nat_abs w
magnitude_negated (pos zero) = refl
magnitude_negated (pos (suc n)) = refl
magnitude_negated (negsuc n) = refl

-- Words of one magnitude are equal or opposed.
pub magnitude_same : (v w : ℤ) → nat_abs v ≡ nat_abs w → (v ≡ w) ⊎ (v ≡ neg_ℤ w)
magnitude_same (pos m) (pos n) e = inl (ap pos e)
magnitude_same (pos m) (negsuc n) e = inr (ap pos e)
magnitude_same (negsuc m) (pos zero) e = let z : ◌≡◌ {A = ℕ} (suc m) 0 = e in absurd (omega arith)
magnitude_same (negsuc m) (pos (suc n)) e = let z : m ≡ n = omega arith in inr (ap negsuc z)
magnitude_same (negsuc m) (negsuc n) e = let z : m ≡ n = omega arith in inl (ap negsuc z)

-- Entries and literals of words.
pub literal_variable : (w : ℤ) → (literal_of w).variable ≡ nat_abs w
literal_variable (pos v) = refl
literal_variable (negsuc n) = refl

pub literal_negated : (w : ℤ) → (w ≡ pos 0 → ⊥) → literal_of (neg_ℤ w) ≡ neg (literal_of w)
literal_negated (pos zero) h = absurd (h refl)
literal_negated (pos (suc n)) h = refl
literal_negated (negsuc n) h = refl

pub literal_injective : (v w : ℤ) → literal_of v ≡ literal_of w → v ≡ w
literal_injective (pos m) (pos n) e = ap pos (ap (λ (l : Literal). l.variable) e)
literal_injective (pos m) (negsuc n) e = absurd (false≢true (sym (ap (λ (l : Literal). l.sign) e)))
literal_injective (negsuc m) (pos n) e = absurd (false≢true (ap (λ (l : Literal). l.sign) e))
literal_injective (negsuc m) (negsuc n) e =
    let z : suc m ≡ suc n = ap (λ (l : Literal). l.variable) e in
    let y : m ≡ n = omega arith in
    ap negsuc y

pub clause_variables : (C : List ℤ) → variables (clause_of C) ≡ map nat_abs C
clause_variables [] = refl
clause_variables (w ∷ C) = rw (literal_variable w, clause_variables C)

-- A word that is not 0 goes before the first clause.
pub clauses_put_first : (w : ℤ) (ws : List ℤ) → (w ≡ pos 0 → ⊥) → clauses_of (w ∷ ws) ≡ put_first w (clauses_of ws)
unfolding clauses_of
clauses_put_first (pos zero) ws h = absurd (h refl)
clauses_put_first (pos (suc n)) ws h = refl
clauses_put_first (negsuc n) ws h = refl

pub first_clause_cons : (w : ℤ) (ws : List ℤ) → (w ≡ pos 0 → ⊥) → first_clause (w ∷ ws) ≡ w ∷ first_clause ws
unfolding first_clause
first_clause_cons (pos zero) ws h = absurd (h refl)
first_clause_cons (pos (suc n)) ws h = refl
first_clause_cons (negsuc n) ws h = refl

pub later_words_cons : (w : ℤ) (ws : List ℤ) → (w ≡ pos 0 → ⊥) → later_words (w ∷ ws) ≡ later_words ws
unfolding later_words
later_words_cons (pos zero) ws h = absurd (h refl)
later_words_cons (pos (suc n)) ws h = refl
later_words_cons (negsuc n) ws h = refl

-- Words that are there begin with their first clause.
pub clauses_first : (w : ℤ) (ws : List ℤ) → clauses_of (w ∷ ws) ≡ first_clause (w ∷ ws) ∷ clauses_of (later_words (w ∷ ws))
unfolding clauses_of first_clause later_words
clauses_first w [] = alone w
  where
    alone : (w : ℤ) → clauses_of (w ∷ []) ≡ first_clause (w ∷ []) ∷ clauses_of (later_words (w ∷ []))
    alone (pos zero) = refl
    alone (pos (suc n)) = refl
    alone (negsuc n) = refl
clauses_first w (v ∷ vs) = before w (clauses_first v vs)
  where
    before :
        (w : ℤ)
        → clauses_of (v ∷ vs) ≡ first_clause (v ∷ vs) ∷ clauses_of (later_words (v ∷ vs))
        → clauses_of (w ∷ v ∷ vs) ≡ first_clause (w ∷ v ∷ vs) ∷ clauses_of (later_words (w ∷ v ∷ vs))
    before (pos zero) e = refl
    before (pos (suc n)) e = ap (put_first (pos (suc n))) e
    before (negsuc n) e = ap (put_first (negsuc n)) e

-- A clause that its 0 closes, and what follows.
pub clauses_append_zero : (C ws : List ℤ) → NoZero C → clauses_of (C ++ pos 0 ∷ ws) ≡ C ∷ clauses_of ws
unfolding clauses_of
clauses_append_zero [] ws h = refl
clauses_append_zero (w ∷ C) ws h =
    rw (clauses_put_first w (C ++ pos 0 ∷ ws) (h w (Memᴰ.head refl)), clauses_append_zero C ws (λ v m. h v (Memᴰ.tail m)))

pub first_clause_append_zero : (C ws : List ℤ) → NoZero C → first_clause (C ++ pos 0 ∷ ws) ≡ C
unfolding first_clause
first_clause_append_zero [] ws h = refl
first_clause_append_zero (w ∷ C) ws h =
    rw (first_clause_cons w (C ++ pos 0 ∷ ws) (h w (Memᴰ.head refl)), first_clause_append_zero C ws (λ v m. h v (Memᴰ.tail m)))

pub later_words_append_zero : (C ws : List ℤ) → NoZero C → later_words (C ++ pos 0 ∷ ws) ≡ ws
unfolding later_words
later_words_append_zero [] ws h = refl
later_words_append_zero (w ∷ C) ws h =
    rw (later_words_cons w (C ++ pos 0 ∷ ws) (h w (Memᴰ.head refl)), later_words_append_zero C ws (λ v m. h v (Memᴰ.tail m)))

-- A predicate that holds of a word and of each later one holds of the whole list.
all_cons : {P : ℤ → Type 0} (w : ℤ) (ws : List ℤ) → P w → ((v : ℤ) → Memᴰ v ws → P v) → (v : ℤ) → Memᴰ v (w ∷ ws) → P v
all_cons {P} w ws p later v m = go (Memᴰ.cases_cons m)
  where
    go : (v ≡ w) ⊎ Memᴰ v ws → P v
    go (inl e) = subst P (sym e) p
    go (inr k) = later v k

-- A clause holds words of the table, none of them 0.
put_first_all :
    {P : ℤ → Type 0} (w : ℤ) (Cs : List (List ℤ))
    → P w
    → ((C : List ℤ) → Memᴰ C Cs → (v : ℤ) → Memᴰ v C → P v)
    → (C : List ℤ) → Memᴰ C (put_first w Cs) → (v : ℤ) → Memᴰ v C → P v
put_first_all {P} w [] p later C m v k = go (Memᴰ.cases_cons m)
  where
    go : (C ≡ w ∷ []) ⊎ Memᴰ C [] → P v
    go (inl e) = all_cons {P = P} w [] p (λ u n. absurd (Memᴰ.not-nil n)) v (subst (λ (D : List ℤ). Memᴰ v D) e k)
    go (inr n) = absurd (Memᴰ.not-nil n)
put_first_all {P} w (D ∷ Cs) p later C m v k = go (Memᴰ.cases_cons m)
  where
    go : (C ≡ w ∷ D) ⊎ Memᴰ C Cs → P v
    go (inl e) = all_cons {P = P} w D p (λ u n. later D (Memᴰ.head refl) u n) v (subst (λ (E : List ℤ). Memᴰ v E) e k)
    go (inr n) = later C (Memᴰ.tail n) v k

clauses_all :
    (P : ℤ → Type 0) (ws : List ℤ)
    → ((w : ℤ) → Memᴰ w ws → (w ≡ pos 0 → ⊥) → P w)
    → (C : List ℤ) → Memᴰ C (clauses_of ws) → (w : ℤ) → Memᴰ w C → P w
unfolding clauses_of
clauses_all P [] h C m w k = absurd (Memᴰ.not-nil m)
clauses_all P (pos zero ∷ ws) h C m w k = go (Memᴰ.cases_cons m) (λ n. clauses_all P ws (λ v i z. h v (Memᴰ.tail i) z) C n w k)
  where
    go : (C ≡ []) ⊎ Memᴰ C (clauses_of ws) → (Memᴰ C (clauses_of ws) → P w) → P w
    go (inl e) later = absurd (Memᴰ.not-nil (subst (λ (D : List ℤ). Memᴰ w D) e k))
    go (inr n) later = later n
clauses_all P (pos (suc n) ∷ ws) h C m w k =
    put_first_all {P = P}
    (pos (suc n))
    (clauses_of ws)
    (h (pos (suc n)) (Memᴰ.head refl) (positive_magnitude (pos (suc n)) (omega arith)))
    (λ D i. clauses_all P ws (λ v j z. h v (Memᴰ.tail j) z) D i)
    C
    m
    w
    k
clauses_all P (negsuc n ∷ ws) h C m w k =
    put_first_all {P = P}
    (negsuc n)
    (clauses_of ws)
    (h (negsuc n) (Memᴰ.head refl) (positive_magnitude (negsuc n) (omega arith)))
    (λ D i. clauses_all P ws (λ v j z. h v (Memᴰ.tail j) z) D i)
    C
    m
    w
    k

pub clauses_no_zero : (ws C : List ℤ) → Memᴰ C (clauses_of ws) → NoZero C
clauses_no_zero ws C m = clauses_all (λ w. w ≡ pos 0 → ⊥) ws (λ w i z. z) C m

pub clause_word_lem : (ws C : List ℤ) → Memᴰ C (clauses_of ws) → (w : ℤ) → Memᴰ w C → Memᴰ w ws
clause_word_lem ws C m = clauses_all (λ w. Memᴰ w ws) ws (λ w i z. i) C m

pub first_clause_no_zero : (ws : List ℤ) → NoZero (first_clause ws)
unfolding first_clause
first_clause_no_zero [] w m = absurd (Memᴰ.not-nil m)
first_clause_no_zero (v ∷ ws) w m = clauses_no_zero (v ∷ ws) (first_clause (v ∷ ws)) (rw (clauses_first v ws) (Memᴰ.head refl)) w m

-- A word of the first clause or of a later one stays in a clause.
put_first_some :
    {ws : List ℤ} (v : ℤ) (Cs : List (List ℤ)) (w : ℤ)
    → (w ≡ v) ⊎ Memᴰ w ws
    → (Memᴰ w ws → (C : List ℤ) × Memᴰ C Cs × Memᴰ w C)
    → (C : List ℤ) × Memᴰ C (put_first v Cs) × Memᴰ w C
put_first_some v Cs w (inl e) later = go Cs
  where
    go : (Cs : List (List ℤ)) → (C : List ℤ) × Memᴰ C (put_first v Cs) × Memᴰ w C
    go [] = (v ∷ [], Memᴰ.head refl, Memᴰ.head e)
    go (D ∷ Ds) = (v ∷ D, Memᴰ.head refl, Memᴰ.head e)
put_first_some v Cs w (inr k) later = let t = later k in go Cs t.0 t.1 t.2
  where
    go : (Cs : List (List ℤ)) (C : List ℤ) → Memᴰ C Cs → Memᴰ w C → (D : List ℤ) × Memᴰ D (put_first v Cs) × Memᴰ w D
    go [] C m i = absurd (Memᴰ.not-nil m)
    go (D ∷ Ds) C m i = side (Memᴰ.cases_cons m)
      where
        side : (C ≡ D) ⊎ Memᴰ C Ds → (E : List ℤ) × Memᴰ E ((v ∷ D) ∷ Ds) × Memᴰ w E
        side (inl e) = (v ∷ D, Memᴰ.head refl, Memᴰ.tail (subst (λ (F : List ℤ). Memᴰ w F) e i))
        side (inr n) = (C, Memᴰ.tail n, i)

-- A word that is not 0 stands in a clause.
pub word_clause : (ws : List ℤ) (w : ℤ) → Memᴰ w ws → (w ≡ pos 0 → ⊥) → (C : List ℤ) × Memᴰ C (clauses_of ws) × Memᴰ w C
unfolding clauses_of
word_clause [] w m z = absurd (Memᴰ.not-nil m)
word_clause (pos zero ∷ ws) w m z = go (Memᴰ.cases_cons m) (λ k. word_clause ws w k z)
  where
    go :
        (w ≡ pos 0) ⊎ Memᴰ w ws
        → (Memᴰ w ws → (C : List ℤ) × Memᴰ C (clauses_of ws) × Memᴰ w C)
        → (C : List ℤ) × Memᴰ C ([] ∷ clauses_of ws) × Memᴰ w C
    go (inl e) later = absurd (z e)
    go (inr k) later = let t = later k in (t.0, Memᴰ.tail t.1, t.2)
word_clause (pos (suc n) ∷ ws) w m z = put_first_some (pos (suc n)) (clauses_of ws) w (Memᴰ.cases_cons m) (λ k. word_clause ws w k z)
word_clause (negsuc n ∷ ws) w m z = put_first_some (negsuc n) (clauses_of ws) w (Memᴰ.cases_cons m) (λ k. word_clause ws w k z)

-- What follows the first clause is shorter than the words.
pub later_words_shorter : (w : ℤ) (ws : List ℤ) → length (later_words (w ∷ ws)) ≤ length ws
unfolding later_words
later_words_shorter w [] = alone w
  where
    alone : (w : ℤ) → length (later_words (w ∷ [])) ≤ 0
    alone (pos zero) = omega arith
    alone (pos (suc n)) = omega arith
    alone (negsuc n) = omega arith
later_words_shorter w (v ∷ vs) = before w (later_words_shorter v vs)
  where
    before : (w : ℤ) → length (later_words (v ∷ vs)) ≤ length vs → length (later_words (w ∷ v ∷ vs)) ≤ suc (length vs)
    before (pos zero) h = omega arith
    before (pos (suc n)) h = omega arith
    before (negsuc n) h = omega arith

-- The clauses from a place on, where the next 0 stands at a later place.
pub clauses_drop :
    (ws : List ℤ) (from to : ℕ)
    → from ≤ to
    → to < length ws
    → NoZero (slice from to ws)
    → get_or ws to (pos 0) ≡ pos 0
    → clauses_of (drop from ws) ≡ slice from to ws ∷ clauses_of (drop (suc to) ws)
clauses_drop ws from to h k n z =
    let l : from ≤ length (take to ws) = rw (length-take-le to ws (omega arith)) h in
    let cut : drop from ws ≡ slice from to ws ++ pos 0 ∷ drop (suc to) ws =
    ap (drop from) (split_at ws to (pos 0) k)
    ∙ drop-append-le from (take to ws) (get_or ws to (pos 0) ∷ drop (suc to) ws) l
    ∙ ap (λ (v : ℤ). slice from to ws ++ v ∷ drop (suc to) ws) z in
    ap clauses_of cut ∙ clauses_append_zero (slice from to ws) (drop (suc to) ws) n
