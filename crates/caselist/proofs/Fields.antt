-- Tokens by their fronts, and the field that they stand in.
use Rattle.std.proofs.Common.{ℕ, ◌≡◌, sym, subst, true, false, Option, Some, None, List, [], ◌++◌, length, drop, eqb, ℤ, MatchOption, Bor, append_assoc}
use Rattle.std.specs.List.{starts_with}
use Rattle.std.specs.Str.{IsCharBoundary}
use Rattle.std.specs.Str.Iter.{split_whitespace_rest, split_whitespace_steps}
use Rattle.std.specs.Str.Pattern.{FindsTextPrefix, StripsPrefix}
use Rattle.std.proofs.lemmas.List.{append-nil}
use Rattle.std.proofs.lemmas.Str.Pattern.{starts_text}
use Rattle.std.specs.declared.str.SplitWhitespace.{SplitWhitespace}
use Rattle.caselist.specs.Tokens.{TokenWrites, FieldWrites, ended, token}

-- What `strip_prefix` says of a text.
pub stripped : (n s : List ℕ) (r : Option (Bor (List ℕ))) → MatchOption r (FindsTextPrefix n s None) (λ x. StripsPrefix (FindsTextPrefix n) s x.now)
    → MatchOption r (starts_with eqb s n ≡ false) (λ x. (starts_with eqb s n ≡ true) × (x.now ≡ drop (length n) s))
stripped n s None h = sym (starts_text false n s h)
stripped n s (Some x) h =
    let P : ℕ → Type 0 = λ k. IsCharBoundary s k in
    let D : ℕ → Type 0 = λ k. x.now ≡ drop k s in
    (sym (starts_text true n s (h.0, h.1, subst P (sym h.1.0) h.1.2)), subst D h.1.0 h.2)

-- Words so far, where whatever the rest of the field writes comes behind them.
abbrev pub WritesSoFar : List ℕ → List ℤ → SplitWhitespace → Type 0
WritesSoFar field words s = (behind : List ℤ) → FieldWrites (split_whitespace_rest s) behind → FieldWrites field (words ++ behind)

-- A token more.
pub so_far-token : (field : List ℕ) (old new : List ℤ) (s t : SplitWhitespace) (x : Bor (List ℕ)) → WritesSoFar field old s → split_whitespace_steps s (Some x) t
    → (more : List ℤ) × TokenWrites x.now more × (new ≡ old ++ more) → WritesSoFar field new t
so_far-token field old new s t x so_far step written behind h =
    let P : List ℕ → Type 0 = λ text. FieldWrites text (written.0 ++ behind) in
    let here : FieldWrites (split_whitespace_rest s) (written.0 ++ behind)
    = subst P (sym step.1) (token step.0 x.now (split_whitespace_rest t) written.0 behind step.3 step.2 step.4 step.5 written.1 h) in
    rw (written.2, append_assoc) (so_far (written.0 ++ behind) here)

-- No token more.
pub so_far-end : (field : List ℕ) (words : List ℤ) (s t : SplitWhitespace) → WritesSoFar field words s → split_whitespace_steps s None t → FieldWrites field words
so_far-end field words s t so_far step = rw append-nil at (so_far [] (ended step.1))
