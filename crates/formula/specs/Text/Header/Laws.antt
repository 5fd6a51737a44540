-- Laws of reading the header: what is read from each of its four tokens on. Assumes nothing.
use Rattle.formula.specs.declared.refusal.Refusal.{Refusal}
use Rattle.formula.specs.declared.header.Field.{Field}
use Rattle.formula.specs.declared.header.Header.{Header}
use Rattle.std.specs.Prelude.{ℕ, ◌<◌, ◌≤◌, min, ◌≡◌, Bool, true, false, List, [], ◌∷◌, length, leb, Option, Some, None, Result, Ok, Err}
use Rattle.std.proofs.Math.Path.{refl}
use Rattle.std.proofs.Common.{ap, ◌∙◌, arith, leb-true, leb-false}
use Rattle.std.proofs.lemmas.Bool.{lt-leb}
use Rattle.formula.specs.Bounds.{variable_bound, count_bound}
use Rattle.scanner.specs.Position.Cursor.{PositionIn}
use Rattle.formula.specs.Refusal.{in_text, require}
use Rattle.scanner.specs.Token.{Token, tokens_at, same, p_text, cnf_text, Number, natural, negative, no_number, number_of}
use Rattle.scanner.specs.Token.Scan.{too_large, shown, next_of}
use Rattle.scanner.proofs.Theorems.Token.Laws.{Finds, token_found}
use Rattle.formula.specs.Text.{refused, State, wantsP, wantsCnf, wantsV, wants_c, between_sets, stopped, header_word, header_number, step, ending, at_end, reading_from}
use Rattle.formula.specs.Text.Laws.{from_end, from_token, from_stopped, from_refused}
use Rattle.formula.specs.Text.Header.{word_value, number_value, value_of, field_or, field_found, HeaderPost}
use Rattle.scanner.specs.declared.position.Position.{Position}
use Rattle.formula.specs.declared.refusal.Reason.TheVariants.{Headless, Oversized}
use Rattle.scanner.specs.declared.token.Token.{Token as Shown}
use Rattle.formula.specs.declared.header.Wanted.{Wanted}
use Rattle.formula.specs.declared.header.Wanted.TheVariants.{P, Cnf, Number as WantsNumber}

-- What is found by the token that was found.
pub field_found_lem :
    {text : List ℕ} {at : ℕ} {shows : Shown} {p n : Position} (f : Finds text at shows p n) (wanted : Wanted)
    → field_or (value_of wanted f.bytes shows) p n ≡ field_found text wanted (tokens_at text at)
unfolding field_found
field_found_lem {text} {at} {shows} {p} {n} f wanted = rw (f.first, ← f.ends, ← f.place_in.stands, ← f.next_in.stands, ← f.shows_it)

-- The state after a token at the place `at`, by its value.
abbrev valued : Option ℕ → ℕ → (ℕ → State) → State
valued None at next = stopped at Headless
valued (Some n) at next = next n

-- A word of the header and a number of it, by their value. Above every bound the value is one that is above it too.
word_valued : (word : List ℕ) (at : ℕ) (bytes : List ℕ) (next : State) → header_word word at bytes next ≡ valued (word_value (same bytes word)) at (λ n. next)
word_valued word at bytes next = go (same bytes word)
  where
    go : (b : Bool) → require b (stopped at Headless) next ≡ valued (word_value b) at (λ n. next)
    go true = refl
    go false = refl

abbrev pub bounded : (bound : ℕ) → (ℕ → State) → (at n : ℕ) → State
bounded bound next at n = require (leb n bound) (stopped at Oversized) (next n)

number_valued : (bound at : ℕ) → bound < too_large → (m : Number) (next : ℕ → State) → header_number bound at m next ≡ valued (number_value (shown m)) at (bounded bound next at)
number_valued bound at h (natural k) next = go (leb k bound) refl
  where
    go : (b : Bool) → leb k bound ≡ b → require (leb k bound) (stopped at Oversized) (next k) ≡ require (leb (min k too_large) bound) (stopped at Oversized) (next (min k too_large))
    go true e = let s : min k too_large ≡ k = omega (arith, leb-true k bound e) in rw s
    go false e = rw (e, lt-leb (min k too_large) bound (omega (arith, leb-false k bound e)))
number_valued bound at h (negative k) next = refl
number_valued bound at h no_number next = refl

module _ (prefixRoom clauseRoom : ℕ) (text : List ℕ) where
  -- A state of the header, what it wants and what follows by the token's place and value.
  record Wants (s : State) (wanted : Wanted) (next : (at n : ℕ) → State) : Type 0 where
    steps : (t : Token) → step prefixRoom clauseRoom s t ≡ valued (value_of wanted t.bytes (shown (number_of t.bytes))) t.place (next t.place)
    ends : ending prefixRoom text s ≡ refused (at_end text Headless)

  abbrev pub FieldReads : State → ((at n : ℕ) → State) → ℕ → Result Field Refusal → Type 0
  FieldReads s next at (Ok f) = ((p : ℕ) × (reading_from prefixRoom clauseRoom text s at ≡ reading_from prefixRoom clauseRoom text (next p f.value) f.next.place)) × PositionIn text f.next
  FieldReads s next at (Err r) = reading_from prefixRoom clauseRoom text s at ≡ refused r

  field_read : (s : State) (wanted : Wanted) (next : (at n : ℕ) → State) (at : ℕ) → at ≤ length text → Wants s wanted next → FieldReads s next at (field_found text wanted (tokens_at text at))
  unfolding field_found
  field_read s wanted next at h W = go (tokens_at text at) refl
    where
      test : {shows : Shown} {p n : Position} (f : Finds text at shows p n) (o : Option ℕ) → value_of wanted f.bytes (shown (number_of f.bytes)) ≡ o → FieldReads s next at (field_or o p n)
      test {shows} {p} {n} f None e =
          from_token prefixRoom clauseRoom text s f ∙ rw (W.steps (record { bytes = f.bytes; place = p.place }), e) (from_refused prefixRoom clauseRoom text f.place_in Headless n.place)
      test {shows} {p} {n} f (Some k) e =
          ((p.place, from_token prefixRoom clauseRoom text s f ∙ rw (W.steps (record { bytes = f.bytes; place = p.place }), e)), f.next_in)

      found : {shows : Shown} {p n : Position} → Finds text at shows p n → FieldReads s next at (field_found text wanted (tokens_at text at))
      found {shows} {p} {n} f = rw (← field_found_lem f wanted) (rw f.shows_it (test f (value_of wanted f.bytes (shown (number_of f.bytes))) refl))

      go : (ts : List Token) → tokens_at text at ≡ ts → FieldReads s next at (field_found text wanted (tokens_at text at))
      go [] e = rw e (end e)
        where
          end : tokens_at text at ≡ [] → FieldReads s next at (field_found text wanted [])
          end e = from_end prefixRoom clauseRoom text s at e ∙ W.ends
      go (t ∷ ts) e = found (token_found text at h (ap (next_of text) e))

  -- The header's four tokens.
  module _ (at : ℕ) (h : at ≤ length text) (a : Result Field Refusal) where
    pub p_read : a ≡ field_found text P (tokens_at text at) → FieldReads wantsP (λ p n. wantsCnf) at a
    unfolding step ending
    p_read e = rw e (field_read wantsP P (λ p n. wantsCnf) at h (record { steps = λ t. word_valued p_text t.place t.bytes wantsCnf; ends = refl }))

    pub cnf_read : a ≡ field_found text Cnf (tokens_at text at) → FieldReads wantsCnf (λ p n. wantsV) at a
    unfolding step ending
    cnf_read e = rw e (field_read wantsCnf Cnf (λ p n. wantsV) at h (record { steps = λ t. word_valued cnf_text t.place t.bytes wantsV; ends = refl }))

    pub v_read : a ≡ field_found text WantsNumber (tokens_at text at) → FieldReads wantsV (bounded variable_bound wants_c) at a
    unfolding step ending
    v_read e =
        rw e (field_read wantsV WantsNumber (bounded variable_bound wants_c) at h (record { steps = λ t. number_valued variable_bound t.place (omega arith) (number_of t.bytes) wants_c; ends = refl }))

    pub c_read : (v : ℕ) → a ≡ field_found text WantsNumber (tokens_at text at) → FieldReads (wants_c v) (bounded count_bound (λ c. between_sets v c [])) at a
    unfolding step ending
    c_read v e =
        rw e (field_read (wants_c v) WantsNumber (bounded count_bound (λ c. between_sets v c [])) at h (record { steps = λ t. number_valued count_bound t.place (omega arith) (number_of t.bytes) (λ c. between_sets v c []); ends = refl }))

  -- A number within its bound, and one above it.
  pub within_read : (bound n p at : ℕ) (next : ℕ → State) → leb n bound ≡ true → reading_from prefixRoom clauseRoom text (bounded bound next p n) at ≡ reading_from prefixRoom clauseRoom text (next n) at
  within_read bound n p at next e = rw e

  pub above_read : (bound n p at : ℕ) (next : ℕ → State) → leb n bound ≡ false → reading_from prefixRoom clauseRoom text (bounded bound next p n) at ≡ refused (in_text text p Oversized)
  above_read bound n p at next e = rw e (from_stopped prefixRoom clauseRoom text p Oversized at)

-- What holds of the header from a later state on holds from an earlier one that leads there.
pub header_before : (text : List ℕ) (s s' : State) (at at' : ℕ) → ((rp rc : ℕ) → reading_from rp rc text s at ≡ reading_from rp rc text s' at') → (a : Result Header Refusal) → HeaderPost text s' at' a → HeaderPost text s at a
header_before text s s' at at' e (Ok k) h = (λ rp rc. e rp rc ∙ h.0 rp rc, h.1, h.2, h.3)
header_before text s s' at at' e (Err r) h = λ rp rc. e rp rc ∙ h rp rc
