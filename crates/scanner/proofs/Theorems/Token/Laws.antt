-- Laws of tokens: as loops over a text take them, byte by byte; what the next token tells; how the code shows a number. Assumes nothing.
use Rattle.std.specs.Prelude.{ℕ, zero, suc, ◌+◌, ◌-◌, ◌<◌, ◌≤◌, ◌≡◌, refl, ◌⊎◌, Bool, true, false, ◌&&◌, ◌||◌, cond, List, [], ◌∷◌, ◌++◌, length, get_or, take, drop, leb, eqb}
use Rattle.std.proofs.Common.{ap, sym, ◌∙◌, inl, inr, append_assoc, append-nil, add-one, arith, leb-true, length-append, drop_of_length-le, length-drop, length-take, drop-cons, drop-drop, get_or-drop, le_of_suc-le-suc, not-suc-le-zero}
use Rattle.std.proofs.lemmas.Bool.{false≢true}
use Rattle.std.specs.Cmp.Lexicographic.{pointwise}
use Rattle.qbf.specs.Connectives.{and_both}
use Rattle.scanner.specs.Position.{line_feed, position_at}
use Rattle.scanner.specs.Position.Cursor.{along, PositionIn}
use Rattle.scanner.proofs.Theorems.Position.Laws.{along_past}
use Rattle.scanner.specs.Token.{is_digit, is_blank, lead_from, lead_place, lead_step, Token, emit, ended, joined, tokens_from, tokens_at, same, number_of}
use Rattle.scanner.specs.Token.Scan.{shown, next_of, solid, run_at}
use Rattle.scanner.specs.declared.position.Position.{Position}
use Rattle.scanner.specs.declared.token.Lead.{Lead}
use Rattle.scanner.specs.declared.token.Token.{Token as Shown}
use Rattle.scanner.specs.declared.token.Token.TheVariants.{NoNumber}
use Rattle.scanner.specs.declared.token.Next.{Next}
use Rattle.scanner.specs.declared.token.Next.TheVariants.{End, Found}

-- The bytes from a place on, the first of them apart.
pub drop_next : (l : List ℕ) (i : ℕ) → i < length l → drop i l ≡ get_or l i 0 ∷ drop (i + 1) l
drop_next l i h = rw add-one (drop-cons l i 0 h)

-- The next state s' decides whether the first token is here.
pub lead_byte : (text : List ℕ) (i : ℕ) (s s' : Lead) → i < length text → s' ≡ lead_step s (get_or text i 0) → lead_from i s (drop i text) ≡ lead_place s' i (lead_from (i + 1) s' (drop (i + 1) text))
unfolding lead_from
lead_byte text i s s' h e = rw e (ap (lead_from i s) (drop_next text i h))

-- A digit's value does not go below 0.
pub digit_least : (b : ℕ) → is_digit b ≡ true → 48 ≤ b
unfolding is_digit
digit_least b e = leb-true 48 b (and_both (leb 48 b) (leb b 57) e).0

-- LF and every other blank part tokens.
pub solid_no_feed : (b : ℕ) → is_blank b ≡ false → eqb b line_feed ≡ false
unfolding is_blank
solid_no_feed b = go (eqb b 32) (eqb b 9) (eqb b 13) (eqb b line_feed)
  where
    go : (s t u w : Bool) → (s || t || u || w) ≡ false → w ≡ false
    go true t u w e = absurd (false≢true (sym e))
    go false true u w e = absurd (false≢true (sym e))
    go false false true w e = absurd (false≢true (sym e))
    go false false false w e = e

-- Between tokens a blank is passed; a run goes on, or ends.
pub blank_passed : (text : List ℕ) (i : ℕ) → i < length text → is_blank (get_or text i 0) ≡ true → tokens_at text i ≡ tokens_at text (i + 1)
unfolding tokens_from
blank_passed text i h e = ap (tokens_from i []) (drop_next text i h) ∙ rw e

-- A run that is open, before bytes of which the first are solid.
run_on : (at : ℕ) (a : ℕ) (run bs : List ℕ) → tokens_from at (a ∷ run) bs ≡ record { bytes = a ∷ (run ++ take (solid bs) bs); place = at - length (a ∷ run) } ∷ tokens_from (at + solid bs) [] (drop (solid bs) bs)
unfolding tokens_from solid
run_on at a run [] = rw (append-nil run)
run_on at a run (b ∷ bs) = go (is_blank b) refl (run_on (at + 1) a (run ++ (b ∷ [])) bs)
  where
    go :
        (t : Bool) → is_blank b ≡ t
        → tokens_from (at + 1) (a ∷ (run ++ (b ∷ []))) bs ≡ record { bytes = a ∷ ((run ++ (b ∷ [])) ++ take (solid bs) bs); place = at + 1 - length (a ∷ (run ++ (b ∷ []))) } ∷ tokens_from (at + 1 + solid bs) [] (drop (solid bs) bs)
        → emit at (ended t (a ∷ run)) (tokens_from (at + 1) (joined t (a ∷ run) b) bs)
        ≡ record { bytes = a ∷ (run ++ take (cond t 0 (suc (solid bs))) (b ∷ bs)); place = at - length (a ∷ run) } ∷ tokens_from (at + cond t 0 (suc (solid bs))) [] (drop (cond t 0 (suc (solid bs))) (b ∷ bs))
    go true e later = let z : at + 0 ≡ at = omega arith in rw (append-nil run, z, e)
    go false e later =
        let l : at + 1 - length (a ∷ (run ++ (b ∷ []))) ≡ at - length (a ∷ run) = omega (arith, length-append run (b ∷ [])) in
        let k : at + 1 + solid bs ≡ at + suc (solid bs) = omega arith in
        later ∙ rw (append_assoc run (b ∷ []) (take (solid bs) bs), l, k)

-- At a byte that is no blank a token begins, its run of bytes.
pub token_begins :
    (text : List ℕ) (i : ℕ) → i < length text → is_blank (get_or text i 0) ≡ false
    → tokens_at text i ≡ record { bytes = run_at text i; place = i } ∷ tokens_at text (i + solid (drop i text))
unfolding tokens_from solid
token_begins text i h e =
    let p : i + 1 - 1 ≡ i = omega arith in
    let k : i + 1 + solid (drop (i + 1) text) ≡ i + suc (solid (drop (i + 1) text)) = omega arith in
    rw (drop_next text i h, e) (run_on (i + 1) (get_or text i 0) [] (drop (i + 1) text) ∙ rw (p, drop-drop, k))

-- The run at a byte that is no blank: the byte, and the run behind it.
pub run_first : (text : List ℕ) (i : ℕ) → i < length text → is_blank (get_or text i 0) ≡ false → run_at text i ≡ get_or text i 0 ∷ run_at text (i + 1)
unfolding solid
run_first text i h e = rw (drop_next text i h, e)

pub solid_first : (text : List ℕ) (i : ℕ) → i < length text → is_blank (get_or text i 0) ≡ false → solid (drop i text) ≡ suc (solid (drop (i + 1) text))
unfolding solid
solid_first text i h e = rw (drop_next text i h, e)

pub solid_blank : (text : List ℕ) (i : ℕ) → i < length text → is_blank (get_or text i 0) ≡ true → solid (drop i text) ≡ 0
unfolding solid
solid_blank text i h e = rw (drop_next text i h, e)

pub solid_end : (text : List ℕ) (i : ℕ) → length text ≤ i → solid (drop i text) ≡ 0
unfolding solid
solid_end text i h = rw (drop_of_length-le text {i = i} h)

solid_few : (bs : List ℕ) → solid bs ≤ length bs
unfolding solid
solid_few [] = omega arith
solid_few (b ∷ bs) = go (is_blank b) (solid_few bs)
  where
    go : (t : Bool) → solid bs ≤ length bs → cond t 0 (suc (solid bs)) ≤ suc (length bs)
    go true h = omega arith
    go false h = omega arith

pub run_length : (text : List ℕ) (i : ℕ) → length (run_at text i) ≡ solid (drop i text)
run_length text i = omega (arith, length-take (solid (drop i text)) (drop i text), solid_few (drop i text))

pub run_inside : (text : List ℕ) (i : ℕ) → i ≤ length text → i + solid (drop i text) ≤ length text
run_inside text i h = omega (arith, solid_few (drop i text), length-drop i text)

-- The library's `==` of two slices of bytes.
pub same_pointwise : (bs cs : List ℕ) → pointwise eqb bs cs ≡ same bs cs
unfolding same
same_pointwise [] [] = refl
same_pointwise [] (c ∷ cs) = refl
same_pointwise (b ∷ bs) [] = refl
same_pointwise (b ∷ bs) (c ∷ cs) = ap (λ t. eqb b c && t) (same_pointwise bs cs)

-- What the next token tells: there is none, or a first one, with its bytes and positions.
pub record Finds (text : List ℕ) (at : ℕ) (shows : Shown) (p n : Position) : Type 0 where
  pub bytes : List ℕ
  pub first : tokens_at text at ≡ record { bytes = bytes; place = p.place } ∷ tokens_at text n.place
  pub shows_it : shows ≡ shown (number_of bytes)
  pub slice : bytes ≡ take (n.place - p.place) (drop p.place text)
  pub ends : n.place ≡ p.place + length bytes
  pub after : at < n.place
  pub from_place : p.place ≤ n.place
  pub place_in : PositionIn text p
  pub next_in : PositionIn text n

-- Behind the blanks there is nothing, or a byte that is none.
record Ahead (at : ℕ) (bs : List ℕ) : Type 0 where
  blanks : ℕ
  inside : blanks < length bs
  no_blank : is_blank (get_or bs blanks 0) ≡ false
  from_there : tokens_from at [] bs ≡ tokens_from (at + blanks) [] (drop blanks bs)

ahead : (at : ℕ) (bs : List ℕ) → (tokens_from at [] bs ≡ []) ⊎ Ahead at bs
unfolding tokens_from
ahead at [] = inl refl
ahead at (b ∷ bs) = go (is_blank b) refl (ahead (at + 1) bs)
  where
    go : (t : Bool) → is_blank b ≡ t → (tokens_from (at + 1) [] bs ≡ []) ⊎ Ahead (at + 1) bs → (tokens_from at [] (b ∷ bs) ≡ []) ⊎ Ahead at (b ∷ bs)
    go true e (inl none) = inl (rw e none)
    go true e (inr a) =
        let k : at + 1 + a.blanks ≡ at + suc a.blanks = omega arith in
        inr (record { blanks = suc a.blanks; inside = omega (arith, a.inside); no_blank = a.no_blank; from_there = rw (e, ← k) a.from_there })
    go false e later = let k : at + 0 ≡ at = omega arith in inr (record { blanks = 0; inside = omega arith; no_blank = e; from_there = rw k })

abbrev token_of : Next → Shown
token_of (End p) = NoNumber
token_of (Found t p n) = t

abbrev place_of : Next → Position
place_of (End p) = p
place_of (Found t p n) = p

abbrev next_place : Next → Position
next_place (End p) = p
next_place (Found t p n) = n

module _ (text : List ℕ) (at : ℕ) where
  pub no_token : {e : Position} → next_of text (tokens_at text at) ≡ End e → (tokens_at text at ≡ []) × (e ≡ position_at text (length text))
  no_token {e} q = go (tokens_at text at) refl q
    where
      go : (ts : List Token) → tokens_at text at ≡ ts → next_of text ts ≡ End e → (tokens_at text at ≡ []) × (e ≡ position_at text (length text))
      go [] r q = (r, sym (ap place_of q))
      go (t ∷ ts) r q = let z : ◌≡◌ {A = ℕ} 0 1 = cc in absurd (omega arith)

  pub token_found : at ≤ length text → {t : Shown} {p n : Position} → next_of text (tokens_at text at) ≡ Found t p n → Finds text at t p n
  token_found h {t} {p} {n} q = go (ahead at (drop at text))
    where
      go : (tokens_at text at ≡ []) ⊎ Ahead at (drop at text) → Finds text at t p n
      go (inl none) = let z : ◌≡◌ {A = ℕ} 0 1 = (let k = rw none at q in cc) in absurd (omega arith)
      go (inr a) =
          let start = at + a.blanks in
          let l : start < length text = omega (arith, a.inside, length-drop at text) in
          let b : is_blank (get_or text start 0) ≡ false = rw get_or-drop at a.no_blank in
          let ts = token_begins text start l b in
          let is : tokens_at text at ≡ tokens_at text start = rw drop-drop at a.from_there in
          let e = rw (is ∙ ts) at q in
          let s = solid_first text start l b in
          let long : length (run_at text start) ≡ solid (drop start text) = run_length text start in
          let pp : p ≡ position_at text start = sym (ap place_of e) in
          let nn : n ≡ position_at text (start + solid (drop start text)) = sym (ap next_place e) ∙ rw long in
          let d : start + solid (drop start text) - start ≡ solid (drop start text) = omega arith in
          record {
            bytes = run_at text start;
            first = rw (pp, nn) (is ∙ ts);
            shows_it = sym (ap token_of e);
            slice = rw (pp, nn, d);
            ends = rw (pp, nn, long);
            after = rw nn (omega (arith, s));
            from_place = rw (pp, nn) (omega arith);
            place_in = rw pp (record { stands = refl; inside = omega arith });
            next_in = rw nn (record { stands = refl; inside = run_inside text start (omega arith) });
          }

-- A run holds no blank, so it stays on its line.
solid_at : (bs : List ℕ) (k : ℕ) → k < solid bs → is_blank (get_or bs k 0) ≡ false
unfolding solid
solid_at [] k h = absurd (not-suc-le-zero h)
solid_at (b ∷ bs) k h = go (is_blank b) refl k h (λ n l. solid_at bs n l)
  where
    go : (t : Bool) → is_blank b ≡ t → (k : ℕ) → k < cond t 0 (suc (solid bs)) → ((n : ℕ) → n < solid bs → is_blank (get_or bs n 0) ≡ false) → is_blank (get_or (b ∷ bs) k 0) ≡ false
    go true e k h later = absurd (not-suc-le-zero h)
    go false e zero h later = e
    go false e (suc k) h later = later k (le_of_suc-le-suc h)

pub along_run : (text : List ℕ) (p : Position) → PositionIn text p → (n : ℕ) → n ≤ solid (drop p.place text) → along p n ≡ position_at text (p.place + n)
along_run text p i zero h =
    let a : p.place + 0 ≡ p.place = omega arith in
    let b : p.column + 0 ≡ p.column = omega arith in
    rw (a, b) i.stands
along_run text p i (suc n) h =
    let few = run_inside text p.place i.inside in
    let at = p.place + n in
    let one : at + 1 ≡ p.place + suc n = omega arith in
    let took : at + 1 - p.place ≡ suc n = omega arith in
    let was : at - p.place ≡ n = omega arith in
    let no-feed = solid_no_feed (get_or text at 0) (rw get_or-drop at (solid_at (drop p.place text) n (omega (arith, h)))) in
    rw (took, one) at (along_past text p at (omega arith) (omega (arith, few)) no-feed (rw was (along_run text p i n (omega (arith, h)))))

-- The token at a byte that is no blank, as `token_at` answers it: by what is shown of its run, and how long that is.
pub next_is :
    (text : List ℕ) (p : Position) → PositionIn text p → p.place < length text → is_blank (get_or text p.place 0) ≡ false
    → (t : Shown) (k : ℕ) → shown (number_of (run_at text p.place)) ≡ t → k ≡ solid (drop p.place text) → Found t p (along p k) ≡ next_of text (tokens_at text p.place)
next_is text p i h s t k e l =
    rw (token_begins text p.place h s, run_length text p.place, e, l, along_run text p i (solid (drop p.place text)) (omega arith), ← i.stands)

-- At the end no token follows.
pub nothing_behind : (text : List ℕ) (p : Position) → PositionIn text p → length text ≤ p.place → End p ≡ next_of text (tokens_at text p.place)
unfolding tokens_from
nothing_behind text p i h =
    let e : p.place ≡ length text = omega (arith, i.inside) in
    rw (drop_of_length-le text {i = p.place} h, ← e) (ap End i.stands)

-- Bytes compared one by one.
pub same_byte : (bs cs : List ℕ) (i : ℕ) → i < length bs → i < length cs → same (drop i bs) (drop i cs) ≡ (eqb (get_or bs i 0) (get_or cs i 0) && same (drop (i + 1) bs) (drop (i + 1) cs))
unfolding same
same_byte bs cs i h k = rw (drop_next bs i h, drop_next cs i k)

pub same_end : (bs cs : List ℕ) (i : ℕ) → length bs ≤ i → length cs ≤ i → same (drop i bs) (drop i cs) ≡ true
unfolding same
same_end bs cs i h k = rw (drop_of_length-le bs {i = i} h, drop_of_length-le cs {i = i} k)

pub same_lengths : (bs cs : List ℕ) → (length bs ≡ length cs → ⊥) → same bs cs ≡ false
unfolding same
same_lengths [] [] n = absurd (n refl)
same_lengths [] (c ∷ cs) n = refl
same_lengths (b ∷ bs) [] n = refl
same_lengths (b ∷ bs) (c ∷ cs) n = go (eqb b c) (same_lengths bs cs (λ e. n (ap suc e)))
  where
    go : (t : Bool) → same bs cs ≡ false → (t && same bs cs) ≡ false
    go true e = e
    go false e = refl
