-- From the first token on, a blank in another's place changes neither the tables read, nor a refusal's number and place: the same tokens stand at
-- the same places. Assumes nothing.
use Rattle.std.specs.Prelude.{ℕ, suc, ◌+◌, ◌≤◌, ◌≡◌, refl, Bool, true, false, cond, leb, ltb, eqb, ℤ, length}
use Rattle.std.proofs.Common.{ap, sym, ◌∙◌, arith, length-append, drop_at}
use Rattle.std.proofs.lemmas.Bool.{false≢true}
use mathlib.Core.List.{List, [], ◌∷◌, ◌++◌}
use Rattle.qbf.specs.Formula.{Prefix}
use Rattle.formula.specs.Bounds.{text_bound}
use Rattle.scanner.specs.Position.{line_feed}
use Rattle.formula.specs.Prefix.{prefix_words}
use Rattle.formula.specs.Refusal.{refusal, number, in_text, require}
use Rattle.formula.specs.Tables.{zeros}
use Rattle.formula.specs.Free.{completed}
use Rattle.scanner.specs.Token.{is_blank, line_step, lead_step, lead_place, lead_from, first_token, emit, ended, joined, tokens_from, tokens}
use Rattle.formula.specs.Text.{read, refused, State, wantsP, wantsCnf, wantsV, wants_c, between_sets, in_set, clauses, stopped, open_clause, is_open, run, at_end, clauses_ending, tables_ending, ending, reading}
use Rattle.formula.specs.declared.refusal.Reason.{Reason}
use Rattle.formula.specs.declared.refusal.Reason.TheVariants.{Headless, Oversized, NoRoom, Unfinished, Miscount}
use Rattle.scanner.specs.declared.token.Lead.{Lead}
use Rattle.scanner.specs.declared.token.Lead.TheVariants.{LineStart, InLine, Comment, Over}
use Rattle.layout.specs.Blanks.{SameOrBlanks, same_byte, blanks, Reblanked, Alike}

-- Both bytes are blank, or neither is and they are the same.
both : (b c : ℕ) → SameOrBlanks b c → is_blank b ≡ is_blank c
both b c (same_byte e) = ap is_blank e
both b c (blanks h k) = h ∙ sym k

unblank : (b c : ℕ) → SameOrBlanks b c → is_blank b ≡ false → b ≡ c
unblank b c (same_byte e) n = e
unblank b c (blanks h k) n = absurd (false≢true (sym n ∙ h))

-- The same tokens at the same places.
reblanked_tokens : (at : ℕ) (bytes bs cs : List ℕ) → Reblanked bs cs → tokens_from at bytes bs ≡ tokens_from at bytes cs
unfolding tokens_from
reblanked_tokens at bytes [] [] h = refl
reblanked_tokens at bytes [] (c ∷ cs) h = absurd h
reblanked_tokens at bytes (b ∷ bs) [] h = absurd h
reblanked_tokens at bytes (b ∷ bs) (c ∷ cs) h =
    go (is_blank b) refl (λ r. reblanked_tokens (at + 1) r bs cs h.1)
  where
    go :
        (t : Bool) → is_blank b ≡ t → ((r : List ℕ) → tokens_from (at + 1) r bs ≡ tokens_from (at + 1) r cs)
        → emit at (ended (is_blank b) bytes) (tokens_from (at + 1) (joined (is_blank b) bytes b) bs) ≡ emit at (ended (is_blank c) bytes) (tokens_from (at + 1) (joined (is_blank c) bytes c) cs)
    go true e later = rw (← both b c h.0, e) (ap (emit at bytes) (later []))
    go false e later = rw (← both b c h.0, e, ← unblank b c h.0 e) (later (bytes ++ (b ∷ [])))

reblanked_length : (bs cs : List ℕ) → Reblanked bs cs → length bs ≡ length cs
reblanked_length [] [] h = refl
reblanked_length [] (c ∷ cs) h = absurd h
reblanked_length (b ∷ bs) [] h = absurd h
reblanked_length (b ∷ bs) (c ∷ cs) h = ap suc (reblanked_length bs cs h.1)

-- The first token is no nearer than here; where it is here, its byte is no blank.
lead_least : (at : ℕ) (l : Lead) (bs : List ℕ) → at ≤ lead_from at l bs
unfolding lead_from
lead_least at l [] = omega arith
lead_least at l (b ∷ bs) = go (lead_step l b) (lead_least (at + 1) (lead_step l b) bs)
  where
    go : (m : Lead) → at + 1 ≤ lead_from (at + 1) (lead_step l b) bs → at ≤ lead_place m at (lead_from (at + 1) (lead_step l b) bs)
    go LineStart h = omega arith
    go InLine h = omega arith
    go Comment h = omega arith
    go Over h = omega arith

-- A byte that leads to a token where there was none is no blank.
line_step_over : (feed blank c : Bool) → line_step feed blank c ≡ Over → blank ≡ false
line_step_over true blank c e = let z : ◌≡◌ {A = ℕ} 0 1 = cc in absurd (omega arith)
line_step_over false true c e = let z : ◌≡◌ {A = ℕ} 0 1 = cc in absurd (omega arith)
line_step_over false false c e = refl

abbrev is_over : Lead → Bool
is_over LineStart = false
is_over InLine = false
is_over Comment = false
is_over Over = true

over_unblank : (l : Lead) (b : ℕ) → is_over l ≡ false → lead_step l b ≡ Over → is_blank b ≡ false
over_unblank LineStart b n e = line_step_over (eqb b line_feed) (is_blank b) (eqb b 99) e
over_unblank InLine b n e = line_step_over (eqb b line_feed) (is_blank b) false e
over_unblank Comment b n e = go (eqb b line_feed) e
  where
    go : (t : Bool) → cond t LineStart Comment ≡ Over → is_blank b ≡ false
    go true q = let z : ◌≡◌ {A = ℕ} 0 1 = cc in absurd (omega arith)
    go false q = let z : ◌≡◌ {A = ℕ} 0 1 = cc in absurd (omega arith)
over_unblank Over b n e = absurd (false≢true (sym n))

-- The first token stays where it is.
lead_stays :
    (at : ℕ) (l : Lead) (lead bs cs : List ℕ) → is_over l ≡ false → Reblanked bs cs → lead_from at l (lead ++ bs) ≡ at + length lead
    → lead_from at l (lead ++ cs) ≡ at + length lead
unfolding lead_from
lead_stays at l [] [] [] n h e = e
lead_stays at l [] [] (c ∷ cs) n h e = absurd h
lead_stays at l [] (b ∷ bs) [] n h e = absurd h
lead_stays at l [] (b ∷ bs) (c ∷ cs) n h e = go (lead_step l b) refl e
  where
    further : lead_from (at + 1) (lead_step l b) bs ≡ at + 0 → ⊥
    further q = omega (arith, q, lead_least (at + 1) (lead_step l b) bs)

    go : (m : Lead) → lead_step l b ≡ m → lead_place m at (lead_from (at + 1) (lead_step l b) bs) ≡ at + 0 → lead_place (lead_step l c) at (lead_from (at + 1) (lead_step l c) cs) ≡ at + 0
    go LineStart f q = absurd (further q)
    go InLine f q = absurd (further q)
    go Comment f q = absurd (further q)
    go Over f q = rw (← unblank b c h.0 (over_unblank l b n f), f) (omega arith)
lead_stays at l (a ∷ lead) bs cs n h e = go (lead_step l a) refl e (λ m k q. lead_stays (at + 1) m lead bs cs k h q)
  where
    longer : at + suc (length lead) ≡ at + 1 + length lead
    longer = omega arith

    go :
        (m : Lead) → lead_step l a ≡ m → lead_place m at (lead_from (at + 1) (lead_step l a) (lead ++ bs)) ≡ at + suc (length lead)
        → ((m : Lead) → is_over m ≡ false → lead_from (at + 1) m (lead ++ bs) ≡ at + 1 + length lead → lead_from (at + 1) m (lead ++ cs) ≡ at + 1 + length lead)
        → lead_place (lead_step l a) at (lead_from (at + 1) (lead_step l a) (lead ++ cs)) ≡ at + suc (length lead)
    go LineStart f q later = rw (f, longer) (later LineStart refl (rw (f, longer) at q))
    go InLine f q later = rw (f, longer) (later InLine refl (rw (f, longer) at q))
    go Comment f q later = rw (f, longer) (later Comment refl (rw (f, longer) at q))
    go Over f q later = absurd (omega (arith, q))

-- What is read where the text ends, but for lines and columns.
in_text_alike : (t u : List ℕ) (at : ℕ) (r : Reason) → Alike (refused (in_text t at r)) (refused (in_text u at r))
in_text_alike t u at r = go (eqb (number r) (number Oversized)) refl
  where
    go : (b : Bool) → eqb (number r) (number Oversized) ≡ b → Alike (refused (in_text t at r)) (refused (in_text u at r))
    go true e = rw e (refl, refl)
    go false e = rw e (refl, refl)

module _ (t u : List ℕ) (l : length t ≡ length u) where
  end_alike : (r : Reason) → Alike (refused (at_end t r)) (refused (at_end u r))
  end_alike r = rw (← l) (in_text_alike t u (length t) r)

  clauses_alike : (o m f : Bool) (p w : List ℤ) (c : ℕ) → Alike (clauses_ending t o m (require f (refused (at_end t NoRoom)) (read p w c))) (clauses_ending u o m (require f (refused (at_end u NoRoom)) (read p w c)))
  clauses_alike true m f p w c = end_alike Unfinished
  clauses_alike false true f p w c = end_alike Miscount
  clauses_alike false false true p w c = (refl, refl, refl)
  clauses_alike false false false p w c = end_alike NoRoom

  tables_alike : (prefixRoom v c : ℕ) (P : Prefix) (w : List ℤ) → Alike (tables_ending prefixRoom t v c P w) (tables_ending prefixRoom u v c P w)
  tables_alike prefixRoom v c P w =
      clauses_alike (is_open (open_clause w)) (ltb (zeros w) c) (leb (length (prefix_words (completed v P w))) prefixRoom) (prefix_words (completed v P w)) w c

  ending_alike : (prefixRoom : ℕ) (s : State) → Alike (ending prefixRoom t s) (ending prefixRoom u s)
  unfolding ending
  ending_alike prefixRoom wantsP = end_alike Headless
  ending_alike prefixRoom wantsCnf = end_alike Headless
  ending_alike prefixRoom wantsV = end_alike Headless
  ending_alike prefixRoom (wants_c v) = end_alike Headless
  ending_alike prefixRoom (between_sets v c P) = tables_alike prefixRoom v c P []
  ending_alike prefixRoom (in_set v c q filled P) = end_alike Unfinished
  ending_alike prefixRoom (clauses v c P w) = tables_alike prefixRoom v c P w
  ending_alike prefixRoom (stopped at r) = in_text_alike t u at r

-- The theorem: `lead` is what stands before the first token.
pub blanks_alike :
    (lead bs cs : List ℕ) → first_token (lead ++ bs) ≡ length lead → Reblanked bs cs
    → (prefixRoom clauseRoom : ℕ) → Alike (reading (lead ++ bs) prefixRoom clauseRoom) (reading (lead ++ cs) prefixRoom clauseRoom)
unfolding reading
blanks_alike lead bs cs e h prefixRoom clauseRoom =
    let long : length (lead ++ bs) ≡ length (lead ++ cs) = length-append lead bs ∙ rw (reblanked_length bs cs h) (sym (length-append lead cs)) in
    let first : first_token (lead ++ cs) ≡ length lead = rw add_none at (lead_stays 0 LineStart lead bs cs refl h (rw add_none e)) in
    let same : tokens (lead ++ bs) ≡ tokens (lead ++ cs) =
    rw (e, first, drop_at lead bs (length lead) refl, drop_at lead cs (length lead) refl) (reblanked_tokens (length lead) [] bs cs h) in
    rw (← long, ← same) (go (leb (length (lead ++ bs)) text_bound) long)
  where
    add_none : 0 + length lead ≡ length lead
    add_none = omega arith

    go :
        (b : Bool) → length (lead ++ bs) ≡ length (lead ++ cs)
        → Alike (require b (refused (refusal Oversized 0)) (ending prefixRoom (lead ++ bs) (run prefixRoom clauseRoom wantsP (tokens (lead ++ bs))))) (require b (refused (refusal Oversized 0)) (ending prefixRoom (lead ++ cs) (run prefixRoom clauseRoom wantsP (tokens (lead ++ bs)))))
    go true l = ending_alike (lead ++ bs) (lead ++ cs) l prefixRoom (run prefixRoom clauseRoom wantsP (tokens (lead ++ bs)))
    go false l = (refl, refl)
