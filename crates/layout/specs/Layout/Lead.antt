-- What stands before the first token: lines and blanks as a layout has them, and these for every text that has a token. Assumes nothing.
use Rattle.std.specs.Prelude.{ℕ, suc, ◌+◌, ◌≡◌, refl, Bool, true, false, cond, ◌⊎◌, List, [], ◌∷◌, ◌++◌, eqb, length}
use Rattle.std.proofs.Common.{ap, sym, ◌∙◌, inl, inr, append_assoc, arith, eqb-true, ne_eqb, length-append}
use Rattle.std.proofs.lemmas.Bool.{eqb-false}
use Rattle.scanner.specs.Position.{line_feed}
use Rattle.scanner.specs.Token.{is_blank, line_step, lead_place, lead_from}
use Rattle.scanner.proofs.Theorems.Token.Laws.{solid_no_feed}
use Rattle.scanner.specs.declared.token.Lead.{Lead}
use Rattle.scanner.specs.declared.token.Lead.TheVariants.{LineStart, InLine, Comment, Over}
use Rattle.layout.specs.Layout.{AllBlank, NoFeed, IsComment, LeadLines, lead_text}

-- A comment, and blanks of one line, up to the LF that ends them.
comment_passed : (at : ℕ) (l more : List ℕ) → NoFeed l → lead_from at Comment (l ++ (line_feed ∷ more)) ≡ lead_from (at + length l + 1) LineStart more
unfolding lead_from
comment_passed at [] more h = let z : at + 0 + 1 ≡ at + 1 = omega arith in rw z
comment_passed at (b ∷ l) more h =
    let k : at + 1 + length l + 1 ≡ at + suc (length l) + 1 = omega arith in
    rw (ne_eqb b line_feed h.0) (comment_passed (at + 1) l more h.1 ∙ rw k)

blanks_passed : (at : ℕ) (l more : List ℕ) → NoFeed l → AllBlank l → lead_from at InLine (l ++ (line_feed ∷ more)) ≡ lead_from (at + length l + 1) LineStart more
unfolding lead_from
blanks_passed at [] more h a = let z : at + 0 + 1 ≡ at + 1 = omega arith in rw z
blanks_passed at (b ∷ l) more h a =
    let k : at + 1 + length l + 1 ≡ at + suc (length l) + 1 = omega arith in
    rw (ne_eqb b line_feed h.0, a.0) (blanks_passed (at + 1) l more h.1 a.1 ∙ rw k)

c_solid : is_blank 99 ≡ false
unfolding is_blank
c_solid = refl

line_passed : (at : ℕ) (l more : List ℕ) → NoFeed l → (IsComment l ⊎ AllBlank l) → lead_from at LineStart (l ++ (line_feed ∷ more)) ≡ lead_from (at + length l + 1) LineStart more
unfolding lead_from
line_passed at [] more h k = let z : at + 0 + 1 ≡ at + 1 = omega arith in rw z
line_passed at (b ∷ l) more h (inl c) =
    let k : at + 1 + length l + 1 ≡ at + suc (length l) + 1 = omega arith in
    rw (c, c_solid) (comment_passed (at + 1) l more h.1 ∙ rw k)
line_passed at (b ∷ l) more h (inr a) =
    let k : at + 1 + length l + 1 ≡ at + suc (length l) + 1 = omega arith in
    rw (ne_eqb b line_feed h.0, a.0) (blanks_passed (at + 1) l more h.1 a.1 ∙ rw k)

-- The blanks before the header's first token.
in_line : (at : ℕ) (indent : List ℕ) (b : ℕ) (rest : List ℕ) → AllBlank indent → NoFeed indent → is_blank b ≡ false → lead_from at InLine (indent ++ (b ∷ rest)) ≡ at + length indent
unfolding lead_from
in_line at [] b rest a h s = rw (solid_no_feed b s, s) (omega arith)
in_line at (i ∷ indent) b rest a h s =
    rw (ne_eqb i line_feed h.0, a.0) (in_line (at + 1) indent b rest a.1 h.1 s ∙ omega arith)

indent_passed : (at : ℕ) (indent : List ℕ) (b : ℕ) (rest : List ℕ) → AllBlank indent → NoFeed indent → is_blank b ≡ false → (b ≡ 99 → ⊥) → lead_from at LineStart (indent ++ (b ∷ rest)) ≡ at + length indent
unfolding lead_from
indent_passed at [] b rest a h s c = rw (solid_no_feed b s, s, ne_eqb b 99 c) (omega arith)
indent_passed at (i ∷ indent) b rest a h s c =
    rw (ne_eqb i line_feed h.0, a.0) (in_line (at + 1) indent b rest a.1 h.1 s ∙ omega arith)

pub lead_first :
    (at : ℕ) (lines : List (List ℕ)) (indent : List ℕ) (b : ℕ) (rest : List ℕ) → LeadLines lines → AllBlank indent → NoFeed indent → is_blank b ≡ false → (b ≡ 99 → ⊥)
    → lead_from at LineStart (lead_text lines indent ++ (b ∷ rest)) ≡ at + length (lead_text lines indent)
unfolding lead_text
lead_first at [] indent b rest h a n s c = indent_passed at indent b rest a n s c
lead_first at (l ∷ lines) indent b rest h a n s c =
    rw (append_assoc l (line_feed ∷ lead_text lines indent) (b ∷ rest))
    (line_passed at l (lead_text lines indent ++ (b ∷ rest)) h.0 h.1
    ∙ lead_first (at + length l + 1) lines indent b rest h.2 a n s c
    ∙ omega (arith, length-append l (line_feed ∷ lead_text lines indent)))

-- The line that is begun before the bytes at hand.
abbrev LineOk : Lead → List ℕ → Type 0
LineOk LineStart l = l ≡ []
LineOk InLine l = AllBlank l × NoFeed l
LineOk Comment l = IsComment l × NoFeed l
LineOk Over l = ⊥

-- The first token is found: what stands before it, with the line begun.
pub record LeadFound (l : List ℕ) (at found : ℕ) (bs : List ℕ) : Type 0 where
  pub lines : List (List ℕ)
  pub indent : List ℕ
  pub first : ℕ
  pub rest : List ℕ
  pub whole : l ++ bs ≡ lead_text lines indent ++ (first ∷ rest)
  pub lead : LeadLines lines
  pub indented : AllBlank indent × NoFeed indent
  pub solid : is_blank first ≡ false
  pub here : found + length l ≡ at + length (lead_text lines indent)

abbrev Leads : Lead → List ℕ → ℕ → List ℕ → Type 0
Leads s l at bs = (lead_from at s bs ≡ at + length bs) ⊎ LeadFound l at (lead_from at s bs) bs

all_snoc : (l : List ℕ) (b : ℕ) → AllBlank l → is_blank b ≡ true → AllBlank (l ++ (b ∷ []))
all_snoc [] b a e = (e, tt)
all_snoc (x ∷ l) b a e = (a.0, all_snoc l b a.1 e)

no_snoc : (l : List ℕ) (b : ℕ) → NoFeed l → (b ≡ line_feed → ⊥) → NoFeed (l ++ (b ∷ []))
no_snoc [] b h n = (n, tt)
no_snoc (x ∷ l) b h n = (h.0, no_snoc l b h.1 n)

comment_snoc : (l : List ℕ) (b : ℕ) → IsComment l → IsComment (l ++ (b ∷ []))
comment_snoc [] b h = absurd h
comment_snoc (x ∷ l) b h = h

-- A byte more of the line; its LF; the first byte of a token.
line_more : (l : List ℕ) (at : ℕ) (b : ℕ) (bs : List ℕ) (s : Lead) → Leads s (l ++ (b ∷ [])) (at + 1) bs → (lead_from (at + 1) s bs ≡ at + suc (length bs)) ⊎ LeadFound l at (lead_from (at + 1) s bs) (b ∷ bs)
line_more l at b bs s (inl e) = inl (e ∙ omega arith)
line_more l at b bs s (inr F) =
    inr
    (record {
      lines = F.lines;
      indent = F.indent;
      first = F.first;
      rest = F.rest;
      whole = sym (append_assoc l (b ∷ []) bs) ∙ F.whole;
      lead = F.lead;
      indented = F.indented;
      solid = F.solid;
      here = omega (arith, F.here, length-append l (b ∷ []));
    })

line_closed :
    (l : List ℕ) (at : ℕ) (bs : List ℕ) → NoFeed l → (IsComment l ⊎ AllBlank l) → Leads LineStart [] (at + 1) bs
    → (lead_from (at + 1) LineStart bs ≡ at + suc (length bs)) ⊎ LeadFound l at (lead_from (at + 1) LineStart bs) (line_feed ∷ bs)
unfolding lead_text
line_closed l at bs n k (inl e) = inl (e ∙ omega arith)
line_closed l at bs n k (inr F) =
    inr
    (record {
      lines = l ∷ F.lines;
      indent = F.indent;
      first = F.first;
      rest = F.rest;
      whole = rw (append_assoc l (line_feed ∷ lead_text F.lines F.indent) (F.first ∷ F.rest)) (ap {B = List ℕ} (λ r. l ++ (line_feed ∷ r)) F.whole);
      lead = (n, k, F.lead);
      indented = F.indented;
      solid = F.solid;
      here = omega (arith, F.here, length-append l (line_feed ∷ lead_text F.lines F.indent));
    })

token_here : (l : List ℕ) (at b : ℕ) (bs : List ℕ) → AllBlank l × NoFeed l → is_blank b ≡ false → LeadFound l at at (b ∷ bs)
unfolding lead_text
token_here l at b bs k s =
    record { lines = []; indent = l; first = b; rest = bs; whole = refl; lead = tt; indented = k; solid = s; here = refl }

blank_line : (s : Lead) (l : List ℕ) → LineOk s l → (s ≡ Comment → ⊥) → AllBlank l × NoFeed l
blank_line LineStart l h n = rw h (tt, tt)
blank_line InLine l h n = h
blank_line Comment l h n = absurd (n refl)
blank_line Over l h n = absurd h

pub leads_back : (s : Lead) (l : List ℕ) → LineOk s l → (at : ℕ) (bs : List ℕ) → Leads s l at bs
unfolding lead_from
leads_back s l h at [] = inl (omega arith)
leads_back LineStart l h at (b ∷ bs) = go (eqb b line_feed) (is_blank b) (eqb b 99) refl refl refl (λ m k q. leads_back m k q (at + 1) bs)
  where
    no : l ≡ []
    no = h

    go :
        (f t c : Bool) → eqb b line_feed ≡ f → is_blank b ≡ t → eqb b 99 ≡ c → ((m : Lead) (k : List ℕ) → LineOk m k → Leads m k (at + 1) bs)
        → (lead_place (line_step (eqb b line_feed) (is_blank b) (eqb b 99)) at (lead_from (at + 1) (line_step (eqb b line_feed) (is_blank b) (eqb b 99)) bs) ≡ at + suc (length bs))
        ⊎ LeadFound l at (lead_place (line_step (eqb b line_feed) (is_blank b) (eqb b 99)) at (lead_from (at + 1) (line_step (eqb b line_feed) (is_blank b) (eqb b 99)) bs)) (b ∷ bs)
    go true t c e f g later = rw (e, eqb-true b line_feed e, no) (line_closed [] at bs tt (inr tt) (later LineStart [] refl))
    go false true c e f g later = rw (e, f, no) (line_more [] at b bs InLine (later InLine (b ∷ []) ((f, tt), (eqb-false b line_feed e, tt))))
    go false false true e f g later = rw (e, f, g, no) (line_more [] at b bs Comment (later Comment (b ∷ []) (eqb-true b 99 g, (eqb-false b line_feed e, tt))))
    go false false false e f g later = rw (e, f, g, no) (inr (token_here [] at b bs (tt, tt) f))
leads_back InLine l h at (b ∷ bs) = go (eqb b line_feed) (is_blank b) refl refl (λ m k q. leads_back m k q (at + 1) bs)
  where
    go :
        (f t : Bool) → eqb b line_feed ≡ f → is_blank b ≡ t → ((m : Lead) (k : List ℕ) → LineOk m k → Leads m k (at + 1) bs)
        → (lead_place (line_step (eqb b line_feed) (is_blank b) false) at (lead_from (at + 1) (line_step (eqb b line_feed) (is_blank b) false) bs) ≡ at + suc (length bs))
        ⊎ LeadFound l at (lead_place (line_step (eqb b line_feed) (is_blank b) false) at (lead_from (at + 1) (line_step (eqb b line_feed) (is_blank b) false) bs)) (b ∷ bs)
    go true t e f later = rw (e, eqb-true b line_feed e) (line_closed l at bs h.1 (inr h.0) (later LineStart [] refl))
    go false true e f later = rw (e, f) (line_more l at b bs InLine (later InLine (l ++ (b ∷ [])) (all_snoc l b h.0 f, no_snoc l b h.1 (eqb-false b line_feed e))))
    go false false e f later = rw (e, f) (inr (token_here l at b bs h f))
leads_back Comment l h at (b ∷ bs) = go (eqb b line_feed) refl (λ m k q. leads_back m k q (at + 1) bs)
  where
    go :
        (f : Bool) → eqb b line_feed ≡ f → ((m : Lead) (k : List ℕ) → LineOk m k → Leads m k (at + 1) bs)
        → (lead_place (cond (eqb b line_feed) LineStart Comment) at (lead_from (at + 1) (cond (eqb b line_feed) LineStart Comment) bs) ≡ at + suc (length bs))
        ⊎ LeadFound l at (lead_place (cond (eqb b line_feed) LineStart Comment) at (lead_from (at + 1) (cond (eqb b line_feed) LineStart Comment) bs)) (b ∷ bs)
    go true e later = rw (e, eqb-true b line_feed e) (line_closed l at bs h.1 (inl h.0) (later LineStart [] refl))
    go false e later = rw e (line_more l at b bs Comment (later Comment (l ++ (b ∷ [])) (comment_snoc l b h.0, no_snoc l b h.1 (eqb-false b line_feed e))))
leads_back Over l h at (b ∷ bs) = absurd h
