-- Tokens of a text from its first token on: those of pieces, and pieces for every such text. Assumes nothing.
use Rattle.std.specs.Prelude.{ℕ, suc, ◌+◌, ◌≤◌, ◌≡◌, refl, Bool, true, false, List, [], ◌∷◌, ◌++◌, map, length}
use Rattle.std.proofs.Common.{ap, ◌∙◌, append_assoc, append-nil, arith}
use Rattle.scanner.specs.Token.{is_blank, AllSolid, IsRun, Token, emit, tokens_from}
use Rattle.layout.specs.Layout.{AllBlank, Piece, laid, Parted, tokens_in}

abbrev pub bytes_of : List Token → List (List ℕ)
bytes_of ts = map (λ (t : Token). t.bytes) ts

-- Bytes that are read so far as a token, and what follows: blanks and then pieces.
abbrev join_first : List ℕ → List Piece → List (List ℕ)
join_first bytes [] = bytes ∷ []
join_first bytes (p ∷ ps) = (bytes ++ p.token) ∷ tokens_in ps

abbrev attach : List ℕ → (gap : List ℕ) → List Piece → List (List ℕ)
attach [] gap ps = tokens_in ps
attach (b ∷ bytes) [] ps = join_first (b ∷ bytes) ps
attach (b ∷ bytes) (g ∷ gap) ps = (b ∷ bytes) ∷ tokens_in ps

-- Any bytes are blanks and then pieces, and their tokens are the pieces'.
pub record Split (bs : List ℕ) : Type 0 where
  pub gap : List ℕ
  pub pieces : List Piece
  pub whole : bs ≡ gap ++ laid pieces
  pub blank : AllBlank gap
  pub parted : Parted pieces
  pub its_tokens : (at : ℕ) (bytes : List ℕ) → bytes_of (tokens_from at bytes bs) ≡ attach bytes gap pieces

-- One byte more in front: a blank, or one of a token.
emit_bytes : (at : ℕ) (bytes : List ℕ) (later : List Token) → 1 ≤ length bytes → bytes_of (emit at bytes later) ≡ bytes ∷ bytes_of later
emit_bytes at [] later h = absurd (omega arith)
emit_bytes at (b ∷ bytes) later h = refl

split_blank : (b : ℕ) (bs : List ℕ) → is_blank b ≡ true → Split bs → Split (b ∷ bs)
unfolding tokens_from
split_blank b bs e S =
    record {
      gap = b ∷ S.gap;
      pieces = S.pieces;
      whole = ap {B = List ℕ} (λ r. b ∷ r) S.whole;
      blank = (e, S.blank);
      parted = S.parted;
      its_tokens = λ at bytes. rw e (go at bytes (S.its_tokens (at + 1) []));
    }
  where
    go : (at : ℕ) (bytes : List ℕ) → bytes_of (tokens_from (at + 1) [] bs) ≡ tokens_in S.pieces → bytes_of (emit at bytes (tokens_from (at + 1) [] bs)) ≡ attach bytes (b ∷ S.gap) S.pieces
    go at [] h = h
    go at (x ∷ bytes) h = ap {B = List (List ℕ)} (λ r. (x ∷ bytes) ∷ r) h

-- The pieces with a byte before them that is no blank.
abbrev start_with : ℕ → (gap : List ℕ) → List Piece → List Piece
start_with b [] [] = record { token = b ∷ []; gap = [] } ∷ []
start_with b [] (p ∷ ps) = record { token = b ∷ p.token; gap = p.gap } ∷ ps
start_with b (g ∷ gap) ps = record { token = b ∷ []; gap = g ∷ gap } ∷ ps

one_solid : (b : ℕ) → is_blank b ≡ false → IsRun (b ∷ [])
one_solid b e = record { no_blank = (e, tt); full = omega arith }

start_whole : (b : ℕ) (gap : List ℕ) (ps : List Piece) → b ∷ (gap ++ laid ps) ≡ [] ++ laid (start_with b gap ps)
unfolding laid
start_whole b [] [] = refl
start_whole b [] (p ∷ ps) = refl
start_whole b (g ∷ gap) ps = refl

start_parted : (b : ℕ) (gap : List ℕ) (ps : List Piece) → is_blank b ≡ false → AllBlank gap → Parted ps → Parted (start_with b gap ps)
start_parted b [] [] e a h = (one_solid b e, tt, λ l. absurd (omega arith), tt)
start_parted b [] (p ∷ ps) e a h = (record { no_blank = (e, h.0.no_blank); full = omega arith }, h.1, h.2, h.3)
start_parted b (g ∷ gap) ps e a h = (one_solid b e, a, λ l. omega arith, h)

-- The same tokens, by whether bytes of a token stand before.
start_attached : (b : ℕ) (bytes gap : List ℕ) (ps : List Piece) → attach (bytes ++ (b ∷ [])) gap ps ≡ attach bytes [] (start_with b gap ps)
start_attached b [] [] [] = refl
start_attached b [] [] (p ∷ ps) = refl
start_attached b [] (g ∷ gap) ps = refl
start_attached b (x ∷ bytes) [] [] = refl
start_attached b (x ∷ bytes) [] (p ∷ ps) = ap {B = List (List ℕ)} (λ r. (x ∷ r) ∷ tokens_in ps) (append_assoc bytes (b ∷ []) p.token)
start_attached b (x ∷ bytes) (g ∷ gap) ps = refl

split_solid : (b : ℕ) (bs : List ℕ) → is_blank b ≡ false → Split bs → Split (b ∷ bs)
unfolding tokens_from
split_solid b bs e S =
    record {
      gap = [];
      pieces = start_with b S.gap S.pieces;
      whole = ap {B = List ℕ} (λ r. b ∷ r) S.whole ∙ start_whole b S.gap S.pieces;
      blank = tt;
      parted = start_parted b S.gap S.pieces e S.blank S.parted;
      its_tokens = λ at bytes. rw e (S.its_tokens (at + 1) (bytes ++ (b ∷ [])) ∙ start_attached b bytes S.gap S.pieces);
    }

split_nothing : Split []
unfolding tokens_from laid
split_nothing =
    record {
      gap = [];
      pieces = [];
      whole = refl;
      blank = tt;
      parted = tt;
      its_tokens = λ at bytes. go at bytes;
    }
  where
    go : (at : ℕ) (bytes : List ℕ) → bytes_of (emit at bytes []) ≡ attach bytes [] []
    go at [] = refl
    go at (b ∷ bytes) = refl

pub split : (bs : List ℕ) → Split bs
split [] = split_nothing
split (b ∷ bs) = go (is_blank b) refl (split bs)
  where
    go : (t : Bool) → is_blank b ≡ t → Split bs → Split (b ∷ bs)
    go true e S = split_blank b bs e S
    go false e S = split_solid b bs e S

-- The tokens of pieces.
solid_tokens : (at : ℕ) (before bytes rest : List ℕ) → AllSolid bytes → bytes_of (tokens_from at before (bytes ++ rest)) ≡ bytes_of (tokens_from (at + length bytes) (before ++ bytes) rest)
unfolding tokens_from
solid_tokens at before [] rest a = let z : at + 0 ≡ at = omega arith in rw (append-nil before, z)
solid_tokens at before (b ∷ bytes) rest a =
    let k : at + 1 + length bytes ≡ at + suc (length bytes) = omega arith in
    rw a.0 (solid_tokens (at + 1) (before ++ (b ∷ [])) bytes rest a.1 ∙ rw (append_assoc before (b ∷ []) bytes, k))

blank_tokens : (at : ℕ) (gap rest : List ℕ) → AllBlank gap → bytes_of (tokens_from at [] (gap ++ rest)) ≡ bytes_of (tokens_from (at + length gap) [] rest)
unfolding tokens_from
blank_tokens at [] rest a = let z : at + 0 ≡ at = omega arith in rw z
blank_tokens at (g ∷ gap) rest a =
    let k : at + 1 + length gap ≡ at + suc (length gap) = omega arith in
    rw a.0 (blank_tokens (at + 1) gap rest a.1 ∙ rw k)

-- A token that a blank, or the end, follows.
run_tokens :
    (at : ℕ) (bytes gap rest : List ℕ) → 1 ≤ length bytes → AllBlank gap → (1 ≤ length rest → 1 ≤ length gap)
    → bytes_of (tokens_from at bytes (gap ++ rest)) ≡ bytes ∷ bytes_of (tokens_from (at + length gap) [] rest)
unfolding tokens_from
run_tokens at bytes [] [] l a h = emit_bytes at bytes [] l
run_tokens at bytes [] (r ∷ rest) l a h = absurd (omega (arith, h (omega arith)))
run_tokens at bytes (g ∷ gap) rest l a h =
    let k : at + 1 + length gap ≡ at + suc (length gap) = omega arith in
    rw a.0 (emit_bytes at bytes (tokens_from (at + 1) [] (gap ++ rest)) l ∙ ap {B = List (List ℕ)} (λ r. bytes ∷ r) (blank_tokens (at + 1) gap rest a.1 ∙ rw k))

laid_some : (ps : List Piece) → Parted ps → 1 ≤ length (laid ps) → 1 ≤ length ps
unfolding laid
laid_some [] h l = absurd (omega arith)
laid_some (p ∷ ps) h l = omega arith

pub laid_tokens : (at : ℕ) (ps : List Piece) → Parted ps → bytes_of (tokens_from at [] (laid ps)) ≡ tokens_in ps
unfolding tokens_from laid
laid_tokens at [] h = refl
laid_tokens at (p ∷ ps) h =
    solid_tokens at [] p.token (p.gap ++ laid ps) h.0.no_blank
    ∙ run_tokens (at + length p.token) p.token p.gap (laid ps) h.0.full h.1 (λ l. h.2 (laid_some ps h.3 l))
    ∙ ap {B = List (List ℕ)} (λ r. p.token ∷ r) (laid_tokens (at + length p.token + length p.gap) ps h.3)
