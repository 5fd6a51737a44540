-- Texts and what they lay out, by computing: 01's clause on two lines, with the tables that it denotes; CR LF line ends; a header on three lines
-- behind a comment and blanks; two sets on the line of C. The tests that are computed, each with what it shows, come first. The text on two lines
-- and its pieces are in specs/Layout/Examples.antt.
use Rattle.std.specs.Prelude.{ℕ, ◌≤◌, ◌≡◌, refl, Bool, true, false, not, ◌&&◌, ◌||◌, ◌⊎◌, leb, eqb, ℤ, pos, negsuc, nat_abs, length}
use Rattle.std.proofs.lemmas.Bool.{false≢true, not-true, eqb-false}
use Rattle.std.proofs.Common.{inl, inr, arith, leb-true, eqb-true}
use mathlib.Core.List.Memᴰ
use mathlib.Core.List.{List, [], ◌∷◌, ◌++◌, map, flat_map, Memᴰ}
use Rattle.qbf.specs.Connectives.{and_both, or_either}
use Rattle.qbf.specs.Formula.{existential, universal, listed, Distinct}
use Rattle.formula.specs.Bounds.{text_bound}
use Rattle.formula.specs.Decimal.{digits, decimal}
use Rattle.formula.specs.Decode.Laws.{positive_magnitude}
use Rattle.formula.specs.Free.{occurs, passing}
use Rattle.scanner.specs.Position.{line_feed}
use Rattle.formula.specs.Prefix.{words_from}
use Rattle.formula.specs.Prefix.Examples.{e}
use Rattle.formula.specs.Tables.{is_in}
use Rattle.formula.proofs.Theorems.Tables.Laws.{absent_is_in}
use Rattle.formula.specs.Text.Examples.{bytes}
use Rattle.scanner.specs.Token.{is_blank, AllSolid}
use Rattle.formula.specs.Write.{letter_of, literal_text}
use Rattle.layout.specs.Layout.Examples.{piece, set, two_lines, two_lines_sets, two_lines_clauses, two_lines_pieces, TwoLinesTables}
use Rattle.layout.specs.Layout.{AllBlank, Piece, laid, Parted, tokens_in, NoFeed, IsComment, LeadLines, lead_text, QuantifierSet, Sets, Clauses, tokens_of, Layout, entries_of, words_of}

-- Whether pieces are parted, as a test.
test_solid : List ℕ → Bool
test_solid [] = true
test_solid (b ∷ bs) = not (is_blank b) && test_solid bs

test_blanks : List ℕ → Bool
test_blanks [] = true
test_blanks (b ∷ bs) = is_blank b && test_blanks bs

abbrev last_or : List Piece → Bool → Bool
last_or [] more = true
last_or (p ∷ ps) more = more

unfoldable test_parted : List Piece → Bool
test_parted [] = true
test_parted (p ∷ ps) = (leb 1 (length p.token) && test_solid p.token) && (test_blanks p.gap && (last_or ps (leb 1 (length p.gap)) && test_parted ps))

solid_test : (bs : List ℕ) → test_solid bs ≡ true → AllSolid bs
unfolding test_solid
solid_test [] e = tt
solid_test (b ∷ bs) e = let h = and_both (not (is_blank b)) (test_solid bs) e in (not-true (is_blank b) h.0, solid_test bs h.1)

blank_test : (bs : List ℕ) → test_blanks bs ≡ true → AllBlank bs
unfolding test_blanks
blank_test [] e = tt
blank_test (b ∷ bs) e = let h = and_both (is_blank b) (test_blanks bs) e in (h.0, blank_test bs h.1)

last_test : (ps : List Piece) (gap : List ℕ) → last_or ps (leb 1 (length gap)) ≡ true → 1 ≤ length ps → 1 ≤ length gap
last_test [] gap e h = absurd (omega arith)
last_test (p ∷ ps) gap e h = leb-true 1 (length gap) e

parted_test : (ps : List Piece) → test_parted ps ≡ true → Parted ps
unfolding test_parted
parted_test [] e = tt
parted_test (p ∷ ps) e =
    let h = and_both (leb 1 (length p.token) && test_solid p.token) (test_blanks p.gap && (last_or ps (leb 1 (length p.gap)) && test_parted ps)) e in
    let token = and_both (leb 1 (length p.token)) (test_solid p.token) h.0 in
    let gap = and_both (test_blanks p.gap) (last_or ps (leb 1 (length p.gap)) && test_parted ps) h.1 in
    let later = and_both (last_or ps (leb 1 (length p.gap))) (test_parted ps) gap.1 in
    (record { no_blank = solid_test p.token token.1; full = leb-true 1 (length p.token) token.0 }, blank_test p.gap gap.0, last_test ps p.gap later.0, parted_test ps later.1)

-- Whether lines and blanks before the header are as they are to be.
test_no_feed : List ℕ → Bool
test_no_feed [] = true
test_no_feed (b ∷ bs) = not (eqb b line_feed) && test_no_feed bs

abbrev test_comment : List ℕ → Bool
test_comment [] = false
test_comment (b ∷ bs) = eqb b 99

unfoldable test_lines : List (List ℕ) → Bool
test_lines [] = true
test_lines (l ∷ ls) = test_no_feed l && ((test_comment l || test_blanks l) && test_lines ls)

feed_test : (bs : List ℕ) → test_no_feed bs ≡ true → NoFeed bs
unfolding test_no_feed
feed_test [] e = tt
feed_test (b ∷ bs) e = let h = and_both (not (eqb b line_feed)) (test_no_feed bs) e in (eqb-false b line_feed (not-true (eqb b line_feed) h.0), feed_test bs h.1)

comment_test : (l : List ℕ) → test_comment l ≡ true → IsComment l
comment_test [] e = absurd (false≢true e)
comment_test (b ∷ l) e = eqb-true b 99 e

lines_test : (ls : List (List ℕ)) → test_lines ls ≡ true → LeadLines ls
unfolding test_lines
lines_test [] e = tt
lines_test (l ∷ ls) e =
    let h = and_both (test_no_feed l) ((test_comment l || test_blanks l) && test_lines ls) e in
    let k = and_both (test_comment l || test_blanks l) (test_lines ls) h.1 in
    (feed_test l h.0, either (or_either (test_comment l) (test_blanks l) k.0), lines_test ls k.1)
  where
    either : (test_comment l ≡ true) ⊎ (test_blanks l ≡ true) → IsComment l ⊎ AllBlank l
    either (inl q) = inl (comment_test l q)
    either (inr q) = inr (blank_test l q)

-- Whether all of a list pass a test; so whether sets list variables, and clauses literals. Whether numbers are different.
unfoldable test_all : {A : Type 0} → (A → Bool) → List A → Bool
test_all test [] = true
test_all test (x ∷ xs) = test x && test_all test xs

all_test : {A : Type 0} (test : A → Bool) (xs : List A) → test_all test xs ≡ true → (x : A) → Memᴰ x xs → test x ≡ true
unfolding test_all
all_test test [] e x m = absurd (Memᴰ.not-nil m)
all_test test (y ∷ xs) e x m = let h = and_both (test y) (test_all test xs) e in go (Memᴰ.cases_cons m) h.0 (all_test test xs h.1 x)
  where
    go : (x ≡ y) ⊎ Memᴰ x xs → test y ≡ true → (Memᴰ x xs → test x ≡ true) → test x ≡ true
    go (inl q) h later = rw q h
    go (inr k) h later = later k

unfoldable test_sets : List QuantifierSet → Bool
test_sets [] = true
test_sets (s ∷ sets) = leb 1 (length s.variables) && (test_all (leb 1) s.variables && test_sets sets)

sets_test : (sets : List QuantifierSet) → test_sets sets ≡ true → Sets sets
unfolding test_sets
sets_test [] e = tt
sets_test (s ∷ sets) e =
    let h = and_both (leb 1 (length s.variables)) (test_all (leb 1) s.variables && test_sets sets) e in
    let k = and_both (test_all (leb 1) s.variables) (test_sets sets) h.1 in
    (leb-true 1 (length s.variables) h.0, λ n m. leb-true 1 n (all_test (leb 1) s.variables k.0 n m), sets_test sets k.1)

abbrev test_clause : List ℤ → Bool
test_clause C = test_all (λ (w : ℤ). leb 1 (nat_abs w)) C

clauses_test : (Cs : List (List ℤ)) → test_all test_clause Cs ≡ true → Clauses Cs
clauses_test Cs e C m w k = positive_magnitude w (leb-true 1 (nat_abs w) (all_test (λ (u : ℤ). leb 1 (nat_abs u)) C (all_test test_clause Cs e C m) w k))

unfoldable test_distinct : List ℕ → Bool
test_distinct [] = true
test_distinct (x ∷ xs) = not (is_in x xs) && test_distinct xs

distinct_test : (xs : List ℕ) → test_distinct xs ≡ true → Distinct xs
unfolding test_distinct
distinct_test [] e = tt
distinct_test (x ∷ xs) e = let h = and_both (not (is_in x xs)) (test_distinct xs) e in (absent_is_in x xs (not-true (is_in x xs) h.0), distinct_test xs h.1)

-- A layout, all tests passed.
layout_of :
    (v : ℕ) (sets : List QuantifierSet) (Cs : List (List ℤ)) (lines : List (List ℕ)) (indent : List ℕ) (pieces : List Piece)
    → test_lines lines ≡ true → (test_blanks indent && test_no_feed indent) ≡ true → test_parted pieces ≡ true → test_sets sets ≡ true → test_all test_clause Cs ≡ true
    → tokens_in pieces ≡ tokens_of v sets Cs → Layout (lead_text lines indent ++ laid pieces) v sets Cs
layout_of v sets Cs lines indent pieces a b d f g e =
    let i = and_both (test_blanks indent) (test_no_feed indent) b in
    record {
      in_text_lem =
          record {
            lines = lines;
            indent = indent;
            pieces = pieces;
            lead = lines_test lines a;
            indented = (blank_test indent i.0, feed_test indent i.1);
            parted = parted_test pieces d;
            whole = refl;
            its_tokens = e;
          };
      its_sets = sets_test sets f;
      its_clauses = clauses_test Cs g;
    }

-- A clause over two lines is one clause.
pub two_lines_lem : Layout two_lines 2 two_lines_sets two_lines_clauses
unfolding bytes piece laid lead_text digits decimal flat_map letter_of literal_text test_parted test_lines test_solid test_blanks test_no_feed test_sets test_all is_blank
two_lines_lem =
    layout_of 2 two_lines_sets two_lines_clauses [] []
    two_lines_pieces
    refl refl refl refl refl refl

-- The tables that this text denotes.
pub two_lines_tables : TwoLinesTables
unfolding bytes flat_map test_all test_distinct is_in occurs passing words_from
two_lines_tables =
    record {
      v = 2;
      sets = two_lines_sets;
      clauses = two_lines_clauses;
      layout = two_lines_lem;
      regular =
          record {
            listed_range = λ n m. leb-true n 2 (all_test (λ (k : ℕ). leb k 2) (listed (entries_of two_lines_sets)) refl n m);
            literal_range = λ w m. leb-true (nat_abs w) 2 (all_test (λ (u : ℤ). leb (nat_abs u) 2) (words_of two_lines_clauses) refl w m);
            listed_once = distinct_test (listed (entries_of two_lines_sets)) refl;
            once_in_clause = λ C m. distinct_test (map nat_abs C) (all_test (λ (D : List ℤ). test_distinct (map nat_abs D)) two_lines_clauses refl C m);
          };
      fits =
          record {
            short = leb-true (length two_lines) text_bound refl;
            variables = omega arith;
            count = omega arith;
            words = omega arith;
            clause_room = omega arith;
            prefix_room = omega arith;
          };
      its_prefix = refl;
      its_words = refl;
      its_count = refl;
    }

-- CR LF line ends, and a universal set.
pub carriage_returns : Layout (bytes "p cnf 1 1\r\na 1 0\r\n-1 0\r\n") 1 (set universal (1 ∷ []) ∷ []) ((negsuc 0 ∷ []) ∷ [])
unfolding bytes piece laid lead_text digits decimal flat_map letter_of literal_text test_parted test_lines test_solid test_blanks test_no_feed test_sets test_all is_blank
carriage_returns =
    layout_of 1 (set universal (1 ∷ []) ∷ []) ((negsuc 0 ∷ []) ∷ []) [] []
    (piece "p" " " ∷ piece "cnf" " " ∷ piece "1" " " ∷ piece "1" "\r\n"
    ∷ piece "a" " " ∷ piece "1" " " ∷ piece "0" "\r\n"
    ∷ piece "-1" " " ∷ piece "0" "\r\n"
    ∷ [])
    refl refl refl refl refl refl

-- A comment and a line of blanks, then a header on three lines, and nothing behind the last token: the one clause is empty.
pub header_on_lines : Layout (bytes "c by hand\n \t\n p\ncnf 0\n1\t0") 0 [] ([] ∷ [])
unfolding bytes piece laid lead_text digits decimal flat_map letter_of literal_text test_parted test_lines test_solid test_blanks test_no_feed test_sets test_all is_blank
header_on_lines =
    layout_of 0 [] ([] ∷ []) (bytes "c by hand" ∷ bytes " \t" ∷ []) (bytes " ")
    (piece "p" "\n" ∷ piece "cnf" " " ∷ piece "0" "\n" ∷ piece "1" "\t" ∷ piece "0" "" ∷ [])
    refl refl refl refl refl refl

-- Two sets of one letter, and a clause, on the line of C.
pub all_on_one_line : Layout (bytes "p cnf 3 1 e 1 0 e 3 0 -3 1 0") 3 (set existential (1 ∷ []) ∷ set existential (3 ∷ []) ∷ []) ((negsuc 2 ∷ pos 1 ∷ []) ∷ [])
unfolding bytes piece laid lead_text digits decimal flat_map letter_of literal_text test_parted test_lines test_solid test_blanks test_no_feed test_sets test_all is_blank
all_on_one_line =
    layout_of 3 (set existential (1 ∷ []) ∷ set existential (3 ∷ []) ∷ []) ((negsuc 2 ∷ pos 1 ∷ []) ∷ []) [] []
    (piece "p" " " ∷ piece "cnf" " " ∷ piece "3" " " ∷ piece "1" " "
    ∷ piece "e" " " ∷ piece "1" " " ∷ piece "0" " " ∷ piece "e" " " ∷ piece "3" " " ∷ piece "0" " "
    ∷ piece "-3" " " ∷ piece "1" " " ∷ piece "0" ""
    ∷ [])
    refl refl refl refl refl refl
