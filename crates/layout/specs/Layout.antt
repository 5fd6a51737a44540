-- What a formula's text is (01, "Formula text"), apart from the reader: no state, and no order of tests. A text is comment lines and blanks,
-- then tokens parted by blanks: the header's, those of the quantifier sets, those of the clauses (`Layout`). It is read where its numbers are as 01
-- has them (`Regular`) and within bounds and room (`Fits`), and then to the tables that it lays out; no other text is read. These are
-- `layout_read` and `read_layout` of Layout/Laws.antt. Sentences in quotation marks are 01's.
pub mod Examples
pub mod Pieces
pub mod Lead
pub mod Numbers
pub mod Reads
pub mod Laid
pub mod Laws
use Rattle.std.specs.Prelude.{ℕ, ◌≤◌, ◌≡◌, true, ◌⊎◌, ℤ, pos, nat_abs, length}
use mathlib.Core.List.{List, [], ◌∷◌, ◌++◌, map, flat_map, Memᴰ}
use Rattle.qbf.specs.Formula.{Quantifier, entry, Prefix, listed, Distinct}
use Rattle.formula.specs.Bounds.{variable_bound, count_bound, matrix_bound, text_bound}
use Rattle.formula.specs.Decimal.{decimal}
use Rattle.formula.specs.Free.{completed}
use Rattle.scanner.specs.Position.{line_feed}
use Rattle.formula.specs.Prefix.{prefix_words}
use Rattle.scanner.specs.Token.{is_blank, IsRun, p_text, cnf_text}
use Rattle.formula.specs.Write.{letter_of, literal_text}

-- "Tokens are parted by space, tab, CR or LF." Bytes that are blanks alone.
abbrev pub AllBlank : List ℕ → Type 0
AllBlank [] = Unit {0}
AllBlank (b ∷ bs) = (is_blank b ≡ true) × AllBlank bs

-- A token, and the blanks behind it.
pub record Piece : Type 0 where
  pub token : List ℕ
  pub gap : List ℕ

unfoldable pub laid : List Piece → List ℕ
laid [] = []
laid (p ∷ ps) = p.token ++ (p.gap ++ laid ps)

-- A token is a run of bytes without a blank (IsRun); only behind the last one may there be no blank.
abbrev pub Parted : List Piece → Type 0
Parted [] = Unit {0}
Parted (p ∷ ps) = IsRun p.token × AllBlank p.gap × (1 ≤ length ps → 1 ≤ length p.gap) × Parted ps

-- "A line end closes nothing." Blanks part tokens and stand for nothing, LF among them.
abbrev pub tokens_in : List Piece → List (List ℕ)
tokens_in [] = []
tokens_in (p ∷ ps) = p.token ∷ tokens_in ps

-- "Lines whose first byte is `c` are comments, up to LF or the text's end, only before the header's `p`." A line before the header, without its
-- LF, is a comment (99 is `c`) or holds blanks alone; one that the text's end closes leaves no header.
abbrev pub NoFeed : List ℕ → Type 0
NoFeed [] = Unit {0}
NoFeed (b ∷ bs) = (b ≡ line_feed → ⊥) × NoFeed bs

abbrev pub IsComment : List ℕ → Type 0
IsComment [] = ⊥
IsComment (b ∷ bs) = b ≡ 99

abbrev pub LeadLines : List (List ℕ) → Type 0
LeadLines [] = Unit {0}
LeadLines (l ∷ ls) = NoFeed l × (IsComment l ⊎ AllBlank l) × LeadLines ls

-- Such lines, each closed by LF, and the blanks that the header's line begins with.
unfoldable pub lead_text : List (List ℕ) → List ℕ → List ℕ
lead_text [] indent = indent
lead_text (l ∷ ls) indent = l ++ (line_feed ∷ lead_text ls indent)

-- The text has these tokens, in this order, and none beside: lines and blanks, then pieces.
pub record HasTokens (text : List ℕ) (tokens : List (List ℕ)) : Type 0 where
  pub lines : List (List ℕ)
  pub indent : List ℕ
  pub pieces : List Piece
  pub lead : LeadLines lines
  pub indented : AllBlank indent × NoFeed indent
  pub parted : Parted pieces
  pub whole : text ≡ lead_text lines indent ++ laid pieces
  pub its_tokens : tokens_in pieces ≡ tokens

-- "quantifier sets (`a` or `e`, positive numbers, 0)", "Neighbouring sets of one letter, and a universal last set, are accepted."
pub record QuantifierSet : Type 0 where
  pub quantifier : Quantifier
  pub variables : List ℕ

abbrev pub set_tokens : QuantifierSet → List (List ℕ)
set_tokens s = (letter_of s.quantifier ∷ []) ∷ (map decimal s.variables ++ (decimal 0 ∷ []))

abbrev pub Sets : List QuantifierSet → Type 0
Sets [] = Unit {0}
Sets (s ∷ sets) = (1 ≤ length s.variables) × ((n : ℕ) → Memᴰ n s.variables → 1 ≤ n) × Sets sets

-- "Clause words are literals, every clause closed by 0." "A number is 0, or an optional minus and digits that start with 1 to 9."
abbrev pub clause_tokens : List ℤ → List (List ℕ)
clause_tokens C = map literal_text C ++ (decimal 0 ∷ [])

abbrev pub Clauses : List (List ℤ) → Type 0
Clauses Cs = (C : List ℤ) → Memᴰ C Cs → (w : ℤ) → Memᴰ w C → w ≡ pos 0 → ⊥

-- "Then `p cnf V C`, quantifier sets .., then clauses." C is how many clauses there are.
abbrev pub tokens_of : (v : ℕ) → List QuantifierSet → List (List ℤ) → List (List ℕ)
tokens_of v sets Cs = p_text ∷ cnf_text ∷ decimal v ∷ decimal (length Cs) ∷ (flat_map set_tokens sets ++ flat_map clause_tokens Cs)

-- The text lays out V, these sets and these clauses.
pub record Layout (text : List ℕ) (v : ℕ) (sets : List QuantifierSet) (Cs : List (List ℤ)) : Type 0 where
  pub in_text_lem : HasTokens text (tokens_of v sets Cs)
  pub its_sets : Sets sets
  pub its_clauses : Clauses Cs

-- The entries that sets list, in order; the words of clauses.
abbrev pub set_entries : QuantifierSet → Prefix
set_entries s = map (λ (n : ℕ). entry n s.quantifier) s.variables

abbrev pub entries_of : List QuantifierSet → Prefix
entries_of sets = flat_map set_entries sets

abbrev pub closed : List ℤ → List ℤ
closed C = C ++ (pos 0 ∷ [])

abbrev pub words_of : List (List ℤ) → List ℤ
words_of Cs = flat_map closed Cs

-- The prefix table that the text denotes: the sets' entries, and before them the variables that no set binds (02, P2). An entry is three words,
-- its variable, quantifier and block (02, P6). Neighbours of one quantifier share a block, so sets of one letter that follow one another do.
abbrev pub prefix_of_sets : (v : ℕ) → List QuantifierSet → List (List ℤ) → List ℤ
prefix_of_sets v sets Cs = prefix_words (completed v (entries_of sets) (words_of Cs))

-- No variable is above V (5), listed again (6), or twice in a clause, whatever its signs (8).
pub record Regular (v : ℕ) (sets : List QuantifierSet) (Cs : List (List ℤ)) : Type 0 where
  pub listed_range : (n : ℕ) → Memᴰ n (listed (entries_of sets)) → n ≤ v
  pub literal_range : (w : ℤ) → Memᴰ w (words_of Cs) → nat_abs w ≤ v
  pub listed_once : Distinct (listed (entries_of sets))
  pub once_in_clause : (C : List ℤ) → Memᴰ C Cs → Distinct (map nat_abs C)

-- "at most 1,024 variables, numbered 1 to 1,024; 8,192 input clauses; 65,536 clause words; .. 1,048,576 bytes of text" (2), and the room
-- lent, in words (3).
pub record Fits (text : List ℕ) (v : ℕ) (sets : List QuantifierSet) (Cs : List (List ℤ)) (prefixRoom clauseRoom : ℕ) : Type 0 where
  pub short : length text ≤ text_bound
  pub variables : v ≤ variable_bound
  pub count : length Cs ≤ count_bound
  pub words : length (words_of Cs) ≤ matrix_bound
  pub clause_room : length (words_of Cs) ≤ clauseRoom
  pub prefix_room : length (prefix_of_sets v sets Cs) ≤ prefixRoom

-- A text that is laid out so, and the tables that it denotes.
pub record LaidOut (text : List ℕ) (prefix words : List ℤ) (count prefixRoom clauseRoom : ℕ) : Type 0 where
  pub v : ℕ
  pub sets : List QuantifierSet
  pub clauses : List (List ℤ)
  pub layout : Layout text v sets clauses
  pub regular : Regular v sets clauses
  pub fits : Fits text v sets clauses prefixRoom clauseRoom
  pub its_prefix : prefix ≡ prefix_of_sets v sets clauses
  pub its_words : words ≡ words_of clauses
  pub its_count : count ≡ length clauses
