-- The words that a field writes: decimal numbers of 32 bits, repeated words and records, parted by white space. Assumes nothing.
use Rattle.std.specs.Prelude.{ℕ, zero, suc, ◌<◌, ◌%◌, ◌≡◌, Bool, true, false, ◌&&◌, List, [], ◌∷◌, ◌++◌, length, replicate, drop, ℤ, pos, negsuc, nat_abs, if◌then◌else◌, eqb, ltb, codes}
use Rattle.std.specs.List.{starts_with, position_or_len, before_first, after_first}
use Rattle.std.specs.declared.result.Result.TheVariants.{Ok}
use Rattle.std.specs.Bool.{MatchBool}
use Rattle.std.specs.Str.{NoCharPasses, EmptyOrStartsWithPassing}
use Rattle.std.specs.Str.Parse.{ParsesSigned}
use Rattle.std.specs.Char.{is_whitespace, is_not_whitespace}
use Rattle.caselist.specs.Numbers.{Writes}
use mir.Syntax.{w32}

-- The record of a variable: existential in block 1, or, in turn, existential and universal, each in a block of its own.
abbrev pub record_of : ℤ → Bool → List ℤ
record_of v in_turn = v ∷ (if in_turn && eqb (nat_abs v % 2) 0 then pos 2 else pos 1) ∷ (if in_turn then v else pos 1) ∷ []

-- The records of 1, 2, 3 and on to the last.
unfoldable pub records : ℕ → Bool → List ℤ
records zero in_turn = []
records (suc n) in_turn = records n in_turn ++ record_of (pos (suc n)) in_turn

-- The same of a number that may be negative: no record then.
abbrev pub records_to : ℤ → Bool → List ℤ
records_to (pos n) in_turn = records n in_turn
records_to (negsuc n) in_turn = []

-- The text writes the number, which 32 bits hold.
abbrev pub WritesWord : List ℕ → ℤ → Type 0
WritesWord text word = ParsesSigned {E = ℕ} w32 10 text (Ok word)

-- The text writes the last number of these records.
abbrev pub WritesRecords : List ℕ → Bool → List ℤ → Type 0
WritesRecords text in_turn words = (last : ℤ) × WritesWord text last × (words ≡ records_to last in_turn)

-- The second text writes a word, and the first how many times it stands.
abbrev pub WritesRepeated : List ℕ → List ℕ → List ℤ → Type 0
WritesRepeated times text words = (n : ℕ) × (word : ℤ) × Writes times n × WritesWord text word × (words ≡ replicate n word)

-- The token writes these words: the records of `e1..n`, those of `ea1..n` in turn, the word of `n*w` n times, or one word.
abbrev pub TokenWrites : List ℕ → List ℤ → Type 0
TokenWrites token words =
    MatchBool (starts_with eqb token (codes "e1..")) (WritesRecords (drop 4 token) false words)
    (MatchBool (starts_with eqb token (codes "ea1..")) (WritesRecords (drop 5 token) true words)
    (MatchBool (ltb (position_or_len (λ b. eqb b 42) token) (length token))
    (WritesRepeated (before_first (λ b. eqb b 42) token) (after_first (λ b. eqb b 42) token) words)
    ((word : ℤ) × WritesWord token word × (words ≡ word ∷ []))))

-- The text writes these words: those of its tokens, which white space parts.
pub data FieldWrites : List ℕ → List ℤ → Type 0 where
  ended : {text : List ℕ} → NoCharPasses is_not_whitespace text → FieldWrites text []
  token : (gap token rest : List ℕ) (words behind : List ℤ) → NoCharPasses is_not_whitespace gap → 0 < length token → NoCharPasses is_whitespace token
      → ((more : List ℕ) × EmptyOrStartsWithPassing is_whitespace rest more) → TokenWrites token words → FieldWrites rest behind → FieldWrites (gap ++ (token ++ rest)) (words ++ behind)
