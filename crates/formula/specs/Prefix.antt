-- The prefix table as entries (02, P6): three words an entry, its variable, its quantifier, 1 existential and 2 universal, and its block.
-- Everything else speaks of the entries; the check of tables alone judges the words. Laws are in Prefix/Laws.antt, examples in
-- Prefix/Examples.antt.
pub mod Laws
pub mod Examples
use Rattle.std.specs.Prelude.{ℕ, zero, suc, ◌+◌, ◌*◌, ◌≤◌, ◌≡◌, Bool, true, false, cond, ◌&&◌, ◌||◌, length, get_or, set, take, drop, leb, eqb, ℤ, pos}
use mathlib.Core.List.{List, [], ◌∷◌, Memᴰ}
use Rattle.qbf.specs.Formula.{Quantifier, existential, universal, Entry, entry, Prefix}
use Rattle.formula.specs.Bounds.{variable_bound}
use Rattle.formula.specs.Word.{ordinal}
use Rattle.formula.specs.declared.refusal.Blocker.{Blocker}
use Rattle.formula.specs.declared.prefix.Entry.{Entry as EntryShown}
use Rattle.formula.specs.declared.prefix.Entry.TheVariants.{Existential, Universal}

-- 1 for existential, 2 for universal; and back.
abbrev pub quantifier_number : Quantifier → ℕ
quantifier_number existential = 1
quantifier_number universal = 2

abbrev pub quantifier_as : ℕ → Quantifier
quantifier_as n = cond (eqb n 2) universal existential

-- The entries of the words, three words each; blocks say nothing that the entries do not. What is left over of one or two words is none.
unfoldable pub prefix_of : List ℤ → Prefix
prefix_of [] = []
prefix_of (v ∷ []) = []
prefix_of (v ∷ q ∷ []) = []
prefix_of (v ∷ q ∷ b ∷ ws) = entry (ordinal v) (quantifier_as (ordinal q)) ∷ prefix_of ws

-- The block of an entry of the quantifier q behind one of the quantifier `last` in the block b; before the first entry both are 0.
-- Neighbours of one quantifier share a block, the next quantifier starts a new one, blocks count from 1.
abbrev pub next_block : (last b q : ℕ) → ℕ
next_block last b q = cond (eqb q last) b (b + 1)

-- Each entry's variable and block.
unfoldable pub blocks_from : (last b : ℕ) → Prefix → List Blocker
blocks_from last b [] = []
blocks_from last b (x ∷ P) =
    record { variable = record { 0 = x.variable }; block = next_block last b (quantifier_number x.quantifier) }
    ∷ blocks_from (quantifier_number x.quantifier) (next_block last b (quantifier_number x.quantifier)) P

abbrev pub with_blocks : Prefix → List Blocker
with_blocks P = blocks_from 0 0 P

-- The words of entries.
unfoldable pub words_from : (last b : ℕ) → Prefix → List ℤ
words_from last b [] = []
words_from last b (x ∷ P) =
    pos x.variable ∷ pos (quantifier_number x.quantifier) ∷ pos (next_block last b (quantifier_number x.quantifier))
    ∷ words_from (quantifier_number x.quantifier) (next_block last b (quantifier_number x.quantifier)) P

abbrev pub prefix_words : Prefix → List ℤ
prefix_words P = words_from 0 0 P

-- The words are those of entries, blocks included.
abbrev pub IsTable : List ℤ → Type 0
IsTable ws = prefix_words (prefix_of ws) ≡ ws

-- How many entries there are, the entry at a place, and the table of the entries after the first.
abbrev pub entry_count : List ℤ → ℕ
entry_count ws = length (prefix_of ws)

abbrev pub entry_at : List ℤ → ℕ → Entry
entry_at ws place = get_or (prefix_of ws) place (entry 0 existential)

unfoldable pub later_entries : List ℤ → List ℤ
later_entries ws = drop 3 ws

-- The variable v is listed with this quantifier.
abbrev pub is_quantifier : Quantifier → Quantifier → Bool
is_quantifier existential existential = true
is_quantifier existential universal = false
is_quantifier universal existential = false
is_quantifier universal universal = true

unfoldable pub quantifies : Quantifier → Prefix → ℕ → Bool
quantifies q [] v = false
quantifies q (x ∷ P) v = (is_quantifier q x.quantifier && eqb x.variable v) || quantifies q P v

-- How many words so many entries have; the first n entries of a table.
unfoldable pub entry_words : ℕ → ℕ
entry_words n = 3 * n

unfoldable pub entries_in : List ℤ → ℕ → Prefix
entries_in ws n = prefix_of (take (entry_words n) ws)

-- An entry put into a table behind n entries, with its block: whether it has room there, and the table then.
unfoldable pub entry_fits : (room n : ℕ) → Bool
entry_fits room n = leb (entry_words (suc n)) room

unfoldable pub put_entry : List ℤ → ℕ → Entry → (block : ℕ) → List ℤ
put_entry ws n x b =
    set (set (set ws (entry_words n) (pos x.variable)) (entry_words n + 1) (pos (quantifier_number x.quantifier))) (entry_words n + 2) (pos b)

-- Words moved on by so many.
abbrev pub Moved : (used by : ℕ) (table table' : List ℤ) → Type 0
Moved used by table table' = take used (drop by table') ≡ take used table

-- An entry as the code has it.
abbrev pub quantifier_of : Bool → Quantifier
quantifier_of true = existential
quantifier_of false = universal

abbrev pub shown_by : Quantifier → ℕ → EntryShown
shown_by existential v = Existential (record { 0 = v })
shown_by universal v = Universal (record { 0 = v })

abbrev pub entry_shown : Entry → EntryShown
entry_shown x = shown_by x.quantifier x.variable

-- Each entry is of a variable in range; so it is in a table: what the readers of a prefix that passed the check ask.
abbrev pub AllRanged : Prefix → Type 0
AllRanged P = (x : Entry) → Memᴰ x P → (1 ≤ x.variable) × (x.variable ≤ variable_bound)

pub record Entries (ws : List ℤ) : Type 0 where
  pub ranged : AllRanged (prefix_of ws)
