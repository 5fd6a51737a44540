-- Laws of the prefix table: how many entries there are, the entry at a place and those after it, entries to words and back, blocks, an
-- entry put behind others, blocks numbered. Definitions: Prefix. Assumes nothing.
use Rattle.std.proofs.Common.{get_or-set_same}
use Rattle.std.proofs.Common.{get_or-set_other}
use Rattle.std.proofs.Common.{get_or-take}
use Rattle.std.proofs.Common.{get_or-drop}
use Rattle.std.proofs.Common.{ext_get_or}
use Rattle.std.proofs.Math.Decide.{ℕ_discrete}
use Rattle.formula.specs.Prefix.{Moved}
use Rattle.std.specs.Prelude.{ℕ, zero, suc, ◌+◌, ◌-◌, ◌*◌, ◌/◌, ◌≤◌, ◌<◌, ◌≡◌, refl, ◌⊎◌, Bool, true, false, cond, ◌&&◌, ◌||◌, get_or, set, take, drop, eqb, ℤ, pos}
use Rattle.std.proofs.Common.{ap, ◌∙◌, inl, inr, le_of_suc-le-suc, not-suc-le-zero, arith, leb-true, le-leb, eqb-true, eq-eqb, length-set, length-drop, drop_of_length-le, drop-cons, drop-set-lt, take-suc-set, take_all, take-add, length-take-le}
use Rattle.std.proofs.Math.Path.{sym}
use Rattle.std.proofs.lemmas.Bool.{false≢true}
use mathlib.Core.List.Memᴰ
use mathlib.Core.List.{List, [], ◌∷◌, ◌++◌, append-nil, append_assoc, Memᴰ}
use Rattle.std.proofs.Math.ListN.{length}
use Rattle.qbf.specs.Formula.{Quantifier, existential, universal, Entry, entry, Prefix}
use Rattle.qbf.specs.Connectives.{and_both, or_either, or_right}
use Rattle.formula.specs.Bounds.{variable_bound}
use Rattle.formula.specs.Word.{word_of, ordinal}
use Rattle.formula.specs.Word.Laws.{ordinal_number}
use Rattle.formula.specs.Refusal.{no_blocker}
use Rattle.formula.specs.Prefix.{quantifier_number, quantifier_as, prefix_of, next_block, blocks_from, with_blocks, words_from, prefix_words, IsTable, entry_count, entry_at, later_entries, entry_words, entries_in, entry_fits, put_entry, entry_shown, quantifier_of, is_quantifier, quantifies, AllRanged, Entries}
use Rattle.formula.specs.declared.literal.Variable.{Variable}
use Rattle.formula.specs.declared.refusal.Blocker.{Blocker}
use Rattle.formula.specs.declared.prefix.Entry.TheVariants.{Existential, Universal}

-- How many words entries have.
pub words_more : (n : ℕ) → entry_words (suc n) ≡ suc (suc (suc (entry_words n)))
unfolding entry_words
words_more n = omega arith

pub words_sum : (m n : ℕ) → entry_words (m + n) ≡ entry_words m + entry_words n
unfolding entry_words
words_sum m n = omega arith

pub words_rise : (m n : ℕ) → m ≤ n → entry_words m ≤ entry_words n
unfolding entry_words
words_rise m n h = omega arith

-- An entry is three words, and what is left over are fewer.
count_within : (ws : List ℤ) → (3 * entry_count ws ≤ length ws) × (length ws < 3 * entry_count ws + 3)
unfolding prefix_of
count_within [] = (omega arith, omega arith)
count_within (v ∷ []) = (omega arith, omega arith)
count_within (v ∷ q ∷ []) = (omega arith, omega arith)
count_within (v ∷ q ∷ b ∷ ws) = let k = count_within ws in (omega (arith, k.0), omega (arith, k.1))

pub entry_count_lem : (ws : List ℤ) → entry_count ws ≡ length ws / 3
entry_count_lem ws = let k = count_within ws in omega (arith, k.0, k.1)

pub entry_words_lem : (ws : List ℤ) → (entry_words (entry_count ws) ≤ length ws) × (length ws < entry_words (entry_count ws) + 3)
unfolding entry_words
entry_words_lem ws = count_within ws

-- Entries to words and back.
from_length : (last b : ℕ) (P : Prefix) → length (words_from last b P) ≡ entry_words (length P)
unfolding words_from entry_words
from_length last b [] = refl
from_length last b (x ∷ P) = omega (arith, from_length (quantifier_number x.quantifier) (next_block last b (quantifier_number x.quantifier)) P)

pub words_length : (P : Prefix) → length (prefix_words P) ≡ entry_words (length P)
words_length P = from_length 0 0 P

number_back : (q : Quantifier) → quantifier_as (ordinal (pos (quantifier_number q))) ≡ q
unfolding ordinal word_of
number_back existential = refl
number_back universal = refl

pub words_entries : (last b : ℕ) (P : Prefix) → AllRanged P → prefix_of (words_from last b P) ≡ P
unfolding words_from prefix_of
words_entries last b [] h = refl
words_entries last b (x ∷ P) h =
    let later = words_entries (quantifier_number x.quantifier) (next_block last b (quantifier_number x.quantifier)) P (λ y m. h y (Memᴰ.tail m)) in
    rw (ordinal_number x.variable (h x (Memᴰ.head refl)).1, number_back x.quantifier, later)

pub prefix_none : prefix_of [] ≡ []
unfolding prefix_of
prefix_none = refl

-- Entries in front, in threes, then others.
pub prefix_append : (n : ℕ) (ws vs : List ℤ) → length ws ≡ entry_words n → prefix_of (ws ++ vs) ≡ prefix_of ws ++ prefix_of vs
unfolding prefix_of entry_words
prefix_append n [] vs h = refl
prefix_append n (v ∷ []) vs h = absurd (omega arith)
prefix_append n (v ∷ q ∷ []) vs h = absurd (omega arith)
prefix_append n (v ∷ q ∷ b ∷ ws) vs h =
    ap {B = Prefix} (λ r. entry (ordinal v) (quantifier_as (ordinal q)) ∷ r) (prefix_append (n - 1) ws vs (omega arith))

-- The entry at a place, then those after it.
pub entries_drop : (ws : List ℤ) (i : ℕ) → i < entry_count ws → drop i (prefix_of ws) ≡ entry_at ws i ∷ drop (suc i) (prefix_of ws)
entries_drop ws i h = drop-cons (prefix_of ws) i (entry 0 existential) h

-- The entries after the first.
pub later_entries_lem : (ws : List ℤ) → prefix_of (later_entries ws) ≡ drop 1 (prefix_of ws)
unfolding prefix_of later_entries
later_entries_lem [] = refl
later_entries_lem (v ∷ []) = refl
later_entries_lem (v ∷ q ∷ []) = refl
later_entries_lem (v ∷ q ∷ b ∷ ws) = refl

pub later_shorter : (ws : List ℤ) → 0 < entry_count ws → length (later_entries ws) < length ws
unfolding later_entries
later_shorter ws h = omega (arith, length-drop 3 ws, entry_count_lem ws)

-- What the code is shown of an entry.
pub shown_existential : (x : Entry) (v : Variable) → entry_shown x ≡ Existential v → x ≡ entry v.0 existential
shown_existential x v e = go x.quantifier refl
  where
    go : (q : Quantifier) → x.quantifier ≡ q → x ≡ entry v.0 existential
    go existential p = let k = rw p at e in let z : x.variable ≡ v.0 = cc in λ i. record { variable = z i; quantifier = p i }
    go universal p = let k = rw p at e in let z : ◌≡◌ {A = ℕ} 0 1 = cc in absurd (omega arith)

pub shown_universal : (x : Entry) (v : Variable) → entry_shown x ≡ Universal v → x ≡ entry v.0 universal
shown_universal x v e = go x.quantifier refl
  where
    go : (q : Quantifier) → x.quantifier ≡ q → x ≡ entry v.0 universal
    go existential p = let k = rw p at e in let z : ◌≡◌ {A = ℕ} 0 1 = cc in absurd (omega arith)
    go universal p = let k = rw p at e in let z : x.variable ≡ v.0 = cc in λ i. record { variable = z i; quantifier = p i }

-- The entry at a place is that of its words, its block the third of them.
pub entry_word_lem : (ws : List ℤ) (i : ℕ) → i < entry_count ws → entry_at ws i ≡ entry (ordinal (get_or ws (3 * i) (pos 0))) (quantifier_as (ordinal (get_or ws (3 * i + 1) (pos 0))))
unfolding prefix_of
entry_word_lem [] i h = absurd (not-suc-le-zero h)
entry_word_lem (v ∷ []) i h = absurd (not-suc-le-zero h)
entry_word_lem (v ∷ q ∷ []) i h = absurd (not-suc-le-zero h)
entry_word_lem (v ∷ q ∷ b ∷ ws) zero h = refl
entry_word_lem (v ∷ q ∷ b ∷ ws) (suc i) h =
    let d : 3 * suc i ≡ suc (suc (suc (3 * i))) = omega arith in
    let k : suc (suc (suc (3 * i))) + 1 ≡ suc (suc (suc (3 * i + 1))) = omega arith in
    rw (d, k) (entry_word_lem ws i (le_of_suc-le-suc h))

block_at : (last b : ℕ) (P : Prefix) (i : ℕ) → i < length P → get_or (words_from last b P) (3 * i + 2) (pos 0) ≡ pos (get_or (blocks_from last b P) i no_blocker).block
unfolding words_from blocks_from
block_at last b [] i h = absurd (not-suc-le-zero h)
block_at last b (x ∷ P) zero h = refl
block_at last b (x ∷ P) (suc i) h =
    let d : 3 * suc i + 2 ≡ suc (suc (suc (3 * i + 2))) = omega arith in
    rw d (block_at (quantifier_number x.quantifier) (next_block last b (quantifier_number x.quantifier)) P i (le_of_suc-le-suc h))

pub entry_block : (ws : List ℤ) → IsTable ws → (i : ℕ) → i < entry_count ws → get_or ws (3 * i + 2) (pos 0) ≡ pos (get_or (with_blocks (prefix_of ws)) i no_blocker).block
entry_block ws t i h = ap (λ (us : List ℤ). get_or us (3 * i + 2) (pos 0)) (sym t) ∙ block_at 0 0 (prefix_of ws) i h

variable_at : (last b : ℕ) (P : Prefix) (i : ℕ) → i < length P → get_or (words_from last b P) (3 * i) (pos 0) ≡ pos (get_or P i (entry 0 existential)).variable
unfolding words_from
variable_at last b [] i h = absurd (not-suc-le-zero h)
variable_at last b (x ∷ P) zero h = refl
variable_at last b (x ∷ P) (suc i) h =
    let d : 3 * suc i ≡ suc (suc (suc (3 * i))) = omega arith in
    rw d (variable_at (quantifier_number x.quantifier) (next_block last b (quantifier_number x.quantifier)) P i (le_of_suc-le-suc h))

quantifier_at : (last b : ℕ) (P : Prefix) (i : ℕ) → i < length P → get_or (words_from last b P) (3 * i + 1) (pos 0) ≡ pos (quantifier_number (get_or P i (entry 0 existential)).quantifier)
unfolding words_from
quantifier_at last b [] i h = absurd (not-suc-le-zero h)
quantifier_at last b (x ∷ P) zero h = refl
quantifier_at last b (x ∷ P) (suc i) h =
    let d : 3 * suc i + 1 ≡ suc (suc (suc (3 * i + 1))) = omega arith in
    rw d (quantifier_at (quantifier_number x.quantifier) (next_block last b (quantifier_number x.quantifier)) P i (le_of_suc-le-suc h))

pub entry_variable : (ws : List ℤ) → IsTable ws → (i : ℕ) → i < entry_count ws → get_or ws (3 * i) (pos 0) ≡ pos (entry_at ws i).variable
entry_variable ws t i h = ap (λ (us : List ℤ). get_or us (3 * i) (pos 0)) (sym t) ∙ variable_at 0 0 (prefix_of ws) i h

pub entry_quantifier : (ws : List ℤ) → IsTable ws → (i : ℕ) → i < entry_count ws → get_or ws (3 * i + 1) (pos 0) ≡ pos (quantifier_number (entry_at ws i).quantifier)
entry_quantifier ws t i h = ap (λ (us : List ℤ). get_or us (3 * i + 1) (pos 0)) (sym t) ∙ quantifier_at 0 0 (prefix_of ws) i h

pub block_variable : (last b : ℕ) (P : Prefix) (i : ℕ) → i < length P → (get_or (blocks_from last b P) i no_blocker).variable.0 ≡ (get_or P i (entry 0 existential)).variable
unfolding blocks_from
block_variable last b [] i h = absurd (not-suc-le-zero h)
block_variable last b (x ∷ P) zero h = refl
block_variable last b (x ∷ P) (suc i) h = block_variable (quantifier_number x.quantifier) (next_block last b (quantifier_number x.quantifier)) P i (le_of_suc-le-suc h)

-- There is one for each entry, with its variable.
pub blocks_length : (last b : ℕ) (P : Prefix) → length (blocks_from last b P) ≡ length P
unfolding blocks_from
blocks_length last b [] = refl
blocks_length last b (x ∷ P) = ap suc (blocks_length (quantifier_number x.quantifier) (next_block last b (quantifier_number x.quantifier)) P)

pub blocks_listed : (last b : ℕ) (P : Prefix) (x : Entry) → Memᴰ x P → (c : Blocker) × Memᴰ c (blocks_from last b P) × (c.variable.0 ≡ x.variable)
unfolding blocks_from
blocks_listed last b [] x m = absurd (Memᴰ.not-nil m)
blocks_listed last b (y ∷ P) x m =
    go (Memᴰ.cases_cons m) (blocks_listed (quantifier_number y.quantifier) (next_block last b (quantifier_number y.quantifier)) P x)
  where
    go :
        (x ≡ y) ⊎ Memᴰ x P
        → (Memᴰ x P → (c : Blocker) × Memᴰ c (blocks_from (quantifier_number y.quantifier) (next_block last b (quantifier_number y.quantifier)) P) × (c.variable.0 ≡ x.variable))
        → (c : Blocker) × Memᴰ c (blocks_from last b (y ∷ P)) × (c.variable.0 ≡ x.variable)
    go (inl e) later = (
      record { variable = record { 0 = y.variable }; block = next_block last b (quantifier_number y.quantifier) },
      Memᴰ.head refl,
      ap (λ (z : Entry). z.variable) (sym e),
    )
    go (inr k) later = let c = later k in (c.0, Memᴰ.tail c.1, c.2)

pub blocks_ranged : (last b : ℕ) (P : Prefix) → AllRanged P → (c : Blocker) → Memᴰ c (blocks_from last b P) → c.variable.0 ≤ variable_bound
unfolding blocks_from
blocks_ranged last b [] r c m = absurd (Memᴰ.not-nil m)
blocks_ranged last b (x ∷ P) r c m =
    go (Memᴰ.cases_cons m)
    (blocks_ranged (quantifier_number x.quantifier) (next_block last b (quantifier_number x.quantifier)) P (λ y k. r y (Memᴰ.tail k)) c)
  where
    first : Blocker
    first = record { variable = record { 0 = x.variable }; block = next_block last b (quantifier_number x.quantifier) }

    go :
        (c ≡ first) ⊎ Memᴰ c (blocks_from (quantifier_number x.quantifier) (next_block last b (quantifier_number x.quantifier)) P)
        → (Memᴰ c (blocks_from (quantifier_number x.quantifier) (next_block last b (quantifier_number x.quantifier)) P) → c.variable.0 ≤ variable_bound)
        → c.variable.0 ≤ variable_bound
    go (inl e) later = let v = (r x (Memᴰ.head refl)).1 in let k : c.variable.0 ≡ x.variable = ap (λ (d : Blocker). d.variable.0) e in omega arith
    go (inr k) later = later k

-- A block is at most one more than the one before.
pub block_bound : (last b q : ℕ) → next_block last b q ≤ b + 1
block_bound last b q = go (eqb q last)
  where
    go : (e : Bool) → cond e b (b + 1) ≤ b + 1
    go true = omega arith
    go false = omega arith

-- The entry at a place is one of them, and in range where all are.
member_at : (P : Prefix) (i : ℕ) → i < length P → Memᴰ (get_or P i (entry 0 existential)) P
member_at [] i h = absurd (not-suc-le-zero h)
member_at (x ∷ P) zero h = Memᴰ.head refl
member_at (x ∷ P) (suc i) h = Memᴰ.tail (member_at P i (le_of_suc-le-suc h))

pub entry_member : (ws : List ℤ) (i : ℕ) → i < entry_count ws → Memᴰ (entry_at ws i) (prefix_of ws)
entry_member ws i h = member_at (prefix_of ws) i h

pub entry_at_ranged : (ws : List ℤ) → Entries ws → (i : ℕ) → i < entry_count ws → (1 ≤ (entry_at ws i).variable) × ((entry_at ws i).variable ≤ variable_bound)
entry_at_ranged ws h i l = h.ranged (entry_at ws i) (entry_member ws i l)

-- An entry put behind others.
pub entry_room : (room n : ℕ) → entry_words (suc n) ≤ room → entry_fits room n ≡ true
unfolding entry_fits
entry_room room n h = le-leb (entry_words (suc n)) room h

pub put_within : (room n : ℕ) → entry_fits room n ≡ true → entry_words (suc n) ≤ room
unfolding entry_fits
put_within room n h = leb-true (entry_words (suc n)) room h

pub put_same : (ws : List ℤ) (n : ℕ) (x : Entry) (b : ℕ) → length (put_entry ws n x b) ≡ length ws
unfolding put_entry
put_same ws n x b = simp length-set refl

pub put_before : (ws : List ℤ) (n : ℕ) (x : Entry) (b k : ℕ) → entry_words (suc n) ≤ k → drop k (put_entry ws n x b) ≡ drop k ws
unfolding put_entry entry_words
put_before ws n x b k h =
    drop-set-lt k _ (3 * n + 2) (pos b) (omega arith)
    ∙ drop-set-lt k _ (3 * n + 1) (pos (quantifier_number x.quantifier)) (omega arith)
    ∙ drop-set-lt k ws (3 * n) (pos x.variable) (omega arith)

-- The three words of an entry.
abbrev record_of : Entry → ℕ → List ℤ
record_of x b = pos x.variable ∷ pos (quantifier_number x.quantifier) ∷ pos b ∷ []

pub put_words : (ws : List ℤ) (n : ℕ) (x : Entry) (b : ℕ) → entry_fits (length ws) n ≡ true → take (entry_words (suc n)) (put_entry ws n x b) ≡ take (entry_words n) ws ++ record_of x b
unfolding put_entry
put_words ws n x b h = go (entry_words n) (entry_words (suc n)) (words_more n) (put_within (length ws) n h)
  where
    go : (k m : ℕ) → m ≡ suc (suc (suc k)) → m ≤ length ws → take m (set (set (set ws k (pos x.variable)) (k + 1) (pos (quantifier_number x.quantifier))) (k + 2) (pos b)) ≡ take k ws ++ record_of x b
    go k m e l =
        let one : k + 1 ≡ suc k = omega arith in
        let two : k + 2 ≡ suc (suc k) = omega arith in
        rw (e, one, two)
        (take-suc-set (set (set ws k (pos x.variable)) (suc k) (pos (quantifier_number x.quantifier))) (suc (suc k)) (pos b) (simp length-set (omega arith))
        ∙ rw (take-suc-set (set ws k (pos x.variable)) (suc k) (pos (quantifier_number x.quantifier)) (simp length-set (omega arith)), take-suc-set ws k (pos x.variable) (omega arith))
        (append_assoc (take k ws ++ (pos x.variable ∷ [])) (pos (quantifier_number x.quantifier) ∷ []) (pos b ∷ [])
        ∙ append_assoc (take k ws) (pos x.variable ∷ []) (pos (quantifier_number x.quantifier) ∷ pos b ∷ [])))

pub put_entries :
    (ws : List ℤ) (n v : ℕ) (q : Quantifier) (b : ℕ) → entry_fits (length ws) n ≡ true → v ≤ variable_bound
    → entries_in (put_entry ws n (entry v q) b) (suc n) ≡ entries_in ws n ++ (entry v q ∷ [])
unfolding entries_in prefix_of
put_entries ws n v q b h l =
    rw (put_words ws n (entry v q) b h)
    (prefix_append n (take (entry_words n) ws) (record_of (entry v q) b) (length-take-le (entry_words n) ws (omega (arith, put_within (length ws) n h, words_more n)))
    ∙ rw (ordinal_number v l, number_back q))

-- So many entries of a table.
pub entries_length : (ws : List ℤ) (n : ℕ) → entry_words n ≤ length ws → length (entries_in ws n) ≡ n
unfolding entries_in entry_words
entries_length ws n h = omega (arith, entry_count_lem (take (3 * n) ws), length-take-le (3 * n) ws h)

pub entries_sum : (ws : List ℤ) (m n : ℕ) → entry_words m ≤ length ws → entries_in ws (m + n) ≡ entries_in ws m ++ prefix_of (take (entry_words n) (drop (entry_words m) ws))
unfolding entries_in
entries_sum ws m n h =
    rw (words_sum m n, take-add (entry_words m) (entry_words n) ws)
    (prefix_append m (take (entry_words m) ws) (take (entry_words n) (drop (entry_words m) ws)) (length-take-le (entry_words m) ws h))

pub entries_none : (ws : List ℤ) → entries_in ws 0 ≡ []
unfolding entries_in entry_words prefix_of
entries_none ws = refl

-- An entry put in its own place leaves the entries as they are.
put_first_lem : (v q b : ℤ) (ws : List ℤ) (x : Entry) (c : ℕ) → put_entry (v ∷ q ∷ b ∷ ws) 0 x c ≡ record_of x c ++ ws
unfolding put_entry entry_words
put_first_lem v q b ws x c = refl

put_later : (v q b : ℤ) (ws : List ℤ) (n : ℕ) (x : Entry) (c : ℕ) → put_entry (v ∷ q ∷ b ∷ ws) (suc n) x c ≡ v ∷ q ∷ b ∷ put_entry ws n x c
unfolding put_entry
put_later v q b ws n x c =
    let one : suc (suc (suc (entry_words n))) + 1 ≡ suc (suc (suc (entry_words n + 1))) = omega arith in
    let two : suc (suc (suc (entry_words n))) + 2 ≡ suc (suc (suc (entry_words n + 2))) = omega arith in
    rw (words_more n, one, two)

pub put_own : (ws : List ℤ) (i c : ℕ) → i < entry_count ws → (entry_at ws i).variable ≤ variable_bound → prefix_of (put_entry ws i (entry_at ws i) c) ≡ prefix_of ws
unfolding prefix_of
put_own [] i c h l = absurd (not-suc-le-zero h)
put_own (v ∷ []) i c h l = absurd (not-suc-le-zero h)
put_own (v ∷ q ∷ []) i c h l = absurd (not-suc-le-zero h)
put_own (v ∷ q ∷ b ∷ ws) zero c h l = rw (put_first_lem v q b ws (entry (ordinal v) (quantifier_as (ordinal q))) c, ordinal_number (ordinal v) l, number_back (quantifier_as (ordinal q)))
put_own (v ∷ q ∷ b ∷ ws) (suc i) c h l =
    rw (put_later v q b ws i (entry_at ws i) c) (ap {B = Prefix} (λ r. entry (ordinal v) (quantifier_as (ordinal q)) ∷ r) (put_own ws i c (le_of_suc-le-suc h) l))

-- Blocks numbered so far: the words of the first i entries stand, and those of the entries to come follow.
pub record NumberedSoFar (table₀ table : List ℤ) (i last block : ℕ) : Type 0 where
  pub left : i ≤ entry_count table₀
  pub same : length table ≡ length table₀
  pub entries : prefix_of table ≡ prefix_of table₀
  pub done : prefix_words (prefix_of table₀) ≡ take (entry_words i) table ++ words_from last block (drop i (prefix_of table₀))
  pub low : block ≤ i

pub number_begins : (table : List ℤ) → NumberedSoFar table table 0 0 0
unfolding entry_words
number_begins table = record { left = omega arith; same = refl; entries = refl; done = refl; low = omega arith }

module _ {table₀ table : List ℤ} {i last block : ℕ} (I : NumberedSoFar table₀ table i last block) where
  pub number_entries : Entries table₀ → Entries table
  number_entries E = record { ranged = rw I.entries E.ranged }

  pub number_count : entry_count table ≡ entry_count table₀
  number_count = ap {B = ℕ} (λ (P : Prefix). length P) I.entries

  -- The next block.
  abbrev due : ℕ
  due = next_block last block (quantifier_number (entry_at table i).quantifier)

  pub number_fits : i < entry_count table → entry_fits (length table) i ≡ true
  unfolding entry_words
  number_fits h = entry_room (length table) i (omega (arith, h, (entry_words_lem table).0))

  -- The entry as the code has it: its variable, and its quantifier by the number.
  pub number_entry : (v k : ℕ) → v ≡ (entry_at table i).variable → k ≡ quantifier_number (entry_at table i).quantifier → entry v (quantifier_of (eqb k 1)) ≡ entry_at table i
  number_entry v k e f = λ j. record { variable = e j; quantifier = (ap (λ n. quantifier_of (eqb n 1)) f ∙ back (entry_at table i).quantifier) j }
    where
      back : (q : Quantifier) → quantifier_of (eqb (quantifier_number q) 1) ≡ q
      back existential = refl
      back universal = refl

  pub number_step :
      i < entry_count table → Entries table
      → NumberedSoFar table₀ (put_entry table i (entry_at table i) due) (suc i) (quantifier_number (entry_at table i).quantifier) due
  unfolding words_from
  number_step h E =
      record {
        left = rw (← I.entries) h;
        same = put_same table i (entry_at table i) due ∙ I.same;
        entries = put_own table i due h (entry_at_ranged table E i h).1 ∙ I.entries;
        done =
            I.done
            ∙ rw (← I.entries, entries_drop table i h, put_words table i (entry_at table i) due (number_fits h))
            (sym (append_assoc (take (entry_words i) table) (record_of (entry_at table i) due) (words_from (quantifier_number (entry_at table i).quantifier) due (drop (suc i) (prefix_of table)))));
        low = omega (arith, I.low, block_bound last block (quantifier_number (entry_at table i).quantifier));
      }

  pub number_ends : length table₀ ≡ entry_words (entry_count table₀) → entry_count table ≤ i → table ≡ prefix_words (prefix_of table₀)
  unfolding words_from
  number_ends whole h =
      let all : i ≡ entry_count table₀ = omega (arith, I.left, number_count) in
      let few : length (prefix_of table₀) ≤ i = omega (arith, all) in
      sym (I.done ∙ rw (drop_of_length-le (prefix_of table₀) few, append-nil, all) (take_all (entry_words (entry_count table₀)) table (omega (arith, I.same, whole))))

-- `quantifies` tests membership.
quantifier_sound : (q r : Quantifier) → is_quantifier q r ≡ true → r ≡ q
quantifier_sound existential existential h = refl
quantifier_sound existential universal h = absurd (false≢true h)
quantifier_sound universal existential h = absurd (false≢true h)
quantifier_sound universal universal h = refl

quantifier_self : (q : Quantifier) → is_quantifier q q ≡ true
quantifier_self existential = refl
quantifier_self universal = refl

pub quantifies_sound : (q : Quantifier) (P : Prefix) (v : ℕ) → quantifies q P v ≡ true → Memᴰ (entry v q) P
unfolding quantifies
quantifies_sound q [] v h = absurd (false≢true h)
quantifies_sound q (x ∷ P) v h = go (or_either (is_quantifier q x.quantifier && eqb x.variable v) (quantifies q P v) h) (λ k. quantifies_sound q P v k)
  where
    go :
        ((is_quantifier q x.quantifier && eqb x.variable v) ≡ true) ⊎ (quantifies q P v ≡ true)
        → (quantifies q P v ≡ true → Memᴰ (entry v q) P) → Memᴰ (entry v q) (x ∷ P)
    go (inl k) later =
        let b = and_both (is_quantifier q x.quantifier) (eqb x.variable v) k in
        let e = eqb-true x.variable v b.1 in
        let p = quantifier_sound q x.quantifier b.0 in
        Memᴰ.head (sym (λ i. record { variable = e i; quantifier = p i }))
    go (inr k) later = Memᴰ.tail (later k)

pub quantifies_complete : (q : Quantifier) (P : Prefix) (v : ℕ) → Memᴰ (entry v q) P → quantifies q P v ≡ true
unfolding quantifies
quantifies_complete q [] v m = absurd (Memᴰ.not-nil m)
quantifies_complete q (x ∷ P) v m = go (Memᴰ.cases_cons m) (λ k. quantifies_complete q P v k)
  where
    go :
        (entry v q ≡ x) ⊎ Memᴰ (entry v q) P → (Memᴰ (entry v q) P → quantifies q P v ≡ true)
        → ((is_quantifier q x.quantifier && eqb x.variable v) || quantifies q P v) ≡ true
    go (inl e) later = rw (← e, quantifier_self q, eq-eqb v v refl)
    go (inr k) later = or_right (is_quantifier q x.quantifier && eqb x.variable v) (quantifies q P v) (later k)

-- Words moved on by so many places, the last one first: those from the place i on are moved.
pub record MovedSoFar (used by : ℕ) (table₀ table : List ℤ) (i : ℕ) : Type 0 where
  pub left : i ≤ used
  pub same : length table ≡ length table₀
  pub before : (k : ℕ) → k < i → get_or table k (pos 0) ≡ get_or table₀ k (pos 0)
  pub after : (k : ℕ) → i ≤ k → k < used → get_or table (by + k) (pos 0) ≡ get_or table₀ k (pos 0)

pub move_begins : (used by : ℕ) (table : List ℤ) → MovedSoFar used by table table used
move_begins used by table = record { left = omega arith; same = refl; before = λ k h. refl; after = λ k h l. absurd (omega arith) }

module _ {used by : ℕ} {table₀ table : List ℤ} (room : by + used ≤ length table₀) where
  pub move_step : {i : ℕ} (j : ℕ) → i ≡ suc j → MovedSoFar used by table₀ table i → MovedSoFar used by table₀ (set table (by + j) (get_or table j (pos 0))) j
  move_step {i} j e M =
      record {
        left = omega (arith, M.left);
        same = length-set table (by + j) (get_or table j (pos 0)) ∙ M.same;
        before = λ k h. get_or-set_other table (by + j) k (get_or table j (pos 0)) (pos 0) (λ q. omega (arith, q, h)) ∙ M.before k (omega (arith, e, h));
        after = λ k h l. after k h l (ℕ_discrete k j);
      }
    where
      after : (k : ℕ) → j ≤ k → k < used → Dec (k ≡ j) → get_or (set table (by + j) (get_or table j (pos 0))) (by + k) (pos 0) ≡ get_or table₀ k (pos 0)
      after k h l (yes q) =
          rw q (get_or-set_same table (by + j) (get_or table j (pos 0)) (pos 0) (omega (arith, M.same, M.left, e, room)) ∙ M.before j (omega (arith, e)))
      after k h l (no q) =
          get_or-set_other table (by + j) (by + k) (get_or table j (pos 0)) (pos 0) (λ r. q (omega (arith, r)))
          ∙ M.after k (omega (arith, h, q, e)) l

  pub move_ends : MovedSoFar used by table₀ table 0 → Moved used by table₀ table
  move_ends M =
      let a : length (take used (drop by table)) ≡ used = length-take-le used (drop by table) (omega (arith, length-drop by table, M.same, room)) in
      let b : length (take used table₀) ≡ used = length-take-le used table₀ (omega (arith, room)) in
      ext_get_or (pos 0) (take used (drop by table)) (take used table₀) (a ∙ sym b)
      (λ k h.
      rw (get_or-take used (drop by table) k (pos 0) (omega (arith, a, h)), get_or-drop by table k (pos 0), get_or-take used table₀ k (pos 0) (omega (arith, a, h)))
      (M.after k (omega arith) (omega (arith, a, h))))
