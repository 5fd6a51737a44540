-- Records of a prefix under the check, by their words: what a table lists with one more of them, before a place and from one on; and the check
-- so far: the refusal of the whole prefix is that of the records to come, the marks being those of the variables before. Assumes nothing.
use Rattle.std.specs.Prelude.{Ok}
use Rattle.formula.specs.declared.tables.LastEntry.{LastEntry}
use Prim.Native.Nat.{ℕ, suc, ◌+◌, ◌/◌, ◌%◌, ◌≤◌, ◌<◌}
use mathlib.Core.Path.{◌≡◌, refl, ap, sym, ◌∙◌}
use mathlib.Core.Bool.{◌||◌, or_comm}
use mathlib.Core.Option.{none, some}
use mathlib.Core.List.{List, [], ◌∷◌, ◌++◌, append-nil}
use native.Mathlib.Omega.{arith}
use lib.ListN.{length, get_or, take, drop, length-drop, take-append-drop}
use lib.Seq.{drop-cons, length-take-le, take-add}
use lib.Dec.{eqb}
use lib.IntN.{ℤ, pos}
use Rattle.formula.specs.Word.{ordinal}
use Rattle.formula.specs.Prefix.{prefix_of, quantifier_as, next_block, entry_words}
use Rattle.formula.specs.Prefix.Laws.{prefix_append}
use Rattle.formula.specs.Tables.{is_in, variable_word, quantifier_word, block_word, prefix_refusal, listed_in}
use Rattle.formula.specs.Tables.Scan.{Listing, Lists, EntryStep}
use Rattle.formula.proofs.Theorems.Text.Sets.Laws.{listed_snoc}
use Rattle.formula.specs.declared.refusal.Refusal.{Refusal}

drop_record : (ws : List ℤ) (at : ℕ) → at + 2 < length ws → drop at ws ≡ get_or ws at (pos 0) ∷ get_or ws (at + 1) (pos 0) ∷ get_or ws (at + 2) (pos 0) ∷ drop (at + 3) ws
drop_record ws at h =
    let one : at + 1 ≡ suc at = omega arith in
    let two : at + 2 ≡ suc (suc at) = omega arith in
    let three : at + 3 ≡ suc (suc (suc at)) = omega arith in
    rw (one, two, three, drop-cons ws at (pos 0) (omega arith), drop-cons ws (suc at) (pos 0) (omega arith), drop-cons ws (suc (suc at)) (pos 0) (omega arith))

-- A record is judged word by word.
pub record_judged :
    (ws : List ℤ) (at : ℕ) → at + 2 < length ws → (seen : List ℕ) (last block : ℕ)
    → prefix_refusal at seen last block (drop at ws)
    ≡ variable_word at seen (ordinal (get_or ws at (pos 0)))
    (quantifier_word (at + 1) (ordinal (get_or ws (at + 1) (pos 0)))
    (block_word (at + 2) (ordinal (get_or ws (at + 2) (pos 0))) (next_block last block (ordinal (get_or ws (at + 1) (pos 0))))
    (prefix_refusal (at + 3) (ordinal (get_or ws at (pos 0)) ∷ seen) (ordinal (get_or ws (at + 1) (pos 0))) (next_block last block (ordinal (get_or ws (at + 1) (pos 0)))) (drop (at + 3) ws))))
unfolding prefix_refusal
record_judged ws at h seen last block = rw (drop_record ws at h)

-- One or two words are left over, or none.
short : (us : List ℤ) → length us < 3 → (at last block : ℕ) (seen : List ℕ) → (prefix_refusal at seen last block us ≡ none) × (prefix_of us ≡ [])
unfolding prefix_refusal prefix_of
short [] h at last block seen = (refl, refl)
short (v ∷ []) h at last block seen = (refl, refl)
short (v ∷ q ∷ []) h at last block seen = (refl, refl)
short (v ∷ q ∷ c ∷ us) h at last block seen = absurd (omega arith)

-- What the records before a place list: with one more of them, and with all.
module _ (ws : List ℤ) (at : ℕ) (threes : at % 3 ≡ 0) where
  entries_before : at ≤ length ws → (us : List ℤ) → prefix_of (take at ws ++ us) ≡ prefix_of (take at ws) ++ prefix_of us
  unfolding entry_words
  entries_before l us = prefix_append (at / 3) (take at ws) us (length-take-le at ws l ∙ omega arith)

  pub listed_before : at + 2 < length ws → (v : ℕ) → listed_in (take (at + 3) ws) v ≡ (listed_in (take at ws) v || eqb v (ordinal (get_or ws at (pos 0))))
  unfolding prefix_of
  listed_before h v =
      rw (take-add at 3 ws, drop_record ws at h, entries_before (omega arith) (get_or ws at (pos 0) ∷ get_or ws (at + 1) (pos 0) ∷ get_or ws (at + 2) (pos 0) ∷ []))
      (listed_snoc v (prefix_of (take at ws)) (ordinal (get_or ws at (pos 0))) (quantifier_as (ordinal (get_or ws (at + 1) (pos 0)))))

  entries_all : at ≤ length ws → length ws ≤ at + 2 → prefix_of ws ≡ prefix_of (take at ws)
  entries_all l h =
      ap prefix_of (sym (take-append-drop at ws))
      ∙ entries_before l (drop at ws)
      ∙ rw (short (drop at ws) (rw (length-drop at ws) (omega arith)) 0 0 0 []).1 (append-nil (prefix_of (take at ws)))

-- The check so far.
pub record PrefixSoFar (ws : List ℤ) (marks : List ℕ) (at : ℕ) (last : LastEntry) : Type 0 where
  pub within : at ≤ length ws
  pub threes : at % 3 ≡ 0
  pub low : last.block ≤ at
  pub listing : Listing (take at ws) marks
  pub seen : List ℕ
  pub lists : Lists (take at ws) seen
  pub same : prefix_refusal 0 [] 0 0 ws ≡ prefix_refusal at seen last.quantifier last.block (drop at ws)

pub prefix_begins : (ws : List ℤ) (marks : List ℕ) → Listing [] marks → PrefixSoFar ws marks 0 (record { quantifier = 0; block = 0 })
unfolding is_in prefix_of
prefix_begins ws marks m =
    record { within = omega arith; threes = refl; low = omega arith; listing = m; seen = []; lists = record { says = λ v. refl }; same = refl }

module _ {ws : List ℤ} {marks : List ℕ} {at : ℕ} {last : LastEntry} (I : PrefixSoFar ws marks at last) where
  pub prefix_refuses : {r : Refusal} → ((seen : List ℕ) → Lists (take at ws) seen → prefix_refusal at seen last.quantifier last.block (drop at ws) ≡ some r) → prefix_refusal 0 [] 0 0 ws ≡ some r
  prefix_refuses s = I.same ∙ s I.seen I.lists

  pub prefix_goes_on : at + 2 < length ws → (next : LastEntry) (marks' : List ℕ) → EntryStep ws at last (Ok next) marks' → PrefixSoFar ws marks' (at + 3) next
  unfolding is_in
  prefix_goes_on h next marks' s =
      record {
        within = omega arith;
        threes = omega (arith, I.threes);
        low = omega (arith, s.2, I.low);
        listing = s.1;
        seen = ordinal (get_or ws at (pos 0)) ∷ I.seen;
        lists = record { says = λ v. rw (I.lists.says v) (or_comm (eqb v (ordinal (get_or ws at (pos 0)))) (listed_in (take at ws) v) ∙ sym (listed_before ws at I.threes h v)) };
        same = I.same ∙ s.0 I.seen I.lists;
      }

  pub prefix_ends : length ws ≤ at + 2 → (prefix_refusal 0 [] 0 0 ws ≡ none) × Listing ws marks
  prefix_ends h =
      let s = short (drop at ws) (omega (arith, length-drop at ws, I.within)) at last.quantifier last.block I.seen in
      let e = entries_all ws at I.threes I.within h in
      (I.same ∙ s.0, record { size = I.listing.size; says = λ k v l u. rw e (I.listing.says k v l u) })
