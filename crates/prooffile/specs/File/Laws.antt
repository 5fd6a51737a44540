-- Laws of the reading of a proof file: what a trailer says, what a file that is read says of its words, how words are read one
-- by one, and what the table of steps holds at the end. Assumes nothing.
use Rattle.std.specs.Prelude.{Ok, Err}
use Rattle.std.specs.Prelude.{ℕ, zero, suc, ◌+◌, ◌-◌, ◌*◌, ◌/◌, ◌%◌, ◌≤◌, ◌<◌, ◌≡◌, refl, Bool, true, false, ◌&&◌, List, [], ◌∷◌, ◌++◌, leb, eqb, ℤ, pos, get_or, take, drop, set, replicate}
use Rattle.std.proofs.Common.{ap, sym, ◌∙◌, append_assoc, append-nil, arith, add-one, length-take, length-drop, take-append-drop, drop_of_length-le, drop-cons, take-suc-set, take_at, get_or-drop, to_z, SFits}
use Rattle.std.proofs.Math.Option.{Option, none, some}
use Rattle.std.proofs.Math.Numerals.{add-two, add-three, add-four}
use borrow.Author.Tests.{leb-true, eqb-true, eqb-false, le-leb, lt-leb, eq-eqb, ne_eqb}
use Rattle.std.proofs.Math.ListN.{length}
use Rattle.std.specs.Int.{w32}
use mir.ValLaws.{to_z-Fits}
use Rattle.qbf.specs.Connectives.{and_both}
use Rattle.formula.specs.Bounds.{proof_bound}
use Rattle.formula.specs.Clear.Laws.{clear_append}
use Rattle.formula.specs.Clear.{clear_from}
use Rattle.formula.specs.Refusal.{refusal}
use Rattle.formula.specs.declared.refusal.Reason.TheVariants.{Oversized, NoRoom, NoTrailer, OtherFormula}
use Rattle.formula.specs.declared.refusal.Refusal.{Refusal}
use Rattle.formula.specs.Refusal.Laws.{require_none}
use Rattle.prooffile.specs.File.{number4, word4, number_at, words_of, mark4, mark_at, trailer_start, distance, clause_count, has_trailer, step_bytes, step_count, proof_refusal, ProofReading, read, refused, unless_refused, proof_reading, proof_answer, length_answer, step_table, ProofRead}
use Rattle.prooffile.specs.File.Passed.{Bytes, Trailer, Passed, Counted, ReadFile, StepsRead}

-- ---- the trailer

pub trailer_of : (file : List ℕ) → has_trailer file ≡ true → Trailer file
unfolding has_trailer
trailer_of file e =
    let last = and_both _ (leb (distance file) (trailer_start file)) e in
    let third = and_both _ (eqb (distance file % 4) 0) last.0 in
    let first = and_both (leb 12 (length file)) (mark_at file (trailer_start file + 8)) third.0 in
    let m : distance file % 4 ≡ 0 = eqb-true _ _ third.1 in
    record { long = leb-true _ _ first.0; marked = first.1; whole = omega arith; within = leb-true _ _ last.1 }

module _ (file : List ℕ) where
  pub trailer_short : length file < 12 → has_trailer file ≡ false
  unfolding has_trailer
  trailer_short h = rw (lt-leb 12 (length file) h)

  module _ (long : 12 ≤ length file) where
    pub trailer_unmarked : mark_at file (trailer_start file + 8) ≡ false → has_trailer file ≡ false
    unfolding has_trailer
    trailer_unmarked m = rw (le-leb 12 (length file) long, m)

    module _ (m : mark_at file (trailer_start file + 8) ≡ true) where
      pub trailer_uneven : (distance file % 4 ≡ 0 → ⊥) → has_trailer file ≡ false
      unfolding has_trailer
      trailer_uneven n = rw (le-leb 12 (length file) long, m, ne_eqb (distance file % 4) 0 n)

      pub trailer_within : distance file % 4 ≡ 0 → has_trailer file ≡ leb (distance file) (trailer_start file)
      unfolding has_trailer
      trailer_within e = rw (le-leb 12 (length file) long, m, eq-eqb (distance file % 4) 0 e)

-- ---- the refusals

pub length_answer_read : (o : Option Refusal) (n m : ℕ) → length_answer o n ≡ Ok m → (o ≡ none) × (n ≡ m)
length_answer_read none n m e = (refl, cc)
length_answer_read (some r) n m e = let z : ◌≡◌ {A = ℕ} 0 1 = cc in absurd (omega arith)

pub length_answer_refused : (o : Option Refusal) (n : ℕ) (r : Refusal) → length_answer o n ≡ Err r → o ≡ some r
length_answer_refused none n r e = let z : ◌≡◌ {A = ℕ} 0 1 = cc in absurd (omega arith)
length_answer_refused (some s) n r e = ap some (cc)

-- Each refusal, the tests ahead of it being passed.
module _ (file : List ℕ) (count room : ℕ) where
  pub refusal_no_trailer : has_trailer file ≡ false → proof_refusal file count room ≡ some (refusal NoTrailer 0)
  unfolding proof_refusal
  refusal_no_trailer t = rw t

  module _ (t : has_trailer file ≡ true) where
    pub refusal_oversized : leb (step_count file) proof_bound ≡ false → proof_refusal file count room ≡ some (refusal Oversized 0)
    unfolding proof_refusal
    refusal_oversized b = rw (t, b)

    module _ (b : leb (step_count file) proof_bound ≡ true) where
      pub refusal_other_formula : (clause_count file ≡ count → ⊥) → proof_refusal file count room ≡ some (refusal OtherFormula 0)
      unfolding proof_refusal
      refusal_other_formula n = rw (t, b, ne_eqb (clause_count file) count n)

      module _ (e : clause_count file ≡ count) where
        pub refusal_no_room : room < step_count file → proof_refusal file count room ≡ some (refusal NoRoom 0)
        unfolding proof_refusal
        refusal_no_room h = rw (t, b, eq-eqb (clause_count file) count e, lt-leb (step_count file) room h)

        pub refusal_none : step_count file ≤ room → proof_refusal file count room ≡ none
        unfolding proof_refusal
        refusal_none h = rw (t, b, eq-eqb (clause_count file) count e, le-leb (step_count file) room h)

pub passed_of : (file : List ℕ) (count room : ℕ) → proof_refusal file count room ≡ none → Passed file count room
unfolding proof_refusal
passed_of file count room e =
    let a = require_none (has_trailer file) _ _ e in
    let b = require_none (leb (step_count file) proof_bound) _ _ a.1 in
    let c = require_none (eqb (clause_count file) count) _ _ b.1 in
    let d = require_none (leb (step_count file) room) _ _ c.1 in
    record { trailer = trailer_of file a.0; bounded = leb-true _ _ b.0; same = eqb-true _ _ c.0; fits = leb-true _ _ d.0 }

-- ---- the words

zero_fits : SFits w32 (pos 0)
zero_fits = record { sfits = omega arith }

pub word_fits : (a b c d : ℕ) → a < 256 → b < 256 → c < 256 → d < 256 → SFits w32 (word4 a b c d)
unfolding number4
word_fits a b c d ha hb hc hd = to_z-Fits w32 (number4 a b c d) (record { fits = omega arith })

pub words_length : (bytes : List ℕ) → length (words_of bytes) ≡ length bytes / 4
unfolding words_of
words_length [] = refl
words_length (a ∷ []) = refl
words_length (a ∷ b ∷ []) = refl
words_length (a ∷ b ∷ c ∷ []) = refl
words_length (a ∷ b ∷ c ∷ d ∷ bytes) = omega (arith, words_length bytes)

pub step_bytes_length : (file : List ℕ) → Trailer file → length (step_bytes file) ≡ distance file
step_bytes_length file t = simp (length-take, length-drop) (omega arith)

-- Four bytes at a place, and what follows them.
pub drop_four : (bytes : List ℕ) (at : ℕ) → at + 4 ≤ length bytes
    → drop at bytes ≡ get_or bytes at 0 ∷ get_or bytes (at + 1) 0 ∷ get_or bytes (at + 2) 0 ∷ get_or bytes (at + 3) 0 ∷ drop (at + 4) bytes
drop_four bytes at h =
    simp (add-one, add-two, add-three, add-four)
    (drop-cons bytes at 0 (omega arith)
    ∙ ap (λ l. get_or bytes at 0 ∷ l)
    (drop-cons bytes (suc at) 0 (omega arith)
    ∙ ap (λ l. get_or bytes (suc at) 0 ∷ l)
    (drop-cons bytes (suc (suc at)) 0 (omega arith)
    ∙ ap (λ l. get_or bytes (suc (suc at)) 0 ∷ l) (drop-cons bytes (suc (suc (suc at))) 0 (omega arith)))))

-- The words from a place on: the number there, read as signed, then those from four bytes on.
pub words_at : (bytes : List ℕ) (at : ℕ) → at + 4 ≤ length bytes → words_of (drop at bytes) ≡ to_z w32 (number_at bytes at) ∷ words_of (drop (at + 4) bytes)
unfolding words_of number_at
words_at bytes at h = ap words_of (drop_four bytes at h)

-- One word more is copied.
pub copy_step : (bytes : List ℕ) (steps : List ℤ) (i : ℕ) → 4 * i + 4 ≤ length bytes → i < length steps
    → words_of bytes ≡ take i steps ++ words_of (drop (4 * i) bytes)
    → words_of bytes ≡ take (i + 1) (set steps i (to_z w32 (number_at bytes (4 * i)))) ++ words_of (drop (4 * (i + 1)) bytes)
copy_step bytes steps i h k e =
    let m : 4 * (i + 1) ≡ 4 * i + 4 = omega arith in
    rw (m, add-one i, take-suc-set steps i _ k, append_assoc) (e ∙ ap (λ l. take i steps ++ l) (words_at bytes (4 * i) h))

-- All words are copied.
pub copy_end : (bytes : List ℕ) (n : ℕ) (steps before : List ℤ) → length bytes ≡ 4 * n
    → words_of bytes ≡ take n steps ++ words_of (drop (4 * n) bytes) → drop n steps ≡ drop n before
    → steps ≡ words_of bytes ++ drop n before
unfolding words_of
copy_end bytes n steps before len e d =
    let none_left : drop (4 * n) bytes ≡ [] = drop_of_length-le bytes {i = 4 * n} (omega arith) in
    let e' : words_of bytes ≡ take n steps = e ∙ rw none_left (append-nil (take n steps)) in
    rw (e', ← d) (sym (take-append-drop n steps))

-- ---- the table of steps

-- The words read, and the rest cleared.
pub table_end : (words before : List ℤ) (n : ℕ) → length words ≡ n
    → clear_from (pos 0) n (words ++ drop n before) ≡ words ++ replicate (length before - length words) (pos 0)
table_end words before n e = rw (← e, clear_append (pos 0) words (drop (length words) before), length-drop)

pub step_words_length : (file : List ℕ) → Trailer file → length (words_of (step_bytes file)) ≡ step_count file
step_words_length file t = words_length (step_bytes file) ∙ ap (λ n. n / 4) (step_bytes_length file t)

pub counted_of : (file : List ℕ) (count room n : ℕ) → length_answer (proof_refusal file count room) (step_count file) ≡ Ok n → Counted file count room n
counted_of file count room n e =
    let h = length_answer_read (proof_refusal file count room) (step_count file) n e in
    record { unrefused = h.0; passed = passed_of file count room h.0; steps = h.1 }

module _ (file : List ℕ) (count room n : ℕ) (k : Counted file count room n) where
  pub counted_distance : distance file ≡ 4 * n
  counted_distance = let t = k.passed.trailer in let e = k.steps in omega arith

  -- The part of the file that is read.
  pub counted_bytes : take (trailer_start file - (trailer_start file - 4 * n)) (drop (trailer_start file - 4 * n) file) ≡ step_bytes file
  counted_bytes =
      let t = k.passed.trailer in
      let d = counted_distance in
      let e : trailer_start file - (trailer_start file - 4 * n) ≡ 4 * n = omega arith in
      rw (e, ← d)

module _ (file : List ℕ) (count : ℕ) (before after : List ℤ) where
  pub read_refused : (r : Refusal) → proof_refusal file count (length before) ≡ some r → after ≡ clear_from (pos 0) 0 before
      → ProofRead file count before after (Err r)
  unfolding proof_reading clear_from
  read_refused r e a = record { answer = rw e; steps = rw e (a) }

  pub read_whole : (n : ℕ) → Counted file count (length before) n → after ≡ clear_from (pos 0) n (words_of (step_bytes file) ++ drop n before)
      → ProofRead file count before after (Ok n)
  unfolding proof_reading
  read_whole n k a =
      let l : length (words_of (step_bytes file)) ≡ n = step_words_length file k.passed.trailer ∙ k.steps in
      record
      { answer = rw k.unrefused (ap Ok (sym l)); steps = rw k.unrefused (a ∙ table_end (words_of (step_bytes file)) before n l) }

-- ---- what a caller may use

pub read_of : (file : List ℕ) (count room : ℕ) (words : List ℤ) → proof_reading file count room ≡ read words → ReadFile file count room words
unfolding proof_reading
read_of file count room words e = go (proof_refusal file count room) refl e
  where
    go : (o : Option Refusal) → proof_refusal file count room ≡ o → unless_refused o (words_of (step_bytes file)) ≡ read words → ReadFile file count room words
    go none p q =
        let h = passed_of file count room p in
        let w : words_of (step_bytes file) ≡ words = cc in
        record { passed = h; are = sym w; many = ap length (sym w) ∙ step_words_length file h.trailer }
    go (some r) p q = let z : ◌≡◌ {A = ℕ} 0 1 = cc in absurd (omega arith)

-- The words read are as many as the answer says, and stand at the start of the table.
pub steps_read_lem : (file : List ℕ) (count : ℕ) (before after : List ℤ) (n : ℕ) → ProofRead file count before after (Ok n) → StepsRead file count before after n
steps_read_lem file count before after n p = go (proof_reading file count (length before)) refl p.answer p.steps
  where
    go : (o : ProofReading) → proof_reading file count (length before) ≡ o → Ok n ≡ proof_answer o → after ≡ step_table o (length before) → StepsRead file count before after n
    go (read words) e a t =
        let r = read_of file count (length before) words e in
        let m : length words ≡ n = cc in
        let s = r.many in
        let h = r.passed in
        record {
          words = words;
          reading = e;
          many = m;
          stand = rw t (take_at words (replicate (length before - length words) (pos 0)) n m);
          bounded = omega arith;
          room = omega arith;
        }
    go (refused r) e a t = let z : ◌≡◌ {A = ℕ} 0 1 = cc in absurd (omega arith)

bytes_take : (n : ℕ) (bytes : List ℕ) → Bytes bytes → Bytes (take n bytes)
bytes_take zero bytes h i = omega arith
bytes_take (suc n) [] h i = omega arith
bytes_take (suc n) (b ∷ bytes) h zero = h 0
bytes_take (suc n) (b ∷ bytes) h (suc i) = bytes_take n bytes (λ j. h (suc j)) i

pub bytes_part : (from n : ℕ) (bytes : List ℕ) → Bytes bytes → Bytes (take n (drop from bytes))
bytes_part from n bytes h = bytes_take n (drop from bytes) (λ i. rw (get_or-drop from bytes i 0) (h (from + i)))

-- Each word that bytes write fits 32 bits.
pub words_fit : (bytes : List ℕ) → Bytes bytes → (i : ℕ) → SFits w32 (get_or (words_of bytes) i (pos 0))
unfolding words_of
words_fit [] h i = zero_fits
words_fit (a ∷ []) h i = zero_fits
words_fit (a ∷ b ∷ []) h i = zero_fits
words_fit (a ∷ b ∷ c ∷ []) h i = zero_fits
words_fit (a ∷ b ∷ c ∷ d ∷ bytes) h zero = word_fits a b c d (h 0) (h 1) (h 2) (h 3)
words_fit (a ∷ b ∷ c ∷ d ∷ bytes) h (suc i) = words_fit bytes (λ j. h (suc (suc (suc (suc j))))) i

-- Each word that is read fits 32 bits.
pub read_fits : (file : List ℕ) (count room : ℕ) (words : List ℤ) → Bytes file → proof_reading file count room ≡ read words → (i : ℕ) → SFits w32 (get_or words i (pos 0))
read_fits file count room words h e i =
    rw (read_of file count room words e).are (words_fit (step_bytes file) (bytes_part (trailer_start file - distance file) (distance file) file h) i)

-- The mark as one number.
pub mark_number : (bytes : List ℕ) (at : ℕ) → ((i : ℕ) → get_or bytes i 0 < 256) → eqb (number_at bytes at) 827475025 ≡ mark_at bytes at
unfolding number_at mark_at number4 mark4
mark_number bytes at h = four (get_or bytes at 0) (get_or bytes (at + 1) 0) (get_or bytes (at + 2) 0) (get_or bytes (at + 3) 0) (h at) (h (at + 1)) (h (at + 2)) (h (at + 3))
  where
    four :
        (a b c d : ℕ) → a < 256 → b < 256 → c < 256 → d < 256
        → eqb (a + 256 * b + 65536 * c + 16777216 * d) 827475025 ≡ (eqb a 0x51 && eqb b 0x44 && eqb c 0x52 && eqb d 0x31)
    four a b c d ha hb hc hd = go (eqb (a + 256 * b + 65536 * c + 16777216 * d) 827475025) refl
      where
        go : (t : Bool) → eqb (a + 256 * b + 65536 * c + 16777216 * d) 827475025 ≡ t → t ≡ (eqb a 0x51 && eqb b 0x44 && eqb c 0x52 && eqb d 0x31)
        go true e =
            let n = eqb-true (a + 256 * b + 65536 * c + 16777216 * d) 827475025 e in
            let ed : d ≡ 0x31 = omega arith in
            let ec : c ≡ 0x52 = omega arith in
            let eb : b ≡ 0x44 = omega arith in
            let ea : a ≡ 0x51 = omega arith in
            rw (eq-eqb a 0x51 ea, eq-eqb b 0x44 eb, eq-eqb c 0x52 ec, eq-eqb d 0x31 ed)
        go false e = other (eqb a 0x51 && eqb b 0x44 && eqb c 0x52 && eqb d 0x31) refl
          where
            other : (t : Bool) → (eqb a 0x51 && eqb b 0x44 && eqb c 0x52 && eqb d 0x31) ≡ t → false ≡ t
            other false q = refl
            other true q =
                let n = eqb-false (a + 256 * b + 65536 * c + 16777216 * d) 827475025 e in
                let k = and_both (eqb a 0x51 && eqb b 0x44 && eqb c 0x52) (eqb d 0x31) q in
                let l = and_both (eqb a 0x51 && eqb b 0x44) (eqb c 0x52) k.0 in
                let m = and_both (eqb a 0x51) (eqb b 0x44) l.0 in
                absurd (n (omega (arith, eqb-true a 0x51 m.0, eqb-true b 0x44 m.1, eqb-true c 0x52 l.1, eqb-true d 0x31 k.1)))
