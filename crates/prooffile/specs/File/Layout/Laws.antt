-- A file laid out as 01 says is read to its words, or refused by the bounds in 01's order. Assumes nothing.
use Rattle.std.specs.Prelude.{ℕ, suc, ◌+◌, ◌-◌, ◌*◌, ◌/◌, ◌%◌, ◌≤◌, ◌<◌, ◌≡◌, refl, true, leb, eqb, ℤ, pos, get_or}
use Rattle.std.proofs.Math.Path.{ap, sym}
use Rattle.std.proofs.Common.{◌∙◌, add_assoc, take-append-drop, get_or-append-add, drop_at, drop-drop, of_z, Fits, SFits}
use mathlib.Core.List.{List, [], ◌∷◌, ◌++◌, append_assoc}
use native.Mathlib.Omega.{arith}
use borrow.Author.Tests.{le-leb, lt-leb, eqb-true}
use Rattle.std.proofs.Math.ListN.{length, take, drop, length-append, drop_of_length-le}
use Rattle.std.proofs.Math.Seq.{take_at}
use Rattle.std.specs.Int.{w32}
use mir.ValLaws.{to_z-of_z, of_z-to_z}
use Rattle.qbf.specs.Connectives.{and_both}
use Rattle.formula.specs.Bounds.{proof_bound}
use Rattle.formula.specs.Refusal.{refusal}
use Rattle.formula.specs.declared.refusal.Reason.TheVariants.{Oversized, NoRoom, OtherFormula}
use Rattle.prooffile.specs.File.{number4, number_at, words_of, mark4, mark_at, trailer_start, distance, clause_count, has_trailer, step_bytes, step_count, read, refused, proof_reading}
use Rattle.prooffile.specs.File.Laws.{drop_four, step_bytes_length, step_words_length, bytes_part, read_of, trailer_within, refusal_oversized, refusal_other_formula, refusal_no_room, refusal_none}
use Rattle.prooffile.specs.File.Passed.{Bytes, Trailer}
use Rattle.prooffile.specs.File.Layout.{bytes4, word_bytes, trailer_bytes, file_of}

-- ---- numbers and words

number_bytes : (n : ℕ) → number4 (n % 256) (n / 256 % 256) (n / 65536 % 256) (n / 16777216) ≡ n
unfolding number4
number_bytes n = omega arith

pub words_bytes : (words : List ℤ) → ((i : ℕ) → SFits w32 (get_or words i (pos 0))) → words_of (word_bytes words) ≡ words
unfolding words_of word_bytes bytes4
words_bytes [] h = refl
words_bytes (w ∷ words) h = rw (words_bytes words (λ i. h (suc i)), number_bytes (of_z w32 w), to_z-of_z w32 w (h 0))

pub word_bytes_length : (words : List ℤ) → length (word_bytes words) ≡ 4 * length words
unfolding word_bytes bytes4
word_bytes_length [] = refl
word_bytes_length (w ∷ words) = omega (arith, word_bytes_length words)

-- ---- a trailer after any bytes

number_after : (xs ys : List ℕ) (k : ℕ) → number_at (xs ++ ys) (length xs + k) ≡ number_at ys k
unfolding number_at
number_after xs ys k = simp (add_assoc, get_or-append-add)

mark_after : (xs ys : List ℕ) (k : ℕ) → mark_at (xs ++ ys) (length xs + k) ≡ mark_at ys k
unfolding mark_at
mark_after xs ys k = simp (add_assoc, get_or-append-add)

module _ (before : List ℕ) (d count : ℕ) where
  pub file_length : length (before ++ trailer_bytes d count) ≡ length before + 12
  unfolding trailer_bytes bytes4
  file_length = length-append before (trailer_bytes d count)

  file_start : (k : ℕ) → trailer_start (before ++ trailer_bytes d count) + k ≡ length before + k
  file_start k = let e = file_length in omega arith

  pub file_distance : distance (before ++ trailer_bytes d count) ≡ d
  unfolding trailer_bytes bytes4 number_at
  file_distance =
      let s : trailer_start (before ++ trailer_bytes d count) ≡ length before + 0 = let e = file_length in omega arith in
      ap (number_at (before ++ trailer_bytes d count)) s ∙ number_after before (trailer_bytes d count) 0 ∙ number_bytes d

  pub file_count : clause_count (before ++ trailer_bytes d count) ≡ count
  unfolding trailer_bytes bytes4 number_at
  file_count = ap (number_at (before ++ trailer_bytes d count)) (file_start 4) ∙ number_after before (trailer_bytes d count) 4 ∙ number_bytes count

  file_mark : mark_at (before ++ trailer_bytes d count) (trailer_start (before ++ trailer_bytes d count) + 8) ≡ true
  unfolding trailer_bytes bytes4 mark_at mark4
  file_mark = ap (mark_at (before ++ trailer_bytes d count)) (file_start 8) ∙ mark_after before (trailer_bytes d count) 8

  -- A distance that is a multiple of 4 and does not pass the start.
  pub file_trailer : d % 4 ≡ 0 → d ≤ length before → has_trailer (before ++ trailer_bytes d count) ≡ true
  file_trailer m h =
      let l = file_length in
      let e = file_distance in
      trailer_within (before ++ trailer_bytes d count) (omega arith) file_mark (ap (λ n. n % 4) e ∙ m)
      ∙ le-leb (distance (before ++ trailer_bytes d count)) (trailer_start (before ++ trailer_bytes d count)) (omega arith)

-- ---- a file laid out as 01 says

module _ (note : List ℕ) (words : List ℤ) (count : ℕ) where
  file_split : file_of note words count ≡ (note ++ word_bytes words) ++ trailer_bytes (4 * length words) count
  unfolding file_of
  file_split = sym (append_assoc note (word_bytes words) (trailer_bytes (4 * length words) count))

  pub file_of_distance : distance (file_of note words count) ≡ 4 * length words
  file_of_distance = rw file_split (file_distance (note ++ word_bytes words) (4 * length words) count)

  pub file_of_steps : step_count (file_of note words count) ≡ length words
  file_of_steps = let e = file_of_distance in omega arith

  pub file_of_count : clause_count (file_of note words count) ≡ count
  file_of_count = rw file_split (file_count (note ++ word_bytes words) (4 * length words) count)

  pub file_of_trailer : has_trailer (file_of note words count) ≡ true
  file_of_trailer =
      let l : length (note ++ word_bytes words) ≡ length note + 4 * length words = length-append note (word_bytes words) ∙ ap (λ n. length note + n) (word_bytes_length words) in
      rw file_split (file_trailer (note ++ word_bytes words) (4 * length words) count (omega arith) (omega arith))

  pub file_of_length : length (file_of note words count) ≡ length note + 4 * length words + 12
  file_of_length =
      let e = file_length (note ++ word_bytes words) (4 * length words) count in
      let l = length-append note (word_bytes words) in
      let w = word_bytes_length words in
      ap length file_split ∙ omega arith

  file_of_bytes : step_bytes (file_of note words count) ≡ word_bytes words
  unfolding file_of
  file_of_bytes =
      let t = trailer_bytes (4 * length words) count in
      let d = file_of_distance in
      let l = file_of_length in
      let s : length note ≡ trailer_start (file_of note words count) - distance (file_of note words count) = omega arith in
      rw (drop_at note (word_bytes words ++ t) _ s, take_at (word_bytes words) t _ (word_bytes_length words ∙ sym d))

  -- More words than 1,048,576: 2, whatever C and room are.
  pub layout_oversized : proof_bound < length words → (other room : ℕ) → proof_reading (file_of note words count) other room ≡ refused (refusal Oversized 0)
  unfolding proof_reading
  layout_oversized h other room =
      let e = file_of_steps in
      rw (refusal_oversized (file_of note words count) other room file_of_trailer (lt-leb (step_count (file_of note words count)) proof_bound (omega arith)))

  module _ (bounded : length words ≤ proof_bound) where
    steps_bounded : leb (step_count (file_of note words count)) proof_bound ≡ true
    steps_bounded = let e = file_of_steps in le-leb (step_count (file_of note words count)) proof_bound (omega arith)

    -- Another C: 12, whatever the room is.
    pub layout_other_formula : (other room : ℕ) → (count ≡ other → ⊥) → proof_reading (file_of note words count) other room ≡ refused (refusal OtherFormula 0)
    unfolding proof_reading
    layout_other_formula other room n =
        rw (refusal_other_formula (file_of note words count) other room file_of_trailer steps_bounded (λ e. n (sym file_of_count ∙ e)))

    -- Less room than words: 3.
    pub layout_no_room : (room : ℕ) → room < length words → proof_reading (file_of note words count) count room ≡ refused (refusal NoRoom 0)
    unfolding proof_reading
    layout_no_room room h =
        let e = file_of_steps in
        rw (refusal_no_room (file_of note words count) count room file_of_trailer steps_bounded file_of_count (omega arith))

    -- Else the words are read.
    pub layout_read : (room : ℕ) → length words ≤ room → ((i : ℕ) → SFits w32 (get_or words i (pos 0))) → proof_reading (file_of note words count) count room ≡ read words
    unfolding proof_reading
    layout_read room h fits =
        let e = file_of_steps in
        rw (refusal_none (file_of note words count) count room file_of_trailer steps_bounded file_of_count (omega arith), file_of_bytes, words_bytes words fits)

-- ---- a file that is read is laid out so

mod_256 : (x m : ℕ) → x < 256 → (x + 256 * m) % 256 ≡ x
mod_256 x m h = omega arith

div_256 : (x m : ℕ) → x < 256 → (x + 256 * m) / 256 ≡ m
div_256 x m h = omega arith

div_65536 : (x m : ℕ) → x < 65536 → (x + 65536 * m) / 65536 ≡ m
div_65536 x m h = omega arith

number_back : (a b c d : ℕ) → a < 256 → b < 256 → c < 256 → d < 256 → bytes4 (number4 a b c d) ≡ a ∷ b ∷ c ∷ d ∷ []
unfolding bytes4 number4
number_back a b c d ha hb hc hd =
    let n = a + 256 * b + 65536 * c + 16777216 * d in
    let e : n ≡ a + 256 * (b + 256 * (c + 256 * d)) = omega arith in
    let f : n ≡ (a + 256 * b) + 65536 * (c + 256 * d) = omega arith in
    let n₀ : n % 256 ≡ a = ap (λ m. m % 256) e ∙ mod_256 a (b + 256 * (c + 256 * d)) ha in
    let n₁ : n / 256 % 256 ≡ b = ap (λ m. m / 256 % 256) e ∙ ap (λ m. m % 256) (div_256 a (b + 256 * (c + 256 * d)) ha) ∙ mod_256 b (c + 256 * d) hb in
    let n₂ : n / 65536 % 256 ≡ c = ap (λ m. m / 65536 % 256) f ∙ ap (λ m. m % 256) (div_65536 (a + 256 * b) (c + 256 * d) (omega arith)) ∙ mod_256 c d hc in
    let n₃ : n / 16777216 ≡ d = omega arith in
    rw (n₀, n₁, n₂, n₃)

words_back : (bytes : List ℕ) → Bytes bytes → (n : ℕ) → length bytes ≡ 4 * n → word_bytes (words_of bytes) ≡ bytes
unfolding words_of word_bytes number4
words_back [] h n l = refl
words_back (a ∷ []) h n l = absurd (omega arith)
words_back (a ∷ b ∷ []) h n l = absurd (omega arith)
words_back (a ∷ b ∷ c ∷ []) h n l = absurd (omega arith)
words_back (a ∷ b ∷ c ∷ d ∷ bytes) h n l =
    let fits : Fits w32 (number4 a b c d) = let ha = h 0 in let hb = h 1 in let hc = h 2 in let hd = h 3 in record { fits = omega arith } in
    ap (λ m. bytes4 m ++ word_bytes (words_of bytes)) (of_z-to_z w32 (number4 a b c d) fits)
    ∙ ap (λ l. l ++ word_bytes (words_of bytes)) (number_back a b c d (h 0) (h 1) (h 2) (h 3))
    ∙ ap (λ l. a ∷ b ∷ c ∷ d ∷ l) (words_back bytes (λ i. h (suc (suc (suc (suc i))))) (n - 1) (omega arith))

module _ (file : List ℕ) (at : ℕ) (within : at + 4 ≤ length file) where
  number_there : Bytes file → drop at file ≡ bytes4 (number_at file at) ++ drop (at + 4) file
  unfolding number_at
  number_there h =
      drop_four file at within
      ∙ ap (λ l. l ++ drop (at + 4) file) (sym (number_back (get_or file at 0) (get_or file (at + 1) 0) (get_or file (at + 2) 0) (get_or file (at + 3) 0) (h at) (h (at + 1)) (h (at + 2)) (h (at + 3))))

  mark_there : mark_at file at ≡ true → drop at file ≡ (0x51 ∷ 0x44 ∷ 0x52 ∷ 0x31 ∷ []) ++ drop (at + 4) file
  unfolding mark_at mark4
  mark_there m =
      let last = and_both _ (eqb (get_or file (at + 3) 0) 0x31) m in
      let third = and_both _ (eqb (get_or file (at + 2) 0) 0x52) last.0 in
      let first = and_both (eqb (get_or file at 0) 0x51) (eqb (get_or file (at + 1) 0) 0x44) third.0 in
      drop_four file at within
      ∙ rw (eqb-true (get_or file at 0) 0x51 first.0, eqb-true (get_or file (at + 1) 0) 0x44 first.1, eqb-true (get_or file (at + 2) 0) 0x52 third.1, eqb-true (get_or file (at + 3) 0) 0x31 last.1)

module _ (file : List ℕ) (h : Bytes file) (t : Trailer file) where
  trailer_back : drop (trailer_start file) file ≡ trailer_bytes (distance file) (clause_count file)
  unfolding trailer_bytes
  trailer_back =
      let at = trailer_start file in
      let l = t.long in
      let e : at + 4 + 4 ≡ at + 8 = omega arith in
      let none_left : drop (at + 8 + 4) file ≡ [] = drop_of_length-le file {i = at + 8 + 4} (omega arith) in
      number_there file at (omega arith) h
      ∙ ap (λ l. bytes4 (distance file) ++ l)
      (number_there file (at + 4) (omega arith) h
      ∙ ap (λ l. bytes4 (clause_count file) ++ l)
      (ap (λ k. drop k file) e ∙ mark_there file (at + 8) (omega arith) t.marked ∙ ap (λ l. 0x51 ∷ 0x44 ∷ 0x52 ∷ 0x31 ∷ l) none_left))

  -- The note is what stands before the steps.
  pub layout_back : (words : List ℤ) → words ≡ words_of (step_bytes file) → file ≡ file_of (take (trailer_start file - distance file) file) words (clause_count file)
  unfolding file_of
  layout_back words e =
      let s = trailer_start file - distance file in
      let d = distance file in
      let n : 4 * length words ≡ d = let k = ap length e ∙ step_words_length file t in let w = t.whole in omega arith in
      let b : word_bytes words ≡ step_bytes file = ap word_bytes e ∙ words_back (step_bytes file) (bytes_part s d file h) (step_count file) (step_bytes_length file t ∙ t.whole) in
      let r : s + d ≡ trailer_start file = let w = t.within in omega arith in
      sym (take-append-drop s file)
      ∙ ap (λ l. take s file ++ l)
      (sym (take-append-drop d (drop s file))
      ∙ ap (λ l. take d (drop s file) ++ l) (drop-drop d s file ∙ ap (λ k. drop k file) r ∙ trailer_back)
      ∙ rw (b, n))

-- A file is read exactly when it is laid out so: this is the one direction, layout_read the other.
pub read_layout : (file : List ℕ) (count room : ℕ) (words : List ℤ) → Bytes file → proof_reading file count room ≡ read words
    → file ≡ file_of (take (trailer_start file - distance file) file) words count
read_layout file count room words h e =
    let r = read_of file count room words e in
    layout_back file h r.passed.trailer words r.are
    ∙ ap (file_of (take (trailer_start file - distance file) file) words) r.passed.same
