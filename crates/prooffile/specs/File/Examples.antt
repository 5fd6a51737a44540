-- Readings of 01's proof file, by computation: what is read, the refusals and their order, and 01's example. 2 asks for more than
-- four million bytes, so it is not computed: layout_oversized of Layout/Laws.antt states it for every such file.
use Rattle.std.specs.Prelude.{Ok}
use Rattle.std.specs.Prelude.{ℕ, ◌≡◌, refl, List, [], ◌∷◌, ◌++◌, ℤ, pos, negsuc, length, drop}
use Rattle.formula.specs.Refusal.{refusal}
use Rattle.formula.specs.declared.refusal.Reason.{Reason}
use Rattle.formula.specs.declared.refusal.Reason.TheVariants.{NoRoom, NoTrailer, OtherFormula}
use Rattle.prooffile.specs.File.{number4, number_at, words_of, mark4, mark_at, has_trailer, proof_refusal, read, refused, proof_reading, proof_answer, step_table}
use Rattle.prooffile.specs.File.Layout.{bytes4, word_bytes, trailer_bytes, file_of}

-- The words of four bytes: 1, −2, the highest and the lowest.
pub words_signed : words_of (1 ∷ 0 ∷ 0 ∷ 0 ∷ 254 ∷ 255 ∷ 255 ∷ 255 ∷ 255 ∷ 255 ∷ 255 ∷ 127 ∷ 0 ∷ 0 ∷ 0 ∷ 128 ∷ []) ≡ pos 1 ∷ negsuc 1 ∷ pos 2147483647 ∷ negsuc 2147483647 ∷ []
unfolding words_of number4
words_signed = refl

-- The mark.
abbrev pub mark : List ℕ
mark = 0x51 ∷ 0x44 ∷ 0x52 ∷ 0x31 ∷ []

-- A note of three bytes, the words 7 and −2, distance 8, C 7.
abbrev pub noted : List ℕ
noted = 111 ∷ 100 ∷ 100 ∷ 7 ∷ 0 ∷ 0 ∷ 0 ∷ 254 ∷ 255 ∷ 255 ∷ 255 ∷ 8 ∷ 0 ∷ 0 ∷ 0 ∷ 7 ∷ 0 ∷ 0 ∷ 0 ∷ mark

pub noted_read : proof_reading noted 7 2 ≡ read (pos 7 ∷ negsuc 1 ∷ [])
unfolding proof_reading proof_refusal has_trailer mark_at mark4 number_at number4 words_of
noted_read = refl

-- Its answer, and a table of four words.
pub noted_answer : (proof_answer (proof_reading noted 7 4) ≡ Ok 2) × (step_table (proof_reading noted 7 4) 4 ≡ pos 7 ∷ negsuc 1 ∷ pos 0 ∷ pos 0 ∷ [])
unfolding proof_reading proof_refusal has_trailer mark_at mark4 number_at number4 words_of
noted_answer = (refl, refl)

-- A file is refused, for a reason, at 0.
abbrev pub RefusedFor : List ℕ → ℕ → ℕ → Reason → Type 0
RefusedFor file count room reason = proof_reading file count room ≡ refused (refusal reason 0)

-- Another formula comes ahead of too small a table, which is then wholly 0.
pub noted_other_formula : RefusedFor noted 8 1 OtherFormula
unfolding proof_reading proof_refusal has_trailer mark_at mark4 number_at number4 words_of
noted_other_formula = refl

pub noted_no_room : RefusedFor noted 7 1 NoRoom
unfolding proof_reading proof_refusal has_trailer mark_at mark4 number_at number4 words_of
noted_no_room = refl

pub noted_no_room_table : step_table (proof_reading noted 7 1) 1 ≡ pos 0 ∷ []
unfolding proof_reading proof_refusal has_trailer mark_at mark4 number_at number4 words_of
noted_no_room_table = refl

-- The trailer alone, distance 0: a proof without steps.
pub no_steps : proof_reading (0 ∷ 0 ∷ 0 ∷ 0 ∷ 4 ∷ 0 ∷ 0 ∷ 0 ∷ mark) 4 0 ≡ read []
unfolding proof_reading proof_refusal has_trailer mark_at mark4 number_at number4 words_of
no_steps = refl

-- Nothing, and 11 bytes, whatever they are asked for.
pub empty_file : RefusedFor [] 0 0 NoTrailer
unfolding proof_reading proof_refusal has_trailer mark_at mark4 number_at number4 words_of
empty_file = refl

pub eleven_bytes : RefusedFor (0 ∷ 0 ∷ 0 ∷ 4 ∷ 0 ∷ 0 ∷ 0 ∷ mark) 4 0 NoTrailer
unfolding proof_reading proof_refusal has_trailer mark_at mark4 number_at number4 words_of
eleven_bytes = refl

-- A wrong mark; a distance that is no multiple of 4; one past the file's start, of 4 and of 2³² − 4: each ahead of 12.
pub wrong_mark : RefusedFor (0 ∷ 0 ∷ 0 ∷ 0 ∷ 4 ∷ 0 ∷ 0 ∷ 0 ∷ 0x31 ∷ 0x52 ∷ 0x44 ∷ 0x51 ∷ []) 4 0 NoTrailer
unfolding proof_reading proof_refusal has_trailer mark_at mark4 number_at number4 words_of
wrong_mark = refl

pub uneven_distance : RefusedFor (0 ∷ 0 ∷ 2 ∷ 0 ∷ 0 ∷ 0 ∷ 4 ∷ 0 ∷ 0 ∷ 0 ∷ mark) 5 0 NoTrailer
unfolding proof_reading proof_refusal has_trailer mark_at mark4 number_at number4 words_of
uneven_distance = refl

pub past_the_start : RefusedFor (0 ∷ 0 ∷ 0 ∷ 4 ∷ 0 ∷ 0 ∷ 0 ∷ 4 ∷ 0 ∷ 0 ∷ 0 ∷ mark) 5 9 NoTrailer
unfolding proof_reading proof_refusal has_trailer mark_at mark4 number_at number4 words_of
past_the_start = refl

pub far_past_the_start : RefusedFor (252 ∷ 255 ∷ 255 ∷ 255 ∷ 4 ∷ 0 ∷ 0 ∷ 0 ∷ mark) 5 9 NoTrailer
unfolding proof_reading proof_refusal has_trailer mark_at mark4 number_at number4 words_of
far_past_the_start = refl

-- C above 2³¹ is a count as any other: never wrapped.
pub high_count : proof_reading (0 ∷ 0 ∷ 0 ∷ 0 ∷ 0 ∷ 0 ∷ 0 ∷ 128 ∷ mark) 2147483648 0 ≡ read []
unfolding proof_reading proof_refusal has_trailer mark_at mark4 number_at number4 words_of
high_count = refl

-- 01's example: five steps, no note, C 4. The file has 120 bytes, distance 108.
abbrev pub example_steps : List ℤ
example_steps =
    (pos 2 ∷ pos 1 ∷ pos 2 ∷ pos 3 ∷ pos 0 ∷ [])
    ++ (pos 2 ∷ pos 2 ∷ negsuc 1 ∷ pos 4 ∷ pos 0 ∷ [])
    ++ (pos 1 ∷ pos 6 ∷ pos 3 ∷ pos 4 ∷ pos 1 ∷ pos 0 ∷ [])
    ++ (pos 1 ∷ pos 5 ∷ pos 4 ∷ pos 3 ∷ negsuc 0 ∷ pos 0 ∷ [])
    ++ (pos 1 ∷ pos 7 ∷ pos 8 ∷ pos 1 ∷ pos 0 ∷ [])

pub example_length : length (file_of [] example_steps 4) ≡ 120
unfolding file_of word_bytes bytes4 trailer_bytes
example_length = refl

pub example_trailer : drop 108 (file_of [] example_steps 4) ≡ 108 ∷ 0 ∷ 0 ∷ 0 ∷ 4 ∷ 0 ∷ 0 ∷ 0 ∷ mark
unfolding file_of word_bytes bytes4 trailer_bytes
example_trailer = refl

pub example_read : proof_reading (file_of [] example_steps 4) 4 27 ≡ read example_steps
unfolding proof_reading proof_refusal has_trailer mark_at mark4 number_at number4 words_of file_of word_bytes bytes4 trailer_bytes
example_read = refl
