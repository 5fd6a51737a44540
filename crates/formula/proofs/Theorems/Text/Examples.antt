-- Texts and what they are read as, by computation: 01's known positions on text, and cases for its rules and 02's. How they are written down is
-- in Text/Examples.
use Rattle.std.specs.Prelude.{◌≡◌, refl, [], ◌∷◌, pos, negsuc}
use Rattle.formula.specs.Refusal.{refusal}
use Rattle.formula.specs.Prefix.Examples.{e, a}
use Rattle.formula.specs.Text.Examples.{at, reads}
use Rattle.formula.specs.Text.{read, refused}
use Rattle.formula.specs.declared.refusal.Reason.TheVariants.{Headless, Oversized, NoRoom, BadToken, OutOfRange, BoundTwice, Clash, Unfinished, Miscount}

-- 01's two texts: bytes that part nothing glue into one token; a line end closes nothing.
pub comma_glues : reads "p cnf 2 1\ne 1 2 0\n1,2 0\n" ≡ refused (at BadToken 18 3 1)
unfolding reads
comma_glues = refl

pub line_end_closes_nothing : reads "p cnf 2 1\ne 1 2 0\n1\n2 0\n" ≡ read (e 1 1 (e 2 1 [])) (pos 1 ∷ pos 2 ∷ pos 0 ∷ []) 1
unfolding reads
line_end_closes_nothing = refl

-- A comment, then all on one line; neighbouring sets of one letter and a universal last set are accepted.
pub one_line : reads "c by hand\n\np cnf 3 2 e 1 0 e 3 0 a 2 0 -1 2 0 0" ≡ read (e 1 1 (e 3 1 (a 2 2 []))) (negsuc 0 ∷ pos 2 ∷ pos 0 ∷ pos 0 ∷ []) 2
unfolding reads
one_line = refl

-- Headless: an empty text, and a `c` that does not start its line.
pub empty_text : reads "" ≡ refused (at Headless 0 1 1)
unfolding reads
empty_text = refl

pub comment_not_first_in_line : reads "\n c\np cnf 0 0\n" ≡ refused (at Headless 2 2 2)
unfolding reads
comment_not_first_in_line = refl

-- A bound is passed as soon as the number is met; a number is never wrapped.
pub too_many_variables : reads "p cnf 1025 x" ≡ refused (refusal Oversized 0)
unfolding reads
too_many_variables = refl

pub number_not_wrapped : reads "p cnf 2 1 e 4294967297 0" ≡ refused (at OutOfRange 12 1 13)
unfolding reads
number_not_wrapped = refl

-- A set lists a variable at least, and none twice; -0 is no number.
pub empty_set : reads "p cnf 1 1\ne 0\n" ≡ refused (at BadToken 12 2 3)
unfolding reads
empty_set = refl

pub bound_twice : reads "p cnf 2 1 e 1 0 a 2 1 0" ≡ refused (at BoundTwice 20 1 21)
unfolding reads
bound_twice = refl

pub minus_zero : reads "p cnf 1 1 e 1 0 1 -0" ≡ refused (at BadToken 18 1 19)
unfolding reads
minus_zero = refl

-- From the header on there are no comments.
pub comment_after_header : reads "p cnf 1 1\nc\n" ≡ refused (at BadToken 10 2 1)
unfolding reads
comment_after_header = refl

-- The first literal that repeats or opposes an earlier one.
pub clash_at_the_third : reads "p cnf 2 1 e 1 2 0 1 2 -2 -1 0" ≡ refused (at Clash 22 1 23)
unfolding reads
clash_at_the_third = refl

-- Nine clause words, the last a closing 0.
pub no_room : reads "p cnf 2 9 e 1 0 1 0 0 0 0 0 0 0 0 0" ≡ refused (at NoRoom 32 1 33)
unfolding reads
no_room = refl

-- Variables that no set binds stand ahead of the sets, rising, and in the block of a first set of existentials; a clash of theirs is one, and above V they are out of range.
pub free_ahead : reads "p cnf 4 2 a 3 0 4 -2 0 3 2 0" ≡ read (e 2 1 (e 4 1 (a 3 2 []))) (pos 4 ∷ negsuc 1 ∷ pos 0 ∷ pos 3 ∷ pos 2 ∷ pos 0 ∷ []) 2
unfolding reads
free_ahead = refl

pub free_block : reads "p cnf 3 1 e 3 0 a 2 0 1 0" ≡ read (e 1 1 (e 3 1 (a 2 2 []))) (pos 1 ∷ pos 0 ∷ []) 1
unfolding reads
free_block = refl

pub free_clash : reads "p cnf 2 1\ne 1 0\n2 1 -2 0\n" ≡ refused (at Clash 20 3 5)
unfolding reads
free_clash = refl

pub free_above : reads "p cnf 2 1 3 0" ≡ refused (at OutOfRange 10 1 11)
unfolding reads
free_above = refl

-- Room for the completed prefix is asked for last, at the end; a clause that is not closed comes ahead of it.
pub free_without_room : reads "p cnf 9 1 e 1 2 3 4 5 6 7 8 0 9 0" ≡ refused (at NoRoom 33 1 34)
unfolding reads
free_without_room = refl

pub unfinished_ahead_of_room : reads "p cnf 9 1 e 1 2 3 4 5 6 7 8 0 9" ≡ refused (at Unfinished 31 1 32)
unfolding reads
unfinished_ahead_of_room = refl

-- A set that is cut off, ahead of clauses that are missing.
pub set_cut_off : reads "p cnf 2 1 e 1" ≡ refused (at Unfinished 13 1 14)
unfolding reads
set_cut_off = refl

-- With C 0, a token outside the sets.
pub token_with_no_clauses : reads "p cnf 1 0 a 1 0 x" ≡ refused (at Miscount 16 1 17)
unfolding reads
token_with_no_clauses = refl

-- The end of a text behind a last LF is on the next line; CR and tab are a column each.
pub end_behind_a_line : reads "p cnf 1 1\ne 1 0\n" ≡ refused (at Miscount 16 3 1)
unfolding reads
end_behind_a_line = refl

pub columns_of_cr_and_tab : reads "p cnf 1 1\r\ne 1 0\r\n\tx 0" ≡ refused (at BadToken 19 3 2)
unfolding reads
columns_of_cr_and_tab = refl
