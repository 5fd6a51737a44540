-- Theorems on the definitions of specs/Marks.antt.
pub mod Judging
