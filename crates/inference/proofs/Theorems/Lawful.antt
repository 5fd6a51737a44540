-- Theorems on the definitions of specs/Lawful.antt.
pub mod Judged
pub mod Steps
