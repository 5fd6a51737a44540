-- Theorems on the definitions of specs/Result.antt.
pub mod Laws
