-- Theorems on the definitions of specs/Token.antt.
pub mod Laws
pub mod Numbers
