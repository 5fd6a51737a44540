-- Theorems on the definitions of specs/Text/Fill.antt.
pub mod Laws
