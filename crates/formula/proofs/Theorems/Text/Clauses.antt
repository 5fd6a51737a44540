-- Theorems on the definitions of specs/Text/Clauses.antt.
pub mod Laws
