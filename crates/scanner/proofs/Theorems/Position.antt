-- Theorems on the definitions of specs/Position.antt.
pub mod Laws
pub mod Examples
