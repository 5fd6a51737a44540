-- Theorems on the definitions of specs/Tables.antt.
pub mod Laws
pub mod Examples
pub mod Refusals
