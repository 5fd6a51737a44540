-- Theorems on the definitions of specs/RoundTrip.antt.
pub mod Prefix
pub mod Clauses
pub mod Laws
