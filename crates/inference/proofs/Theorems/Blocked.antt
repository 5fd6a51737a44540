-- Theorems on the definitions of specs/Blocked.antt.
pub mod Laws
