-- Theorems on the definitions of specs/Signed.antt.
pub mod Laws
pub mod Numbers
pub mod Examples
