-- Laws that several proofs of this crate and of the checker cite.
pub mod Signed
pub mod Theorems
