-- Laws that several proofs of this crate cite.
pub mod Signed
pub mod Scan
pub mod Record
pub mod SignedWord
pub mod Theorems
