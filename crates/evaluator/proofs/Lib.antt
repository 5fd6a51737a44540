-- Laws that several proofs of this crate cite.
pub mod Signed
pub mod Words
pub mod Position
