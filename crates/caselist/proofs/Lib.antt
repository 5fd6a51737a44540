-- What the proofs of this crate share.
pub mod Escapes
pub mod Tokens
pub mod Fields
