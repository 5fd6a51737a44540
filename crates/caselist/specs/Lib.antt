-- What the contracts of this crate cite.
pub mod Escapes
pub mod Clear
pub mod Numbers
pub mod Tokens
