-- What proofs and other crates cite.
pub mod Theorems
