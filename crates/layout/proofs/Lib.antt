-- What stands in proofs/: theorems.
pub mod Theorems
