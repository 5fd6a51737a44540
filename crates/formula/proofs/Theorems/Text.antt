-- Theorems on the definitions of specs/Text.antt.
pub mod Distinct
pub mod Sets
pub mod Fill
pub mod Admits
pub mod Clauses
pub mod Examples
