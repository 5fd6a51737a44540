-- Theorems on dependence. Definitions: specs/Dependency.antt.
pub mod Laws
