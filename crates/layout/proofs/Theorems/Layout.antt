-- Theorems on the definitions of specs/Layout.antt.
pub mod Examples
