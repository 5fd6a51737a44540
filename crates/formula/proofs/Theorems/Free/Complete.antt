-- Theorems on the definitions of specs/Free/Complete.antt.
pub mod Laws
