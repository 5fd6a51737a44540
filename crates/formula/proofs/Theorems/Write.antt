-- Theorems on the definitions of specs/Write.antt.
pub mod Lines
pub mod Length
