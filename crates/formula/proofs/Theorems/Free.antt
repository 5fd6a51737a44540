-- Theorems on the definitions of specs/Free.antt.
pub mod Laws
pub mod Examples
pub mod Complete
