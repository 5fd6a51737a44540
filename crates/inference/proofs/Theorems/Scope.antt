-- Theorems on the definitions of specs/Scope.antt.
pub mod Laws
