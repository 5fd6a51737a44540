-- Theorems on the definitions of specs/Steps.antt.
pub mod Tests
