-- Theorems on the definitions of specs/Text/Sets.antt.
pub mod Laws
