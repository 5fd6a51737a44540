-- Theorems on play. Definitions: specs/Play.antt.
pub mod Laws
