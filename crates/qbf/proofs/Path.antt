-- Theorems on paths. Definitions: specs/Path.antt.
pub mod Laws
