-- What formulas, the game, resolution paths and refutations are. Definitions a reader must believe: Literal, Formula, Play, Path,
-- Dependency, Derivation; Restriction for the moves of the universal side. The theorems that join them stand in proofs/, the laws of a
-- subject below its name, as Path.Laws below Path.
pub mod Literal
pub mod Formula
pub mod Play
pub mod Path
pub mod Dependency
pub mod Derivation
pub mod Connectives
pub mod Restriction
