-- The theorems on the definitions of specs/: laws of paths, dependence and play, worked examples, and soundness. They stand here, and
-- not in specs/, so that a wrong definition leaves specs/ whole and falls by a theorem.
pub mod Path
pub mod Dependency
pub mod Play
pub mod Examples
pub mod Soundness
