-- What the checker and the evaluator promise together. They share the formula's tables and the definition of play.
pub mod Judges
pub mod Positions
pub mod LongDistance
