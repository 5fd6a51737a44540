-- The definitions that the evaluator's contracts cite, and its theorems. What a reader must believe: Evaluation. Values
-- and Turns serve the functions below `evaluate`.
pub mod Evaluation
pub mod Values
pub mod Turns
