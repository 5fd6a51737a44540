-- The definitions that layer 3's contracts cite, and the theorems that say what they compute. Steps themselves are in `inference`.
-- What a reader must believe: Verdict, Refutation. As the code keeps things: Step, Merge, Run.
pub mod Verdict
pub mod Refutation
pub mod Step
pub mod Merge
pub mod Run
