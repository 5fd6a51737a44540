-- What steps are and what is asked of them (01, "Steps"; 02, P14).
-- What a reader must believe: Words, Rules, Steps, Scope, Empty, Lawful, Derived. As the code keeps and reads things: Marks, Existentials, Blocked,
-- Clause, Numbered, Known, Read, Result.
pub mod Words
pub mod Rules
pub mod Steps
pub mod Scope
pub mod Empty
pub mod Lawful
pub mod Derived
pub mod Marks
pub mod Existentials
pub mod Blocked
pub mod Clause
pub mod Numbered
pub mod Known
pub mod Read
pub mod Result
