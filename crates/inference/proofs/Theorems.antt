-- Theorems on the definitions of specs/, by the path of their subject there.
pub mod Steps
pub mod Marks
pub mod Blocked
pub mod Lawful
pub mod Scope
pub mod Result
