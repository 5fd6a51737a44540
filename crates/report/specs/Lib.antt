-- The definitions that the contracts of the printed lines cite. What a reader must believe: Line, Check, Dependents, Program, Exact.
pub mod Word
pub mod Line
pub mod Check
pub mod Dependents
pub mod Program
pub mod Exact
pub mod Printing
pub mod Settle
