-- The definitions that the contracts of a file's reading cite.
pub mod Reading
pub mod Calls
