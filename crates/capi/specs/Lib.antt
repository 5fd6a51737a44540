-- The definitions that the C functions' contracts cite.
pub mod Codes
