-- The flags of bytes.
pub mod Flags
