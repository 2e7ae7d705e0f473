-- The start of a buffer.
pub mod Prefix
