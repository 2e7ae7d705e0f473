-- What the exported functions that look something up leave.
pub mod Lookups
