-- What the exported functions that decide and explain leave.
pub mod Calls
