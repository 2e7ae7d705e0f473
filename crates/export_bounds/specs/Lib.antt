-- What the exported functions that bound a decision leave.
pub mod Bounds
