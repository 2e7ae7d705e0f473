-- What the exported functions that look up a live record leave.
pub mod LiveLookups
