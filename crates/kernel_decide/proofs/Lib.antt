-- The laws of what a scan comes to, which callers cite.
pub mod Decisions
pub mod Wholes
