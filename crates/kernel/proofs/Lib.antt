-- The laws of the calls, which callers cite.
pub mod Answers
