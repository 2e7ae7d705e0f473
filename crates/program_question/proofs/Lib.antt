-- The laws of what the arguments ask.
pub mod Questions
