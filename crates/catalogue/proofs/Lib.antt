-- The laws of the tests, stage by stage, and of the call.
pub mod Walks
pub mod Answers
