-- The laws of the tests, and of the call.
pub mod Walks
pub mod Answers
